-- The names so far are those of the things so far.
use Rattle.std.proofs.Common.{◌≡◌, map, take}
use Rattle.std.specs.Vec.{vec_len}
use Rattle.sb_topology.proofs.named.names.Given as goal

abbrev pub invariant-loop-thing : goal.invariant-loop-thing
invariant-loop-thing g l = record {
  names : map (λ name. name.now) l.names.items ≡ map g.T.Named.name_of (map g.T.Named.written (take l.thing-index l.things));
  many : vec_len l.names ≡ l.thing-index;
}
