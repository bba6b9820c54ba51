-- The name is none of those so far.
use Rattle.std.proofs.Common.{◌≡◌, map, drop, bytes_eq}
use Rattle.std.specs.List.{position_from}
use Rattle.sb_topology.proofs.new_names.place_among.Given as goal

abbrev pub invariant-loop-place : goal.invariant-loop-place
invariant-loop-place l = position_from (bytes_eq l.name) 0 (map (λ n. n.now) l.names) ≡ position_from (bytes_eq l.name) l.place (map (λ n. n.now) (drop l.place l.names))
