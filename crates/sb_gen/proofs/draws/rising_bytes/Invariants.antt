-- The bytes so far stand in the room that was taken for all.
use Rattle.std.proofs.Common.{◌≡◌, vec_len}
use Rattle.std.specs.Prelude.{vec_capacity}
use Rattle.sb_gen.specs.Drawn.{rising_bytes}
use Rattle.sb_gen.proofs.draws.rising_bytes.Given as goal

abbrev pub invariant-loop-j : goal.invariant-loop-j
invariant-loop-j l = record {
  bytes : l.bytes.items ≡ rising_bytes l.first l.j;
  count : vec_len l.bytes ≡ l.j;
  room : vec_capacity l.bytes ≡ l.span;
}
