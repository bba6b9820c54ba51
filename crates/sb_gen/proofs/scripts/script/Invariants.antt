-- The transactions so far stand in the room that was taken for all, and six draws were taken for each.
use Rattle.std.proofs.Common.{◌≡◌, ◌*◌, vec_len}
use Rattle.std.specs.Prelude.{vec_capacity}
use Rattle.sb_gen.specs.Congruence.{state_after}
use Rattle.sb_gen.specs.Generated.{gen_transactions}
use Rattle.sb_gen.proofs.scripts.script.Given as goal

abbrev pub invariant-loop-line : goal.invariant-loop-line
invariant-loop-line l = record {
  transactions : l.txns.items ≡ gen_transactions l.fn.generator.state 0 l._line;
  state : l.generator.state ≡ state_after l.fn.generator.state (6 * l._line);
  count : vec_len l.txns ≡ l._line;
  room : vec_capacity l.txns ≡ 2048;
}
