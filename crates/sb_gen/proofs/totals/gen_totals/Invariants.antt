-- The words and bytes of the transactions so far are counted, and six draws were taken for each.
use Rattle.std.proofs.Common.{◌≡◌, ◌≤◌, ◌*◌, ◌^◌}
use Rattle.std.specs.Prelude.{sum_by}
use Rattle.sb_gen.specs.Congruence.{state_after}
use Rattle.sb_gen.specs.Generated.{gen_transactions}
use Rattle.sb_gen.proofs.totals.gen_totals.Given as goal

abbrev pub invariant-loop-transaction : goal.invariant-loop-transaction
invariant-loop-transaction l = record {
  state : l.generator.state ≡ state_after l.number (6 * l._transaction);
  words : l.words ≡ sum_by (λ t. t.count) (gen_transactions l.number 0 l._transaction);
  bytes : l.bytes ≡ sum_by (λ t. t.count * 2 ^ t.size) (gen_transactions l.number 0 l._transaction);
  few_words : l.words ≤ 16 * l._transaction;
  few_bytes : l.bytes ≤ 128 * l._transaction;
}
