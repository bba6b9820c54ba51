-- The words of the transactions so far are counted.
use Rattle.std.proofs.Common.{◌≡◌, ◌≤◌, ◌*◌, take}
use Rattle.std.specs.Prelude.{sum_by}
use Rattle.sb_flow.proofs.words.script_words.Given as goal

abbrev pub invariant-loop-txn : goal.invariant-loop-txn
invariant-loop-txn l = record {
  words : l.words ≡ sum_by (λ t. t.count) (take l.txn-index l.script);
  limit : l.words ≤ 256 * l.txn-index;
}
