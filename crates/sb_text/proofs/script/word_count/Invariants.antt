-- The words of the transactions so far are counted.
use Rattle.std.proofs.Common.{◌≡◌, ◌≤◌, ◌*◌, take}
use Rattle.sb_text.specs.Scripts.{words_together}
use Rattle.sb_text.proofs.script.word_count.Given as goal

abbrev pub invariant-loop-txn : goal.invariant-loop-txn
invariant-loop-txn l = record {
  words : l.words ≡ words_together (take l.txn-index l.txns);
  limit : l.words ≤ 256 * l.txn-index;
}
