-- The words so far and one transaction's are no more than the whole script's.
use Rattle.std.proofs.Common.{arith}
use Rattle.sb_flow.specs.Rows.{device_of}
use Rattle.sb_flow.specs.Rings.{answered_at}
use Rattle.sb_flow.proofs.ScriptSums.{words_fit, answered_at-le}
use Rattle.sb_flow.proofs.script_counts.answered_words.Goals as goal

pub overflow_add-words : goal.overflow_add-words
overflow_add-words c = omega (arith, words_fit (answered_at (device_of c.args.device.now)) c.args.script.now c.loop-txn.txn-index c.txn-item.result c.loop-txn.words c.answered_words_of-words.result (answered_at-le (device_of c.args.device.now)) c.loop-txn-test.true c.txn-item.is c.loop-txn.invariant c.answered_words_of-words.ensures)
