-- The words so far.
use Rattle.std.proofs.Common.{◌≡◌, take, sum_by}
use Rattle.sb_flow.specs.Rows.{device_of}
use Rattle.sb_flow.specs.Rings.{answered_at}
use Rattle.sb_flow.proofs.script_counts.answered_words.Given as goal

abbrev pub invariant-loop-txn : goal.invariant-loop-txn
invariant-loop-txn l = l.words ≡ sum_by (answered_at (device_of l.device)) (take l.txn-index l.script)
