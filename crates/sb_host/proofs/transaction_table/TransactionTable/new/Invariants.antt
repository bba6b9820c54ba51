-- So far each transaction has a row without an answer.
use Rattle.std.proofs.Common.{◌≡◌, ◌<◌, ℕ, None, length, replicate, slice_index_or}
use Rattle.sb_host.specs.declared.transaction_plan.TransactionPlan.{TransactionPlan}
use Rattle.sb_host.specs.declared.answer_row.AnswerRow.{AnswerRow}
use Rattle.sb_host.specs.Rows.{IsRow, answer_width}
use Rattle.sb_host.proofs.transaction_table.TransactionTable.new.Given as goal

abbrev pub invariant-loop-line : goal.invariant-loop-line
invariant-loop-line l = record {
  rows : length l.rows.items ≡ l.line-index;
  each : (i : ℕ) (d : TransactionPlan) (r : AnswerRow) → i < l.line-index
      → IsRow (answer_width (slice_index_or l.script_plan.lines.items i d)) (replicate (slice_index_or l.script_plan.lines.items i d).txn.count None) (slice_index_or l.rows.items i r);
}
