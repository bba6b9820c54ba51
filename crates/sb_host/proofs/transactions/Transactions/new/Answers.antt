-- The table is empty, and so is the window.
use Rattle.sb_host.proofs.transactions.Transactions.new.Goals as goal

pub invariant_of-result : goal.invariant_of-result
invariant_of-result c = (c.in_ok-table.ensures.empty.rows_of_lines, c.new-2.ensures.window c.args.script_plan.lines.items)
