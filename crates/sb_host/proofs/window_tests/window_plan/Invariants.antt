-- The lines so far are few, and each can be issued.
use Rattle.std.proofs.Common.{◌≤◌, ◌*◌, length}
use Rattle.sb_host.specs.Asked.{AreTransactions}
use Rattle.sb_host.proofs.window_tests.window_plan.Given as goal

abbrev pub invariant-loop : goal.invariant-loop
invariant-loop l = record {
  few : length l.lines.items ≤ 2 * l.counter;
  issuable : AreTransactions l.lines.items;
}
