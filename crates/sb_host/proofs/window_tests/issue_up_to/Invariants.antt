-- The transactions stay in order, and their table one of what came.
use Rattle.std.proofs.Common.{List}
use Rattle.sb_packet.specs.Accesses.{Access}
use Rattle.sb_host.specs.Progress.{HasComeTo, IsNextAimed}
use Rattle.sb_host.specs.Rows.{IsTable}
use Rattle.sb_host.proofs.window_tests.issue_up_to.Given as goal

abbrev pub invariant-loop-count : goal.invariant-loop-count
invariant-loop-count l = record {
  come : HasComeTo l.transactions.asked l.transactions.next l.transactions.part;
  aimed : IsNextAimed l.transactions;
  table : (received : List Access) × IsTable l.transactions.asked received l.transactions.rows;
}
