-- What came so far is in the table.
use Rattle.std.proofs.Common.{List}
use Rattle.sb_packet.specs.Accesses.{Access}
use Rattle.sb_host.specs.Places.{asked_of}
use Rattle.sb_host.specs.Rows.{IsTable}
use Rattle.sb_host.proofs.tests.take_all.Given as goal

abbrev pub invariant-loop-answer : goal.invariant-loop-answer
invariant-loop-answer l = record { table : (received : List Access) × IsTable (asked_of l.script_plan) received l.table.rows.items }
