-- The table keeps the words so far, and its rows.
use Rattle.std.proofs.Common.{◌≡◌, length, List, ◌++◌, take}
use Rattle.sb_packet.specs.Accesses.{Access, accesses_of}
use Rattle.sb_host.specs.Places.{asked_of}
use Rattle.sb_host.specs.Rows.{IsTable}
use Rattle.sb_host.proofs.transaction_table.TransactionTable.take.Given as goal

abbrev pub invariant-loop-word : goal.invariant-loop-word
invariant-loop-word l = record {
  rows : length l.self.rows.items ≡ length l.fn.self.rows.items;
  so_far : (received : List Access) → IsTable (asked_of l.script_plan) received l.fn.self.rows.items → IsTable (asked_of l.script_plan) (received ++ take l.word (accesses_of l.packet)) l.self.rows.items;
}
