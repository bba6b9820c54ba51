-- So far the lines are those of the transactions so far.
use Rattle.std.proofs.Common.{◌≡◌, take}
use Rattle.std.specs.Prelude.{map}
use Rattle.sb_flow.specs.NetworkOf.{network_of}
use Rattle.sb_host.specs.Asked.{line_in}
use Rattle.sb_host.proofs.script.lines_of.Given as goal

abbrev pub invariant-loop-txn : goal.invariant-loop-txn
invariant-loop-txn l = record { lines : l.lines.items ≡ map (line_in (network_of l.bundle)) (take l.txn-index l.script) }
