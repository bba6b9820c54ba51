-- The lines of the entries so far are printed or wait, and the sink has not failed.
use Rattle.std.proofs.Common.{take, Ok}
use Rattle.sb_io.specs.declared.output.WriteFailed.{WriteFailed}
use Rattle.sb_flow.specs.NetworkOf.{network_of}
use Rattle.sb_text.specs.Reports.{entry_part}
use Rattle.sb_text.specs.Printing.{IsPrinted}
use Rattle.sb_text.proofs.IndexedLemmas.{indexed}
use Rattle.sb_text.proofs.report.history.print_entries.Given as goal

abbrev pub invariant-loop-index : goal.invariant-loop-index
invariant-loop-index g l = IsPrinted {T = Unit {0}} {E = WriteFailed} g.K.Sink (Ok tt) l.fn.sink l.sink l.fn.buffer l.buffer (indexed (λ k e. entry_part (network_of l.bundle) l.shown e) 0 (take l.index l.entries))
