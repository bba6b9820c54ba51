-- The lines of the transactions so far are printed or wait, and the sink has not failed.
use Rattle.std.proofs.Common.{◌≡◌, [], take, length, Ok}
use Rattle.std.specs.Prelude.{slice_index_or}
use Rattle.sb_packet.specs.Answers.{RunResults}
use Rattle.sb_io.specs.declared.output.WriteFailed.{WriteFailed}
use Rattle.sb_text.specs.Reports.{outcome_line}
use Rattle.sb_text.specs.Printing.{IsPrinted}
use Rattle.sb_text.proofs.IndexedLemmas.{indexed}
use Rattle.sb_text.proofs.report.hosts.print_outcomes.Given as goal

abbrev pub invariant-loop-index : goal.invariant-loop-index
invariant-loop-index g l = (told : RunResults) → g.R.Results.tells l.results told → l.count ≡ length (slice_index_or told.outcomes l.host [])
    → IsPrinted {T = Unit {0}} {E = WriteFailed} g.K.Sink (Ok tt) l.fn.sink l.sink l.fn.buffer l.buffer (indexed outcome_line 0 (take l.index (slice_index_or told.outcomes l.host [])))
