-- The lines of the rows so far are printed or wait, and the sink has not failed.
use Rattle.std.proofs.Common.{take, length, ◌/◌, Ok}
use Rattle.sb_io.specs.declared.output.WriteFailed.{WriteFailed}
use Rattle.sb_text.specs.Reports.{row_line, image_rows}
use Rattle.sb_text.specs.Printing.{IsPrinted}
use Rattle.sb_text.proofs.IndexedLemmas.{indexed}
use Rattle.sb_text.proofs.report.devices.print_image.Given as goal

abbrev pub invariant-loop-k : goal.invariant-loop-k
invariant-loop-k g l = IsPrinted {T = Unit {0}} {E = WriteFailed} g.K.Sink (Ok tt) l.fn.sink l.sink l.fn.buffer l.buffer (indexed row_line 0 (take l.k (image_rows (length l.bytes / 32) l.bytes)))
