-- The words so far are printed or wait, and the sink has not failed.
use Rattle.std.proofs.Common.{◌∷◌, take, Ok}
use Rattle.sb_text.specs.TextLines.{word_text}
use Rattle.sb_text.specs.Printing.{IsPrinted}
use Rattle.sb_io.specs.declared.output.WriteFailed.{WriteFailed}
use Rattle.sb_text.proofs.IndexedLemmas.{indexed}
use Rattle.sb_text.proofs.report.words.print_rest.Given as goal

abbrev pub invariant-loop-index : goal.invariant-loop-index
invariant-loop-index g l = IsPrinted {T = Unit {0}} {E = WriteFailed} g.K.Sink (Ok tt) l.fn.sink l.sink l.fn.buffer l.buffer (indexed (λ k w. 32 ∷ word_text w) 0 (take l.index l.words))
