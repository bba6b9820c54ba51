-- Nothing waited, and nothing waits.
use Rattle.sb_text.proofs.PrintLemmas.{part_gained, whole_gained}
use Rattle.sb_text.proofs.report.words.write_line.Goals as goal

pub returns-clause-done : goal.returns-clause-done
returns-clause-done g c = whole_gained g.K.Sink c.print_last.result _ _ _ _ _ c.new-buffer.ensures c.print_last.ensures.empty c.print_last.ensures.printed

pub returns-clause-part : goal.returns-clause-part
returns-clause-part g c = part_gained g.K.Sink c.print_last.result _ _ _ _ _ c.new-buffer.ensures c.print_last.ensures.printed
