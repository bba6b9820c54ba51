-- Nothing waited, and nothing waits.
use Rattle.sb_text.proofs.PrintLemmas.{part_gained, whole_gained}
use Rattle.sb_text.proofs.report.write_report.Goals as goal

pub returns-clause-done : goal.returns-clause-done
returns-clause-done g c = λ told tells. whole_gained g.K.Sink c.print_report.result _ _ _ _ _ c.new-buffer.ensures c.print_report.ensures.empty (c.print_report.ensures.printed told tells)

pub returns-clause-part : goal.returns-clause-part
returns-clause-part g c = λ told tells. part_gained g.K.Sink c.print_report.result _ _ _ _ _ c.new-buffer.ensures (c.print_report.ensures.printed told tells)

pub returns-clause-cause : goal.returns-clause-cause
returns-clause-cause g c = let all = c.print_report.ensures.printed c.requires.told.0 c.requires.told.1 in all.cause

pub returns-clause-clean : goal.returns-clause-clean
returns-clause-clean g c = let all = c.print_report.ensures.printed c.requires.told.0 c.requires.told.1 in all.clean
