-- Words without a line feed are a line; where it isn't there, it is the first that differs.
use Rattle.sb_check.proofs.CompareLemmas.{compared_not, line_within, not_there}
use Rattle.sb_check.proofs.whole_lines.take_line.Goals as goal

pub returns-in_err-line : goal.returns-in_err-line
returns-in_err-line c = record { compared = compared_not c.from_residual.result _ _ c.from_residual.ensures.0 (not_there _ _ (line_within _ c.requires) c.in_err-line.ensures.matched.differs) }
