-- The first line is there, and the second isn't.
use Rattle.sb_check.proofs.ReadingLemmas.{second_missing}
use Rattle.sb_check.proofs.history.read_heading.Goals as goal

pub returns-in-None-clause-form : goal.returns-in-None-clause-form
returns-in-None-clause-form c = λ network. second_missing network _ _ c.in-Some.ensures c.in-None.ensures
