-- After a whole run each host finds the journal's answers.
use Rattle.sb_laws.proofs.HostAnswers.{host_answers_law}
use Rattle.sb_laws.proofs.laws.answers_are_the_journals.Goals as goal

pub returns : goal.returns
returns c = record { found = λ network layout journal m laid now ended. host_answers_law network layout journal m laid now ended.there ended.back }
