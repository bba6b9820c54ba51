-- By the ends that a link may have.
use Rattle.sb_flow.proofs.AcceptedLinks.{rises_down, rises_up}
use Rattle.sb_flow.proofs.laws.links_rise.Goals as goal

pub returns-clause-requests : goal.returns-clause-requests
returns-clause-requests c = rises_down

pub returns-clause-answers : goal.returns-clause-answers
returns-clause-answers c = rises_up
