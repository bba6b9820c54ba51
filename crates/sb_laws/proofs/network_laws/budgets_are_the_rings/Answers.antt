-- What may go over a ring by its flows is what may by its link's ways.
use Rattle.sb_laws.proofs.CarriedRings.{request_budget, answer_budget}
use Rattle.sb_laws.proofs.network_laws.budgets_are_the_rings.Goals as goal

pub returns-clause-requests : goal.returns-clause-requests
returns-clause-requests c = λ network k ways here. request_budget network ways k here

pub returns-clause-answers : goal.returns-clause-answers
returns-clause-answers c = λ network k ways here. answer_budget network ways k here
