-- What may go over a ring by its plan is words of its flows.
use Rattle.sb_laws.proofs.CarriedPlans.{planned_requests, planned_answers}
use Rattle.sb_laws.proofs.network_laws.planned_words_are_carried.Goals as goal

pub returns-clause-requests : goal.returns-clause-requests
returns-clause-requests c = λ network k list routed here turn. planned_requests network routed k list here turn

pub returns-clause-answers : goal.returns-clause-answers
returns-clause-answers c = λ network k list routed here turn. planned_answers network routed k list here turn
