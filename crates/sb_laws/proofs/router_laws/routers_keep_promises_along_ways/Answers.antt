-- All routers on the way of each flow keep their promises.
use Rattle.sb_laws.proofs.RoutersAlongWays.{answers_along, requests_along}
use Rattle.sb_laws.proofs.router_laws.routers_keep_promises_along_ways.Goals as goal

pub returns-clause-requests : goal.returns-clause-requests
returns-clause-requests c = λ network m router routed ids at. requests_along network m router routed ids c.routers_hand_on.ensures.forwarded at

pub returns-clause-answers : goal.returns-clause-answers
returns-clause-answers c = λ network m router routed ids at. answers_along network m router routed ids c.routers_hand_on.ensures.forwarded at
