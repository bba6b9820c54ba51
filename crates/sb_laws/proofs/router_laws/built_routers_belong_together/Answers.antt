-- The rings of a direction that is built for a network belong together.
use Rattle.sb_laws.proofs.NetworkRouters.{answers_laid, answers_router, requests_laid, requests_router}
use Rattle.sb_laws.proofs.router_laws.built_routers_belong_together.Goals as goal

pub returns-clause-requests : goal.returns-clause-requests
returns-clause-requests c = λ network r d routed built. requests_laid network routed r d built

pub returns-clause-answers : goal.returns-clause-answers
returns-clause-answers c = λ network r d routed built. answers_laid network routed r d built

pub returns-clause-request_router : goal.returns-clause-request_router
returns-clause-request_router c = λ network r d routed built. requests_router network routed r d built

pub returns-clause-answer_router : goal.returns-clause-answer_router
returns-clause-answer_router c = λ network r d routed built. answers_router network routed r d built
