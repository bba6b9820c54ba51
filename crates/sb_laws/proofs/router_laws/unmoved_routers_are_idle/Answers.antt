-- A router that didn't move is idle in both directions.
use Rattle.sb_laws.proofs.RouterSides.{unmoved_answers, unmoved_requests}
use Rattle.sb_laws.proofs.router_laws.unmoved_routers_are_idle.Goals as goal

pub returns-clause-requests : goal.returns-clause-requests
returns-clause-requests c = λ stages e stage before after answer whole turn still shows at. unmoved_requests stages e stage before after answer whole turn still shows at

pub returns-clause-answers : goal.returns-clause-answers
returns-clause-answers c = λ stages e stage before after answer whole turn still shows at. unmoved_answers stages e stage before after answer whole turn still shows at
