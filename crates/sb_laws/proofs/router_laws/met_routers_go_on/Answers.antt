-- A meeting of its ends changes nothing of what a direction promises.
use Rattle.sb_laws.proofs.RouterEnds.{met_direction, met_whole}
use Rattle.sb_laws.proofs.router_laws.met_routers_go_on.Goals as goal

pub returns-clause-whole : goal.returns-clause-whole
returns-clause-whole c = λ before after met whole. met_whole before after met whole

pub returns-clause-forwards : goal.returns-clause-forwards
returns-clause-forwards c = λ words before after met all. met_direction before after met words all
