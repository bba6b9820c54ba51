-- A direction that did nothing is idle at its rings.
use Rattle.sb_router.specs.Ways.{route_of}
use Rattle.sb_laws.proofs.RouterSides.{idle_receivers, idle_senders}
use Rattle.sb_laws.proofs.router_laws.idle_routers_are_idle.Goals as goal

pub returns-clause-receivers : goal.returns-clause-receivers
returns-clause-receivers c = λ stages e stage d shows at whole idle. idle_receivers stages e stage (route_of d.rows) d.lane shows at whole idle

pub returns-clause-senders : goal.returns-clause-senders
returns-clause-senders c = λ stages e stage d shows at whole idle closes. idle_senders stages e stage (route_of d.rows) d.lane shows at whole idle closes
