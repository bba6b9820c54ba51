-- A direction that has handed on what came keeps a router's promise.
use Rattle.sb_router.specs.Ways.{route_of}
use Rattle.sb_laws.proofs.RouterSides.{router_promise}
use Rattle.sb_laws.proofs.router_laws.routers_keep_their_promise.Goals as goal

pub returns-clause-flow : goal.returns-clause-flow
returns-clause-flow c = λ network course m outs d f i o has of whole passes h. router_promise network course m outs (route_of d.rows) d.lane has of whole f i o passes h

pub returns-clause-all_flows : goal.returns-clause-all_flows
returns-clause-all_flows c = λ network course m outs d f i o has of whole passes all.
    router_promise network course m outs (route_of d.rows) d.lane has of whole f i o passes (c.routers_hand_on.ensures.forwarded _ d f i o all passes)
