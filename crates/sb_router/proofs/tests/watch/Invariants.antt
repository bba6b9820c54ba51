-- The router is whole, and sends by the port at the place over the ring whose far end is watched.
use Rattle.std.specs.Prelude.{◌≡◌, ◌<◌, length}
use Rattle.sb_router.specs.Routers.{IsWholeRouter, router_port, router_ports}
use Rattle.sb_router.proofs.tests.watch.Given as goal

abbrev pub invariant-loop-round : goal.invariant-loop-round
invariant-loop-round g l = IsWholeRouter l.router × (l.place < length (router_ports l.router)) × ((router_port l.router l.place).mark ≡ g.F.Rx.RxEnd.mark l.far)
