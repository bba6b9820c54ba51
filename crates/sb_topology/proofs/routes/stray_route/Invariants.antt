-- No route of a router so far leads astray.
use Rattle.std.proofs.Common.{◌≡◌, ◌-◌}
use Rattle.std.specs.List.{range_with_len}
use Rattle.std.specs.Vec.{vec_len}
use Rattle.sb_flow.specs.Accepted.{first_told, stray_route, stray_route_of}
use Rattle.sb_topology.specs.Held.{whole_network}
use Rattle.sb_topology.proofs.routes.stray_route.Given as goal

abbrev pub invariant-loop-router : goal.invariant-loop-router
invariant-loop-router l = stray_route (whole_network l.rows) ≡ first_told (stray_route_of (whole_network l.rows)) (range_with_len l.router (vec_len l.rows.routers - l.router))
