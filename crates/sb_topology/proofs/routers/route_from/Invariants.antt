-- No route so far goes from the device.
use Rattle.std.proofs.Common.{◌≡◌, bytes_eq, drop, map}
use Rattle.std.specs.List.{find}
use Rattle.sb_fields.specs.Held.{written_route}
use Rattle.sb_topology.proofs.routers.route_from.Given as goal

abbrev pub invariant-loop-route : goal.invariant-loop-route
invariant-loop-route l = find (λ route. bytes_eq l.device route.device) (map written_route l.routes) ≡ find (λ route. bytes_eq l.device route.device) (map written_route (drop l.route-index l.routes))
