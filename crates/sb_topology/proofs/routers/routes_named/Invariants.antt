-- The routes so far are named, so what is to be tested is left.
use Rattle.std.proofs.Common.{◌≡◌, drop, map}
use Rattle.sb_fields.specs.Held.{written_route}
use Rattle.sb_topology.specs.Names.{routes_named as routes_named_by, routes_path}
use Rattle.sb_topology.specs.Held.{given_names}
use Rattle.sb_topology.proofs.routers.routes_named.Given as goal

abbrev pub invariant-loop-route : goal.invariant-loop-route
invariant-loop-route l = routes_named_by (given_names l.names) (routes_path l.number) (map written_route l.routes) ≡ routes_named_by (given_names l.names) (routes_path l.number) (map written_route (drop l.route-index l.routes))
