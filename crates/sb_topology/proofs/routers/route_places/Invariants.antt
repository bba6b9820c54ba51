-- The places so far have the routes to their devices.
use Rattle.std.proofs.Common.{◌≡◌, length, map, take}
use Rattle.sb_fields.specs.Held.{written_route}
use Rattle.sb_topology.specs.Held.{given_names}
use Rattle.sb_topology.specs.Places.{route_to as route_to_by}
use Rattle.sb_topology.proofs.routers.route_places.Given as goal

abbrev pub invariant-loop-device : goal.invariant-loop-device
invariant-loop-device l = record {
  whole : length l.places ≡ 32;
  routes : take l.device l.places ≡ map (route_to_by (given_names l.names) (map written_route l.routes)) (map (λ n. n.now) (take l.device l.names.devices.items));
}
