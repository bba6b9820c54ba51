-- The names so far are new, their routes go to what is there, and the routers so far are planned.
use Rattle.std.proofs.Common.{◌≡◌, drop, map, take}
use Rattle.std.specs.Vec.{vec_len}
use Rattle.sb_flow.specs.Rows.{net_router_of}
use Rattle.sb_fields.specs.Counted.{counted_router}
use Rattle.sb_topology.specs.Names.{routers_by}
use Rattle.sb_topology.specs.Held.{given_names}
use Rattle.sb_topology.specs.Places.{placed_router}
use Rattle.sb_topology.proofs.routers.router_plans.Given as goal

abbrev pub invariant-loop-number : goal.invariant-loop-number
invariant-loop-number l = record {
  names : routers_by (given_names l.names) 0 (map (λ n. n.now) l.initial.earlier.items) (map counted_router l.routers) ≡ routers_by (given_names l.names) l.number (map (λ n. n.now) l.earlier.items) (map counted_router (drop l.number l.routers));
  plans : map (net_router_of (vec_len l.names.devices)) l.plans.items ≡ map (placed_router (given_names l.names)) (map counted_router (take l.number l.routers));
  many : vec_len l.plans ≡ l.number;
}
