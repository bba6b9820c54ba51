-- No route so far leads astray.
use Rattle.std.proofs.Common.{◌≡◌, ◌-◌, None, Some}
use Rattle.std.specs.Prelude.{if◌then◌else◌}
use Rattle.std.specs.List.{range_with_len}
use Rattle.std.specs.Vec.{vec_len}
use Rattle.sb_flow.specs.Accepted.{RouteAt, first_told, is_stray, stray_route_of}
use Rattle.sb_topology.specs.Held.{whole_network}
use Rattle.sb_topology.proofs.routes.stray_of.Given as goal

abbrev pub invariant-loop-device : goal.invariant-loop-device
invariant-loop-device l = stray_route_of (whole_network l.rows) l.router ≡ first_told {B = RouteAt} (λ d. if is_stray (whole_network l.rows) l.router d then Some (record { router = l.router; device = d }) else None) (range_with_len l.device (vec_len l.rows.devices - l.device))
