-- Nothing is lost on the way to a device so far.
use Rattle.std.proofs.Common.{◌≡◌, ◌-◌}
use Rattle.std.specs.Prelude.{filter}
use Rattle.std.specs.List.{range_with_len}
use Rattle.std.specs.Vec.{vec_len}
use Rattle.sb_flow.specs.Ways.{aims_at}
use Rattle.sb_flow.specs.Accepted.{first_told, lost_of_host, lost_on_way}
use Rattle.sb_flow.specs.Rows.{host_of}
use Rattle.sb_topology.specs.Held.{whole_network}
use Rattle.sb_topology.proofs.ways.lost_of_host.Given as goal

abbrev pub invariant-loop-device : goal.invariant-loop-device
invariant-loop-device l = lost_of_host (whole_network l.rows) l.host (host_of l.plan) ≡ first_told (lost_on_way (whole_network l.rows) l.host) (filter (aims_at (whole_network l.rows) (host_of l.plan)) (range_with_len l.device (vec_len l.rows.devices - l.device)))
