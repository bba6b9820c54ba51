-- No link so far leaves the host.
use Rattle.std.proofs.Common.{◌≡◌, drop, map}
use Rattle.std.specs.List.{position_from}
use Rattle.sb_packet.specs.Networks.{leaves_from}
use Rattle.sb_flow.specs.Rows.{link_of}
use Rattle.sb_topology.proofs.ways.first_leaving.Given as goal

abbrev pub invariant-loop-place : goal.invariant-loop-place
invariant-loop-place l = position_from (leaves_from l.host) 0 (map link_of l.links) ≡ position_from (leaves_from l.host) l.place (map link_of (drop l.place l.links))
