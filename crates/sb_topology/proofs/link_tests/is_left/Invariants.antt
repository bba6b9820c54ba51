-- No link so far leaves the host.
use Rattle.std.proofs.Common.{◌≡◌, drop, map}
use Rattle.std.specs.List.{list_any}
use Rattle.sb_packet.specs.Networks.{leaves_from}
use Rattle.sb_flow.specs.Rows.{link_of}
use Rattle.sb_topology.proofs.link_tests.is_left.Given as goal

abbrev pub invariant-loop-link : goal.invariant-loop-link
invariant-loop-link l = list_any (leaves_from l.host) (map link_of l.links) ≡ list_any (leaves_from l.host) (map link_of (drop l.link-index l.links))
