-- Links lead to all devices so far.
use Rattle.std.proofs.Common.{◌≡◌, ◌-◌, map, not}
use Rattle.std.specs.List.{find, list_any, range_with_len}
use Rattle.sb_packet.specs.Networks.{leads_to}
use Rattle.sb_flow.specs.Rows.{link_of}
use Rattle.sb_topology.proofs.link_tests.unlinked_device.Given as goal

abbrev pub invariant-loop-device : goal.invariant-loop-device
invariant-loop-device l = find (λ d. not (list_any (leads_to d) (map link_of l.links))) (range_with_len 0 l.devices) ≡ find (λ d. not (list_any (leads_to d) (map link_of l.links))) (range_with_len l.device (l.devices - l.device))
