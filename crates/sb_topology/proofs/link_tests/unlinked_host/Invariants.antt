-- Links leave all hosts so far.
use Rattle.std.proofs.Common.{◌≡◌, ◌-◌, map, not}
use Rattle.std.specs.List.{find, list_any, range_with_len}
use Rattle.sb_packet.specs.Networks.{leaves_from}
use Rattle.sb_flow.specs.Rows.{link_of}
use Rattle.sb_topology.proofs.link_tests.unlinked_host.Given as goal

abbrev pub invariant-loop-host : goal.invariant-loop-host
invariant-loop-host l = find (λ h. not (list_any (leaves_from h) (map link_of l.links))) (range_with_len 0 l.hosts) ≡ find (λ h. not (list_any (leaves_from h) (map link_of l.links))) (range_with_len l.host (l.hosts - l.host))
