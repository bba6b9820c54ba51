-- A routed network has ways.
use Rattle.sb_packet.specs.Networks.{Network}
use Rattle.sb_laws.specs.NetworkLayouts.{HasWays, IsRouted}
use Rattle.sb_laws.proofs.RoutedWays.{found_ways, ways_lead, ways_start, ways_hosts, ways_devices}
use Rattle.sb_laws.proofs.AskedWays.{all_ways_law}

pub ways_of_routed : (network : Network) → IsRouted network → HasWays network
ways_of_routed network routed = record {
  scripts = routed.scripts;
  ways = ways_lead network routed;
  starts = ways_start network routed;
  found = found_ways network routed.scripts.ids;
  hosts = ways_hosts network;
  devices = ways_devices network;
  all_ways = all_ways_law network routed;
  linked = routed.linked;
  one_link = routed.one_link;
}
