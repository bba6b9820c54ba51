-- Where links and routes lead on, the ways lead to their devices.
use Rattle.sb_laws.proofs.WaysOfRouted.{ways_of_routed}
use Rattle.sb_laws.proofs.network_laws.routed_networks_have_ways.Goals as goal

pub returns : goal.returns
returns c = record { ways = λ network routed. ways_of_routed network routed }
