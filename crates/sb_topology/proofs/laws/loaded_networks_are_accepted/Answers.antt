use Rattle.sb_topology.proofs.LoadedNetworks.{loaded_is_accepted}
use Rattle.sb_topology.proofs.laws.loaded_networks_are_accepted.Goals as goal

pub returns : goal.returns
returns c = record { accepted = loaded_is_accepted }
