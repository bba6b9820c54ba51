use Rattle.sb_topology.proofs.LoadedNetworks.{accepted_is_loaded}
use Rattle.sb_topology.proofs.laws.accepted_networks_are_loaded.Goals as goal

pub returns : goal.returns
returns c = record { loaded = accepted_is_loaded }
