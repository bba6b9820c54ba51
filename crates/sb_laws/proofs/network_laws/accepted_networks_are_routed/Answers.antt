-- The links and routes of an accepted network lead on.
use Rattle.sb_laws.proofs.AcceptedNetworks.{accepted_is_routed}
use Rattle.sb_laws.proofs.network_laws.accepted_networks_are_routed.Goals as goal

pub returns : goal.returns
returns c = record { routed = λ network accepted. accepted_is_routed network accepted }
