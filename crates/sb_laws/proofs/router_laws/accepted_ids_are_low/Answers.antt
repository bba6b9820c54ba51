-- The ids of an accepted network are below 32.
use Rattle.sb_laws.proofs.AcceptedNetworks.{low_ids}
use Rattle.sb_laws.proofs.router_laws.accepted_ids_are_low.Goals as goal

pub returns : goal.returns
returns c = record { low = λ network accepted. low_ids network accepted }
