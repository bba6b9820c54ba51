-- What the ends of a ring know is true.
use Rattle.sb_laws.proofs.SidePromises.{true_ring}
use Rattle.sb_laws.proofs.side_laws.met_rings_are_true.Goals as goal

pub returns : goal.returns
returns c = record { ring = λ s r port ring shows got turn room met. true_ring s r port ring shows got turn room met }
