-- A fit port that keeps something only in front of a full ring is idle.
use Rattle.sb_laws.proofs.SidePromises.{idle_port}
use Rattle.sb_laws.proofs.side_laws.owing_ports_are_idle.Goals as goal

pub returns : goal.returns
returns c = record { idle = λ s r port fit shows full. idle_port s r port fit shows full }
