-- A standstill of nodes is the end of a lawful run.
use Rattle.sb_net.proofs.EndingNodes.{ended_is_over}
use Rattle.sb_net.proofs.ending_laws.ended_nets_are_over.Goals as goal

pub returns : goal.returns
returns g c = record { over = λ network joints journal nodes accepted stands recorded entries still. ended_is_over network joints journal nodes accepted stands recorded entries still }
