-- In a whole run each ring carried the words of its flows, or their answers.
use Rattle.sb_laws.proofs.CarriedRings.{carried}
use Rattle.sb_laws.proofs.network_laws.rings_carry_their_flows.Goals as goal

pub returns : goal.returns
returns c = record { carried = λ network journal m ring ways whole here. carried network ways journal m whole ring here }
