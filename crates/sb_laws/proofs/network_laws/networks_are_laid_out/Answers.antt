-- A network whose ways lead to its devices is laid out.
use Rattle.sb_laws.proofs.NetworkLaidOut.{laid_out}
use Rattle.sb_laws.proofs.network_laws.networks_are_laid_out.Goals as goal

pub returns : goal.returns
returns c = record { laid_out = λ network ways. laid_out network ways }
