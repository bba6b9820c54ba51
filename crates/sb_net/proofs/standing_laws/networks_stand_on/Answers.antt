-- Turns and meetings leave a network's nodes at their places.
use Rattle.sb_net.proofs.LaterNets.{linked, stands_all_met, stands_turned}
use Rattle.sb_net.proofs.standing_laws.networks_stand_on.Goals as goal

pub returns-clause-turned : goal.returns-clause-turned
returns-clause-turned g c = λ network joints round before after moved stands turns whole. stands_turned network joints round before after moved stands turns whole

pub returns-clause-met : goal.returns-clause-met
returns-clause-met g c = λ network joints before after stands meets. stands_all_met network joints before after stands meets

pub returns-clause-linked : goal.returns-clause-linked
returns-clause-linked g c = λ network joints nodes stands met. linked joints nodes met
