-- Where no node moved, each ring's ends know all of each other still, and each node is idle.
use Rattle.std.proofs.Common.{refl}
use Rattle.sb_net.proofs.StandstillEnds.{met_still}
use Rattle.sb_net.proofs.Standstills.{standstill, whole_standstill}
use Rattle.sb_net.proofs.standstill_laws.unmoved_nets_stand_still.Goals as goal

pub returns-clause-met : goal.returns-clause-met
returns-clause-met g c = λ network joints before after round last stands met went. met_still joints before after went.same (went.rested refl) stands.joined met

pub returns-clause-linked : goal.returns-clause-linked
returns-clause-linked g c = λ network joints before after round last stands met went r below. (met_still joints before after went.same (went.rested refl) stands.joined met r below).in_order

pub returns-clause-still : goal.returns-clause-still
returns-clause-still g c = λ network joints before after round last accepted stands met went. standstill network joints before after round last accepted stands met went

pub returns-clause-whole : goal.returns-clause-whole
returns-clause-whole g c = λ network joints before after round last journal accepted stands met went moment. whole_standstill network joints before after round last accepted stands met went journal moment
