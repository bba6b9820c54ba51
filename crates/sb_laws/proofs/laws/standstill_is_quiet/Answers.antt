-- After a round without a move nothing is under way.
use Rattle.sb_laws.proofs.Stillness.{quiet_sender, quiet_receiver}
use Rattle.sb_laws.proofs.laws.standstill_is_quiet.Goals as goal

pub returns-clause-senders : goal.returns-clause-senders
returns-clause-senders c = λ stages s still r here. quiet_sender stages s still r here

pub returns-clause-receivers : goal.returns-clause-receivers
returns-clause-receivers c = λ stages s still r here. quiet_receiver stages s still r here
