-- Meetings change nothing of a run that is over.
use Rattle.sb_net.proofs.EndingMeetings.{over_stays}
use Rattle.sb_net.proofs.ending_laws.over_nets_stay_over.Goals as goal

pub returns : goal.returns
returns g c = record { met = λ network joints journal before after over stands met. over_stays network journal joints before after over stands met }
