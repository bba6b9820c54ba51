-- One behind which 64 others took a slot isn't under way.
use Rattle.sb_host.proofs.Missing.{few_under_way}
use Rattle.sb_host.proofs.laws.hosts_keep_their_windows.Goals as goal

pub returns : goal.returns
returns c = record { few = few_under_way }
