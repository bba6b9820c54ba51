-- A script of transactions has no more packets than words.
use Rattle.sb_solo.proofs.SoloCounts.{solo_packets_few}
use Rattle.sb_solo.proofs.laws.solo_packets_are_few.Goals as goal

pub returns : goal.returns
returns c = record { few = λ script all. solo_packets_few script all }
