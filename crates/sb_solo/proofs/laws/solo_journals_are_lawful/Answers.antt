-- A solo journal of a script of transactions is lawful.
use Rattle.sb_solo.proofs.SoloLawful.{solo_lawful}
use Rattle.sb_solo.proofs.laws.solo_journals_are_lawful.Goals as goal

pub returns : goal.returns
returns c = record { lawful = λ script journal all is. solo_lawful script journal all is }
