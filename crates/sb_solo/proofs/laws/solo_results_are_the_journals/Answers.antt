-- The results of a run over a solo journal are those of its script.
use Rattle.sb_solo.proofs.SoloResults.{solo_results_are}
use Rattle.sb_solo.proofs.laws.solo_results_are_the_journals.Goals as goal

pub returns : goal.returns
returns c = record { results = λ script journal all is. solo_results_are script journal all is }
