-- There are as many outcomes as transactions.
use Rattle.sb_solo.proofs.SoloCounts.{length-solo_outcomes_from}
use Rattle.sb_solo.proofs.laws.outcomes_are_many.Goals as goal

pub returns : goal.returns
returns c = record { one_each = λ script i m txns. length-solo_outcomes_from script i m txns }
