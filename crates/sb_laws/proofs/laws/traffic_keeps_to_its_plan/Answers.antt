-- Items that may follow one another end with the Close, and keep to the budget.
use Rattle.sb_laws.proofs.InTurn.{turn_closes_last, turn_words_are_few}
use Rattle.sb_laws.proofs.laws.traffic_keeps_to_its_plan.Goals as goal

pub returns-clause-closes_last : goal.returns-clause-closes_last
returns-clause-closes_last c = λ plan list turn. turn_closes_last plan list turn

pub returns-clause-few : goal.returns-clause-few
returns-clause-few c = λ plan list turn. turn_words_are_few plan list turn
