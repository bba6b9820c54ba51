-- In a whole network a round without a move is the end of a whole run.
use Rattle.sb_laws.proofs.LastRounds.{all_finished, all_ended, standstill_run}
use Rattle.sb_laws.proofs.laws.standstill_is_a_whole_run.Goals as goal

pub returns-clause-finished : goal.returns-clause-finished
returns-clause-finished c = λ network layout journal stages s laid whole. all_finished network layout journal stages s laid whole

pub returns-clause-ended : goal.returns-clause-ended
returns-clause-ended c = λ network layout journal stages s laid whole. all_ended network layout journal stages s laid whole

pub returns-clause-whole : goal.returns-clause-whole
returns-clause-whole c = λ network layout journal stages s laid whole. standstill_run network layout journal stages s laid whole
