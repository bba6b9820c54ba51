-- After a round without a move each ring is done, or a host waits.
use Rattle.sb_laws.proofs.Stillness.{finished, end_or_wait}
use Rattle.sb_laws.proofs.laws.standstill_is_the_end.Goals as goal

pub returns-clause-end_or_wait : goal.returns-clause-end_or_wait
returns-clause-end_or_wait c = λ stages s still. end_or_wait stages s still

pub returns-clause-end : goal.returns-clause-end
returns-clause-end c = λ stages s still none_waits. finished stages s still none_waits
