-- One packet more came.
use Rattle.sb_host.proofs.tests.take_all.Goals as goal

pub loop-answer-preserved : goal.loop-answer-preserved
loop-answer-preserved c = record { table = (_, c.take.ensures.taken c.loop-answer.invariant.table.0 c.loop-answer.invariant.table.1) }
