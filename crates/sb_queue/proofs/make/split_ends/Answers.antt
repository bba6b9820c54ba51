-- The rule allows the split.
use Rattle.sb_queue.proofs.Relays.{forks}
use Rattle.sb_queue.proofs.make.split_ends.Goals as goal

pub another-requires-clause-rule : goal.another-requires-clause-rule
another-requires-clause-rule g c = forks g.K.Planned.plan _ _ c.requires.pushes c.requires.pops c.requires.unused
