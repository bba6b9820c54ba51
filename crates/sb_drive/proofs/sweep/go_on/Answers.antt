-- A group that moved has moved after another sweep.
use Rattle.std.proofs.Common.{◌∙◌, ap}
use Rattle.std.specs.Prelude.{◌||◌}
use Rattle.sb_drive.proofs.sweep.go_on.Goals as goal

pub returns-then-not-sweep_on-clause-moved : goal.returns-then-not-sweep_on-clause-moved
returns-then-not-sweep_on-clause-moved g c e = c.sweep_on.ensures.moved ∙ ap (λ b. b || c.sweep_on.result) (c.loop.invariant.2 e)
