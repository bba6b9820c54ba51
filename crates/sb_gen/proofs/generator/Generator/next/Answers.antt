-- One step of the congruence is one draw.
use Rattle.std.proofs.Common.{ℕ, ◌/◌, ◌^◌, ap, ◌∙◌}
use Rattle.sb_gen.proofs.States.{one_draw, one_drawn}
use Rattle.sb_gen.proofs.generator.Generator.next.Goals as goal

pub returns-clause-value : goal.returns-clause-value
returns-clause-value c = let state = c.args.self.now.state in ap (λ (s : ℕ). s / 2 ^ 33) (one_draw state) ∙ one_drawn state

pub returns-clause-state : goal.returns-clause-state
returns-clause-state c = one_draw c.args.self.now.state
