-- No ring was made before.
use Rattle.std.proofs.Common.{◌<◌, All, sym, subst}
use Rattle.std.proofs.lemmas.List.Elements.{All-nil}
use Rattle.sb_link.specs.RingPlans.{RingPlan}
use Rattle.sb_router.proofs.tests.see.Goals as goal

pub in_leg-requires-clause-before : goal.in_leg-requires-clause-before
in_leg-requires-clause-before g c κs within = subst (All (λ (plan : RingPlan). plan.ring < 0)) (sym c.requires.none) (All-nil (λ (plan : RingPlan). plan.ring < 0))

pub out_leg-requires-clause-network : goal.out_leg-requires-clause-network
out_leg-requires-clause-network g c κs within = c.in_ok-bundle.ensures
