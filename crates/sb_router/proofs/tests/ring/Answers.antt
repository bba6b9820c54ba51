-- Rings of lower numbers are other rings.
use Rattle.std.proofs.Common.{◌≡◌, ◌≢◌, ◌<◌, ◌+◌, ℕ, List, ◌∷◌, [], ◌++◌, All, ap, sym, subst, arith}
use Rattle.std.proofs.lemmas.List.Elements.{All-push, All-weaker}
use Rattle.sb_link.specs.RingPlans.{RingPlan}
use Rattle.sb_link.specs.PlanOf.{plan_of}
use Rattle.sb_router.proofs.Results.{ok_then}
use Rattle.sb_router.proofs.tests.ring.Goals as goal

below_others : (made : List RingPlan) (ring number : ℕ) → number ≡ ring → All (λ plan. plan.ring < ring) made → All (λ plan. plan.ring ≢ number) made
below_others made ring number is = All-weaker (λ (plan : RingPlan). plan.ring < ring) (λ (plan : RingPlan). plan.ring ≢ number) (λ plan lt same. omega (arith, lt, same, is)) made

below_next : (made now : List RingPlan) (plan : RingPlan) (ring : ℕ) → plan.ring ≡ ring → now ≡ made ++ plan ∷ [] → All (λ plan. plan.ring < ring) made → All (λ plan. plan.ring < ring + 1) now
below_next made now plan ring is all before = subst (All (λ (plan : RingPlan). plan.ring < ring + 1)) (sym all)
    (All-push (λ (plan : RingPlan). plan.ring < ring + 1) made plan (All-weaker (λ (plan : RingPlan). plan.ring < ring) (λ (plan : RingPlan). plan.ring < ring + 1) (λ plan lt. omega (arith, lt)) made before) (omega (arith, is)))

pub make-requires : goal.make-requires
make-requires g c = record { new = below_others (g.F.Fabric.made c.args.fabric.now) c.args.ring c.plan-plan.result.ring (ap (λ (plan : RingPlan). plan.ring) c.plan-plan.ensures) c.requires.before }

pub returns-clause-after : goal.returns-clause-after
returns-clause-after g c = ok_then c.make.result
    (λ ends made. below_next (g.F.Fabric.made c.args.fabric.now) (g.F.Fabric.made c.make.new.self) (plan_of c.plan-plan.result) c.args.ring (ap (λ (plan : RingPlan). plan.ring) c.plan-plan.ensures) made c.requires.before) c.make.ensures.made
