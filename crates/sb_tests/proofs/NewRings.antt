-- The rings of the tests' network are made one after another, each with a number of its own.
use Rattle.std.proofs.Common.{◌≡◌, ℕ, List, [], ◌∷◌, ◌++◌, refl, ap, sym, ◌∙◌, subst}
use Rattle.std.specs.Prelude.{◌≢◌}
use Rattle.std.proofs.lemmas.List.Elements.{All-from_recursion}
use Rattle.sb_link.specs.Ends.{IsNewRing}
use Rattle.sb_link.specs.RingPlans.{RingPlan}
use Rattle.sb_flow.specs.Rings.{ring_plan}
use Rattle.sb_tests.specs.Samples.{sample}

-- the plans of its rings, in order
abbrev pub sample_plan : ℕ → RingPlan
sample_plan n = ring_plan sample n

-- one more ring is made
pub one_more : (made before : List RingPlan) (plan as_planned : RingPlan) → made ≡ before → plan ≡ as_planned → made ++ plan ∷ [] ≡ before ++ as_planned ∷ []
one_more made before plan as_planned same is = ap (λ (xs : List RingPlan). xs ++ plan ∷ []) same ∙ ap (λ (p : RingPlan). before ++ p ∷ []) is

-- a number that is new among the plans is new among what was made by them
new_among : (made before : List RingPlan) (plan as_planned : RingPlan) → made ≡ before → plan ≡ as_planned → IsNewRing as_planned.ring before → IsNewRing plan.ring made
new_among made before plan as_planned same is new = subst (λ (xs : List RingPlan). IsNewRing plan.ring xs) (sym same) (subst (λ (p : RingPlan). IsNewRing p.ring before) (sym is) new)

-- each ring's number is new
pub ring_0 : (made : List RingPlan) (plan : RingPlan) → made ≡ [] → plan ≡ sample_plan 0 → IsNewRing plan.ring made
ring_0 made plan same is = new_among made [] plan (sample_plan 0) same is (All-from_recursion (λ (p : RingPlan). p.ring ≢ 0) [] tt)

pub ring_1 : (made : List RingPlan) (plan : RingPlan) → made ≡ sample_plan 0 ∷ [] → plan ≡ sample_plan 1 → IsNewRing plan.ring made
ring_1 made plan same is = new_among made (sample_plan 0 ∷ []) plan (sample_plan 1) same is (All-from_recursion (λ (p : RingPlan). p.ring ≢ 1) (sample_plan 0 ∷ []) ((λ e. cc), tt))

pub ring_2 : (made : List RingPlan) (plan : RingPlan) → made ≡ sample_plan 0 ∷ sample_plan 1 ∷ [] → plan ≡ sample_plan 2 → IsNewRing plan.ring made
ring_2 made plan same is = new_among made (sample_plan 0 ∷ sample_plan 1 ∷ []) plan (sample_plan 2) same is (All-from_recursion (λ (p : RingPlan). p.ring ≢ 2) (sample_plan 0 ∷ sample_plan 1 ∷ []) ((λ e. cc), ((λ e. cc), tt)))

pub ring_3 : (made : List RingPlan) (plan : RingPlan) → made ≡ sample_plan 0 ∷ sample_plan 1 ∷ sample_plan 2 ∷ [] → plan ≡ sample_plan 3 → IsNewRing plan.ring made
ring_3 made plan same is = new_among made (sample_plan 0 ∷ sample_plan 1 ∷ sample_plan 2 ∷ []) plan (sample_plan 3) same is
    (All-from_recursion (λ (p : RingPlan). p.ring ≢ 3) (sample_plan 0 ∷ sample_plan 1 ∷ sample_plan 2 ∷ []) ((λ e. cc), ((λ e. cc), ((λ e. cc), tt))))
