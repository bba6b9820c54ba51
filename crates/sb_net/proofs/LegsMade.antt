-- The rings of a network are made one after another.
use Rattle.std.proofs.Common.{◌≡◌, ℕ, zero, suc, ◌+◌, ◌<◌, Bool, false, List, [], ◌∷◌, ◌++◌, refl, sym, ap, ◌∙◌, subst, arith}
use Rattle.std.proofs.lemmas.List.FromFn.{get_or-map-range_with_len, length-map-range_with_len, map-range_with_len_more}
use Rattle.sb_link.specs.Ends.{IsNewRing}
use Rattle.sb_packet.specs.Networks.{Network}
use Rattle.sb_link.specs.RingPlans.{RingPlan}
use Rattle.sb_flow.specs.Rings.{ring_plan}
use Rattle.sb_net.specs.Legs.{first_plans}

-- the first rings have the lowest numbers, so each number that comes next is new
pub new_ring : (network : Network) (n r : ℕ) (made : List RingPlan) → made ≡ first_plans network n → r ≡ n → IsNewRing r made
new_ring network n r made is same = subst (λ list. IsNewRing r list) (sym is)
    (λ k d lt e.
    let below : k < n = omega (arith, lt, length-map-range_with_len (ring_plan network) 0 n) in
    let at = ap (λ (p : RingPlan). p.ring) (get_or-map-range_with_len (ring_plan network) 0 n k k d below (omega arith)) in
    omega (arith, below, e, same, at))

-- one ring more was made
pub one_more : (network : Network) (n m : ℕ) (before after : List RingPlan) (plan : RingPlan) → before ≡ first_plans network n → plan ≡ ring_plan network n → after ≡ before ++ plan ∷ [] → m ≡ n + 1 → after ≡ first_plans network m
one_more network n m before after plan is planned made next =
    made ∙ ap (λ list. list ++ plan ∷ []) is ∙ ap (λ (p : RingPlan). first_plans network n ++ p ∷ []) planned
    ∙ sym (map-range_with_len_more (ring_plan network) 0 n n (omega arith)) ∙ sym (ap (first_plans network) next)

-- what is below a number and one is below the number, or is the number
pub below_or_last : {P : Type 0} (k n : ℕ) → k < n + 1 → (k < n → P) → (k ≡ n → P) → P
below_or_last zero zero lt f g = g refl
below_or_last zero (suc n) lt f g = f (omega arith)
below_or_last (suc k) zero lt f g = absurd (omega (arith, lt))
below_or_last (suc k) (suc n) lt f g = below_or_last k n (omega (arith, lt)) (λ less. f (omega (arith, less))) (λ e. g (ap suc e))

-- one ring more is unsettled
pub one_more_unsettled : (before after : ℕ → Bool) (n m : ℕ) → ((ring : ℕ) → ring < n → before ring ≡ false) → ((ring : ℕ) → after ring ≡ before ring) → after n ≡ false → m ≡ n + 1 → (ring : ℕ) → ring < m → after ring ≡ false
one_more_unsettled before after n m unsettled same new next ring below =
    below_or_last ring n (omega (arith, next, below)) (λ less. same ring ∙ unsettled ring less) (λ e. ap after e ∙ new)
