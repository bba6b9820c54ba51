-- Which ends a registry has, after a row is added or its end is handed back.
use Rattle.std.proofs.Common.{◌≡◌, ◌≢◌, ℕ, zero, suc, ◌<◌, List, [], ◌∷◌, ◌++◌, length, get_or, set, refl, sym, ap, ◌∙◌, subst, arith, eq-eqb, ne_eqb, true, false}
use Rattle.std.specs.Prelude.{if◌then◌else◌, ◌==◌, Option, Some, None, slice_get}
use Rattle.sb_link.specs.declared.plan.LinkPlan.{LinkPlan}
use Rattle.sb_link.specs.declared.registered_ring.RegisteredRing.{RegisteredRing}
use Rattle.std.proofs.lemmas.Option.{slice_get-get_or}
use Rattle.sb_link.specs.RingPlans.{RingPlan}
use Rattle.sb_link.specs.PlanOf.{plan_of}
use Rattle.sb_link.specs.Ends.{IsNewRing}
use Rattle.sb_link.specs.Registries.{end_of, plans_of, IsPlaceOfRing}

module _ {E : Type 0} where
  pub get_plan : (rows : List (RegisteredRing E)) (k : ℕ) (p : RingPlan) → slice_get (plans_of rows) k ≡ Some p → (r : RegisteredRing E) × (slice_get rows k ≡ Some r) × (plan_of r.plan ≡ p)
  get_plan [] k p e = let h : ⊥ = cc in absurd h
  get_plan (x ∷ xs) zero p e = let h : plan_of x.plan ≡ p = cc in (x, refl, h)
  get_plan (x ∷ xs) (suc k) p e = get_plan xs k p e

  pub plans_set : (rows : List (RegisteredRing E)) (k : ℕ) (r : RegisteredRing E) → ((x : RegisteredRing E) → slice_get rows k ≡ Some x → r.plan ≡ x.plan) → plans_of (set rows k r) ≡ plans_of rows
  plans_set [] k r same = refl
  plans_set (x ∷ xs) zero r same = ap (λ (p : LinkPlan). plan_of p ∷ plans_of xs) (same x refl)
  plans_set (x ∷ xs) (suc k) r same = ap (λ (l : List RingPlan). plan_of x.plan ∷ l) (plans_set xs k r same)

  pub get_below : (rows : List (RegisteredRing E)) (k : ℕ) (r : RegisteredRing E) → slice_get rows k ≡ Some r → k < length rows
  get_below [] k r e = let h : ⊥ = cc in absurd h
  get_below (x ∷ xs) zero r e = omega arith
  get_below (x ∷ xs) (suc k) r e = omega (arith, get_below xs k r e)

  pub get_same : (rows : List (RegisteredRing E)) (k : ℕ) (r d : RegisteredRing E) → slice_get rows k ≡ Some r → r ≡ get_or rows k d
  get_same [] k r d e = let h : ⊥ = cc in absurd h
  get_same (x ∷ xs) zero r d e = let h : r ≡ x = cc in h
  get_same (x ∷ xs) (suc k) r d e = get_same xs k r d e

  -- a row without an end changes nothing
  pub ends_added : (rows : List (RegisteredRing E)) (r : RegisteredRing E) → r.end ≡ None → (ring : ℕ) → end_of (rows ++ r ∷ []) ring ≡ end_of rows ring
  ends_added [] r e ring = elim (r.plan.ring == ring) as (λ b. (if b then r.end else None) ≡ None) [ true ↦ e | false ↦ refl ]
  ends_added (x ∷ xs) r e ring =
      elim (x.plan.ring == ring) as (λ b. (if b then x.end else end_of (xs ++ r ∷ []) ring) ≡ (if b then x.end else end_of xs ring))
      [ true ↦ refl | false ↦ ends_added xs r e ring ]

  -- a ring that no plan names has no end
  pub none_of_new : (rows : List (RegisteredRing E)) (ring : ℕ) → ((k : ℕ) (row : RegisteredRing E) → slice_get rows k ≡ Some row → row.plan.ring ≢ ring) → end_of rows ring ≡ None
  none_of_new [] ring new = refl
  none_of_new (x ∷ xs) ring new = let f = ne_eqb x.plan.ring ring (new 0 x refl) in rw f (none_of_new xs ring (λ k row s. new (suc k) row s))

  -- no row is of a ring that is new among the plans
  pub new_rows : (rows : List (RegisteredRing E)) (ring : ℕ) → IsNewRing ring (plans_of rows) → (k : ℕ) (row : RegisteredRing E) → slice_get rows k ≡ Some row → row.plan.ring ≢ ring
  new_rows [] ring new k row e = let h : ⊥ = cc in absurd h
  new_rows (x ∷ xs) ring new zero row e = let h : x ≡ row = cc in subst (λ (r : RegisteredRing E). r.plan.ring ≢ ring) h (new 0 (plan_of x.plan) (omega arith))
  new_rows (x ∷ xs) ring new (suc k) row e = new_rows xs ring (λ j d lt. new (suc j) d (omega arith)) k row e

  end_here : (rows : List (RegisteredRing E)) (k ring : ℕ) (r : RegisteredRing E) → r.plan.ring ≡ ring → k < length rows → ((j : ℕ) → j < k → (x : RegisteredRing E) → slice_get rows j ≡ Some x → x.plan.ring ≡ ring → ⊥)
      → end_of (set rows k r) ring ≡ r.end
  end_here [] k ring r e h others = absurd (omega arith)
  end_here (x ∷ xs) zero ring r e h others = let t = eq-eqb r.plan.ring ring e in rw t refl
  end_here (x ∷ xs) (suc k) ring r e h others =
      let ne : x.plan.ring ≢ ring = (λ q. others 0 (omega arith) x refl q) in let f = ne_eqb x.plan.ring ring ne in
      rw f (end_here xs k ring r e (omega arith) (λ j lt y s q. others (suc j) (omega arith) y s q))

  end_else : (rows : List (RegisteredRing E)) (k ring : ℕ) (r : RegisteredRing E) → r.plan.ring ≢ ring → ((x : RegisteredRing E) → slice_get rows k ≡ Some x → x.plan.ring ≢ ring) → end_of (set rows k r) ring ≡ end_of rows ring
  end_else [] k ring r ne old = refl
  end_else (x ∷ xs) zero ring r ne old = let f = ne_eqb r.plan.ring ring ne in let g = ne_eqb x.plan.ring ring (old x refl) in rw (f, g) refl
  end_else (x ∷ xs) (suc k) ring r ne old =
      elim (x.plan.ring == ring) as (λ b. (if b then x.end else end_of (set xs k r) ring) ≡ (if b then x.end else end_of xs ring))
      [ true ↦ refl | false ↦ end_else xs k ring r ne old ]

-- the end of a ring is put into its row
module _ {E : Type 0} (rows slice : List (RegisteredRing E)) (at ring : ℕ) (d : RegisteredRing E) (end : Option E) (e : slice ≡ rows) (lt : at < length slice) (place : IsPlaceOfRing slice ring at) (is : d ≡ get_or rows at d) where
  lt' : at < length rows
  lt' = subst (λ (l : List (RegisteredRing E)). at < length l) e lt

  place' : IsPlaceOfRing rows ring at
  place' = subst (λ (l : List (RegisteredRing E)). IsPlaceOfRing l ring at) e place

  stands : slice_get rows at ≡ Some d
  stands = slice_get-get_or rows at d lt' ∙ ap (λ (r : RegisteredRing E). Some r) (sym is)

  pub kept_made : plans_of (set rows at record { plan = d.plan; end = end }) ≡ plans_of rows
  kept_made = plans_set rows at record { plan = d.plan; end = end } (λ x s. ap (λ (r : RegisteredRing E). r.plan) (is ∙ sym (get_same rows at x d s)))

  pub kept_end : end_of (set rows at record { plan = d.plan; end = end }) ring ≡ end
  kept_end = end_here rows at ring record { plan = d.plan; end = end } (place'.here d stands) lt' (λ j l x s q. place'.first j x l s q)

  pub kept_others : (other : ℕ) → other ≢ ring → end_of (set rows at record { plan = d.plan; end = end }) other ≡ end_of rows other
  kept_others other ne = end_else rows at other record { plan = d.plan; end = end } (λ q. ne (sym q ∙ place'.here d stands)) (λ x s q. ne (sym q ∙ place'.here x s))
