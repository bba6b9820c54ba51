-- What stands at a place of a list, seen through a function.
use Rattle.std.proofs.Common.{◌≡◌, ◌⊎◌, inl, inr, ℕ, ◌<◌, ◌≤◌, ◌+◌, refl, List, length, set, get_or, All, sym, ap, ◌∙◌, subst, arith}
use Rattle.std.proofs.lemmas.List.{get_or_default, get_or-set_same, get_or-set_other}
use Rattle.std.proofs.lemmas.List.Elements.{All-get_or}
use Rattle.std.proofs.lemmas.Bool.{cases_eq}
use Rattle.sb_router.proofs.Cases.{le_cases}

module _ {X : Type 0} where
  -- what stands at a place
  pub at_place : (xs : List X) (i : ℕ) (x d : X) → i < length xs → x ≡ get_or xs i x → get_or xs i d ≡ x
  at_place xs i x d lt e = get_or_default xs i d x lt ∙ sym e

  -- what holds of all holds of it
  pub of_place : (P : X → Type 0) (xs : List X) (i : ℕ) (x : X) → i < length xs → x ≡ get_or xs i x → All P xs → P x
  of_place P xs i x lt e all = subst P (sym e) (All-get_or P xs i x lt all)

-- what stands at a place of a list in which one was set
pub set_cases : {X : Type 0} (xs : List X) (i j : ℕ) (y d : X) → i < length xs → ((j ≡ i) × (get_or (set xs i y) j d ≡ y)) ⊎ (get_or (set xs i y) j d ≡ get_or xs j d)
set_cases xs i j y d lt = elim (cases_eq j i) [
  | inl e ↦ inl (e, ap (λ k. get_or (set xs i y) k d) e ∙ get_or-set_same xs i y d lt)
  | inr n ↦ inr (get_or-set_other xs i j y d n)
]

module _ {X : Type 0} (xs : List X) (i : ℕ) (y d : X) (lt : i < length xs) where
  -- what holds of each place, and of what is set, holds of each place then
  pub at_each : (P : ℕ → X → Type 0) → P i y → ((j : ℕ) → P j (get_or xs j d)) → (j : ℕ) → P j (get_or (set xs i y) j d)
  at_each P here all j = elim (set_cases xs i j y d lt) [
    | inl w ↦ subst (P j) (sym w.1) (subst (λ (k : ℕ). P k y) (sym w.0) here)
    | inr w ↦ subst (P j) (sym w) (all j)
  ]

  -- so does what is seen of each place, where what is set is seen as what stood there
  pub same_at_each : {Y : Type 0} (f : X → Y) → f y ≡ f (get_or xs i d) → (j : ℕ) → f (get_or (set xs i y) j d) ≡ f (get_or xs j d)
  same_at_each f same = at_each (λ j z. f z ≡ f (get_or xs j d)) same (λ j. refl)

  -- place after place: what holds of each place before, and of what is set, holds of each place so far
  pub so_far : (P : ℕ → X → Type 0) → P i y → ((j : ℕ) → j < i → P j (get_or xs j d)) → (j : ℕ) → j < i + 1 → P j (get_or (set xs i y) j d)
  so_far P here before j below = elim (le_cases j i below) [
    | inl earlier ↦ subst (P j) (sym (get_or-set_other xs i j y d (λ same. omega (arith, same, earlier)))) (before j earlier)
    | inr same ↦ subst (λ (k : ℕ). P k (get_or (set xs i y) k d)) (sym same) (subst (P i) (sym (get_or-set_same xs i y d lt)) here)
  ]

  -- and the places ahead are as they were
  pub ahead_same : (was : ℕ → X) → ((j : ℕ) → i ≤ j → get_or xs j d ≡ was j) → (j : ℕ) → i + 1 ≤ j → get_or (set xs i y) j d ≡ was j
  ahead_same was ahead j le = get_or-set_other xs i j y d (λ same. omega (arith, same, le)) ∙ ahead j (omega (arith, le))
