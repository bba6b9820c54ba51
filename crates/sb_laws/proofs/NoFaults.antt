-- What holds of a list in which a search finds no fault.
use Rattle.std.proofs.Common.{◌≡◌, ◌<◌, ℕ, zero, suc, ◌+◌, Bool, true, false, cond, List, [], ◌∷◌, ◌++◌, length, refl, sym, ap, ◌∙◌, arith, subst}
use Rattle.std.specs.Prelude.{◌||◌, All, AllPairs, Option, Some, None, get_or, slice_get, option_map}
use Rattle.std.specs.List.{list_any, list_all, find, position_from}
use Rattle.std.specs.Option.{option_map_or}
use Rattle.std.proofs.lemmas.Option.{slice_get-get_or}
use Rattle.std.proofs.lemmas.List.Elements.{All-nil, All-cons, All-head, All-tail, All-weaker}
use Rattle.std.proofs.lemmas.List.Kept.{AllPairs-cons}
use Rattle.std.proofs.lemmas.Bool.{and_parts}
use Rattle.sb_packet.proofs.Lists.{All-left, All-right}
use Rattle.sb_flow.specs.Accepted.{first_told, Clash, clash_behind, first_clash}
use Rattle.sb_flow.proofs.Clashes.{option_or-None, option_map-None}

module _ {A : Type 0} where
  pub none_passes : (test : A → Bool) (i : ℕ) (xs : List A) → position_from test i xs ≡ None → All (λ x. test x ≡ false) xs
  none_passes test i [] e = All-nil (λ x. test x ≡ false)
  none_passes test i (x ∷ xs) e = by_test (test x) refl e (none_passes test (i + 1) xs)
    where
      by_test : (b : Bool) → test x ≡ b → cond b (Some i) (position_from test (i + 1) xs) ≡ None → (position_from test (i + 1) xs ≡ None → All (λ x. test x ≡ false) xs) → All (λ x. test x ≡ false) (x ∷ xs)
      by_test true t e later = absurd (cc)
      by_test false t e later = All-cons (λ x. test x ≡ false) x xs t (later e)

  pub nothing_found : (test : A → Bool) (xs : List A) → find test xs ≡ None → All (λ x. test x ≡ false) xs
  nothing_found test [] e = All-nil (λ x. test x ≡ false)
  nothing_found test (x ∷ xs) e = by_test (test x) refl e (nothing_found test xs)
    where
      by_test : (b : Bool) → test x ≡ b → cond b (Some x) (find test xs) ≡ None → (find test xs ≡ None → All (λ x. test x ≡ false) xs) → All (λ x. test x ≡ false) (x ∷ xs)
      by_test true t e later = absurd (cc)
      by_test false t e later = All-cons (λ x. test x ≡ false) x xs t (later e)

  pub none_of_any : (test : A → Bool) (xs : List A) → list_any test xs ≡ false → All (λ x. test x ≡ false) xs
  none_of_any test [] e = All-nil (λ x. test x ≡ false)
  none_of_any test (x ∷ xs) e = by_test (test x) refl e (none_of_any test xs)
    where
      by_test : (b : Bool) → test x ≡ b → (b || list_any test xs) ≡ false → (list_any test xs ≡ false → All (λ x. test x ≡ false) xs) → All (λ x. test x ≡ false) (x ∷ xs)
      by_test true t e later = absurd (cc)
      by_test false t e later = All-cons (λ x. test x ≡ false) x xs t (later e)

  pub all_pass : (test : A → Bool) (xs : List A) → list_all test xs ≡ true → All (λ x. test x ≡ true) xs
  all_pass test [] e = All-nil (λ x. test x ≡ true)
  all_pass test (x ∷ xs) e = let parts = and_parts (test x) (list_all test xs) e in All-cons (λ x. test x ≡ true) x xs parts.0 (all_pass test xs parts.1)

  pub nothing_told : {B : Type 0} (tell : A → Option B) (xs : List A) → first_told tell xs ≡ None → All (λ x. tell x ≡ None) xs
  nothing_told tell [] e = All-nil (λ x. tell x ≡ None)
  nothing_told tell (x ∷ xs) e = let parts = option_or-None (tell x) (first_told tell xs) e in All-cons (λ x. tell x ≡ None) x xs parts.0 (nothing_told tell xs parts.1)

  -- an element that a test finds by its place
  pub at_place : (test : A → Bool) (xs : List A) (k : ℕ) → option_map_or test (slice_get xs k) false ≡ true → (x : A) × (k < length xs) × (slice_get xs k ≡ Some x) × (test x ≡ true)
  at_place test [] k e = absurd (cc)
  at_place test (x ∷ xs) zero e = (x, omega arith, refl, e)
  at_place test (x ∷ xs) (suc k) e = let rest = at_place test xs k e in (rest.0, (let inside = rest.1 in omega arith), rest.2, rest.3)

  pub some_place : (test : A → Bool) (xs : List A) → list_any test xs ≡ true → (k : ℕ) × (k < length xs) × (option_map_or test (slice_get xs k) false ≡ true)
  some_place test [] e = absurd (cc)
  some_place test (x ∷ xs) e = by_test (test x) refl e (some_place test xs)
    where
      by_test : (b : Bool) → test x ≡ b → (b || list_any test xs) ≡ true → (list_any test xs ≡ true → (k : ℕ) × (k < length xs) × (option_map_or test (slice_get xs k) false ≡ true)) →
          (k : ℕ) × (k < length (x ∷ xs)) × (option_map_or test (slice_get (x ∷ xs) k) false ≡ true)
      by_test true t e later = (0, omega arith, t)
      by_test false t e later = let rest = later e in (suc rest.0, (let inside = rest.1 in omega arith), rest.2)

  -- what holds of all, or of each and each later one, holds of those at their places
  pub All-at : (P : A → Type 0) (xs : List A) (k : ℕ) (x : A) → All P xs → slice_get xs k ≡ Some x → P x
  All-at P [] k x h e = absurd (cc)
  All-at P (y ∷ xs) zero x h e = let same : y ≡ x = cc in subst P same (All-head P y xs h)
  All-at P (y ∷ xs) (suc k) x h e = All-at P xs k x (All-tail P y xs h) e

  pub AllPairs-at : (R : A → A → Type 0) (xs : List A) (i j : ℕ) (x y : A) → AllPairs R xs → i < j → slice_get xs i ≡ Some x → slice_get xs j ≡ Some y → R x y
  AllPairs-at R xs i j x y h below e f =
      let inside = (at_place (λ z. true) xs j (ap (λ (o : Option A). option_map_or (λ z. true) o false) f)).1 in
      let first : Some (get_or xs i x) ≡ Some x = sym (slice_get-get_or xs i x (omega arith)) ∙ e in
      let second : Some (get_or xs j x) ≡ Some y = sym (slice_get-get_or xs j x inside) ∙ f in
      let one : get_or xs i x ≡ x = cc in
      let two : get_or xs j x ≡ y = cc in
      subst (R x) two (subst (λ (z : A). R z (get_or xs j x)) one (h i j x below inside))

  -- where no element clashes with an earlier one
  pub no_clash_behind : (clash : A → A → Bool) (before xs : List A) → clash_behind clash before xs ≡ None → All (λ x. All (λ y. clash x y ≡ false) before) xs × AllPairs (λ y x. clash x y ≡ false) xs
  no_clash_behind clash before [] e = (All-nil (λ x. All (λ y. clash x y ≡ false) before), λ i j d below inside. absurd (omega arith))
  no_clash_behind clash before (x ∷ xs) e =
      let parts = option_or-None (option_map (λ earlier. record { at = length before; earlier = earlier }) (position_from (λ y. clash x y) 0 before)) (clash_behind clash (before ++ x ∷ []) xs) e in
      let here = none_passes (λ y. clash x y) 0 before (option_map-None (λ (earlier : ℕ). (let c : Clash = record { at = length before; earlier = earlier } in c)) (position_from (λ y. clash x y) 0 before) parts.0) in
      let rest = no_clash_behind clash (before ++ x ∷ []) xs parts.1 in (
        All-cons (λ z. All (λ y. clash z y ≡ false) before) x xs here (All-weaker (λ z. All (λ y. clash z y ≡ false) (before ++ x ∷ [])) (λ z. All (λ y. clash z y ≡ false) before) (λ z h. All-left (λ y. clash z y ≡ false) before (x ∷ []) h) xs rest.0),
        AllPairs-cons (λ y z. clash z y ≡ false) x xs (All-weaker (λ z. All (λ y. clash z y ≡ false) (before ++ x ∷ [])) (λ z. clash z x ≡ false) (λ z h. All-head (λ y. clash z y ≡ false) x [] (All-right (λ y. clash z y ≡ false) before (x ∷ []) h)) xs rest.0) rest.1,
      )

  pub no_clash : (clash : A → A → Bool) (xs : List A) → first_clash clash xs ≡ None → AllPairs (λ y x. clash x y ≡ false) xs
  no_clash clash xs e = (no_clash_behind clash [] xs e).1
