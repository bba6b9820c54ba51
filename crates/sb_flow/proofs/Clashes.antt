-- Where no test finds a fault, all is as it should be.
use Rattle.std.proofs.Common.{◌≡◌, ◌≤◌, ◌<◌, ℕ, zero, suc, ◌+◌, Bool, true, false, not, cond, List, [], ◌∷◌, ◌++◌, length, get_or, refl, sym, arith, subst, Option, Some, None, append_assoc, length-append}
use Rattle.std.specs.Prelude.{option_map}
use Rattle.std.specs.List.{AllByRecursion, position_from}
use Rattle.std.specs.Option.{option_or}
use Rattle.std.proofs.lemmas.Bool.{cases_eq, not-false}
use mathlib.Core.Logic.{inl, inr}
use Rattle.std.proofs.lemmas.List.Elements.{All-from_recursion, All-get_or}
use Rattle.sb_flow.specs.Accepted.{Clash, clash_behind, first_clash, first_told}

-- neither of two parts has a fault where both together have none
pub option_or-None : {A : Type 0} (x y : Option A) → option_or x y ≡ None → (x ≡ None) × (y ≡ None)
option_or-None None y h = (refl, h)
option_or-None (Some x) y h = cc

pub option_map-None : {A B : Type 0} (f : A → B) (x : Option A) → option_map f x ≡ None → x ≡ None
option_map-None f None h = refl
option_map-None f (Some x) h = cc

pub cond-None : {A : Type 0} (b : Bool) (x : A) (y : Option A) → cond b (Some x) y ≡ None → (b ≡ false) × (y ≡ None)
cond-None true x y h = cc
cond-None false x y h = (refl, h)

-- a test that finds no place fails at each
pub position_from-None : {A : Type 0} (p : A → Bool) (s : ℕ) (xs : List A) → position_from p s xs ≡ None → AllByRecursion (λ x. p x ≡ false) xs
position_from-None p s [] h = tt
position_from-None p s (x ∷ xs) h = let parts = cond-None (p x) s (position_from p (s + 1) xs) h in (parts.0, position_from-None p (s + 1) xs parts.1)

-- and where nothing fails a test, all pass it
pub all_pass : {A : Type 0} (p : A → Bool) (s : ℕ) (xs : List A) → position_from (λ x. not (p x)) s xs ≡ None → AllByRecursion (λ x. p x ≡ true) xs
all_pass p s [] h = tt
all_pass p s (x ∷ xs) h = let parts = cond-None (not (p x)) s (position_from (λ x. not (p x)) (s + 1) xs) h in (not-false (p x) parts.0, all_pass p (s + 1) xs parts.1)

-- where nothing is told of a list, nothing is told of any of it
pub first_told-None : {A B : Type 0} (tell : A → Option B) (xs : List A) → first_told tell xs ≡ None → AllByRecursion (λ x. tell x ≡ None) xs
first_told-None tell [] h = tt
first_told-None tell (x ∷ xs) h = let parts = option_or-None (tell x) (first_told tell xs) h in (parts.0, first_told-None tell xs parts.1)

-- an item is behind all of a list
get_or-last : {A : Type 0} (before : List A) (x : A) (xs : List A) (d : A) → get_or (before ++ x ∷ xs) (length before) d ≡ x
get_or-last [] x xs d = refl
get_or-last (b ∷ before) x xs d = get_or-last before x xs d

get_or-front : {A : Type 0} (before xs : List A) (i : ℕ) (d : A) → i < length before → get_or (before ++ xs) i d ≡ get_or before i d
get_or-front [] xs i d h = absurd (omega arith)
get_or-front (b ∷ before) xs zero d h = refl
get_or-front (b ∷ before) xs (suc i) d h = get_or-front before xs i d (omega arith)

-- where no later item clashes with an earlier one, each two of them that are behind the first ones don't
no_clash_behind : {A : Type 0} (clash : A → A → Bool) (before xs : List A) (i j : ℕ) (d : A) → clash_behind clash before xs ≡ None → i < j → length before ≤ j → j < length (before ++ xs) → clash (get_or (before ++ xs) j d) (get_or (before ++ xs) i d) ≡ false
no_clash_behind clash before [] i j d h below low high = absurd (omega (arith, simp (length-append) at high))
no_clash_behind {A} clash before (x ∷ xs) i j d h below low high =
    elim (cases_eq j (length before)) [
      | inl here ↦ at_once here
      | inr later ↦ subst (λ (all : List A). clash (get_or all j d) (get_or all i d) ≡ false) (append_assoc before (x ∷ []) xs)
          (no_clash_behind clash (before ++ x ∷ []) xs i j d parts.1 below (omega (arith, length-append before (x ∷ []), low, later)) (subst (λ (all : List A). j < length all) (sym (append_assoc before (x ∷ []) xs)) high))
    ]
  where
    parts : (option_map {U = Clash} (λ earlier. record { at = length before; earlier = earlier }) (position_from (λ y. clash x y) 0 before) ≡ None) × (clash_behind clash (before ++ x ∷ []) xs ≡ None)
    parts = option_or-None (option_map {U = Clash} (λ earlier. record { at = length before; earlier = earlier }) (position_from (λ y. clash x y) 0 before)) (clash_behind clash (before ++ x ∷ []) xs) h

    at_once : j ≡ length before → clash (get_or (before ++ x ∷ xs) j d) (get_or (before ++ x ∷ xs) i d) ≡ false
    at_once here =
        let front : i < length before = omega arith in
        let others = All-from_recursion (λ y. clash x y ≡ false) before (position_from-None (λ y. clash x y) 0 before (option_map-None {B = Clash} (λ earlier. record { at = length before; earlier = earlier }) (position_from (λ y. clash x y) 0 before) parts.0)) in
        rw (here, get_or-last before x xs d, get_or-front before (x ∷ xs) i d front) (All-get_or (λ y. clash x y ≡ false) before i d front others)

-- where no item clashes with an earlier one
pub no_clash : {A : Type 0} (clash : A → A → Bool) (xs : List A) (i j : ℕ) (d : A) → first_clash clash xs ≡ None → i < j → j < length xs → clash (get_or xs j d) (get_or xs i d) ≡ false
no_clash clash xs i j d h below high = no_clash_behind clash [] xs i j d h below (omega arith) high
