-- Tests that at most one item passes.
use Rattle.std.proofs.Common.{◌≡◌, ◌≤◌, ◌<◌, ℕ, zero, suc, ◌+◌, Bool, true, false, cond, List, [], ◌∷◌, length, get_or, refl, ◌∙◌, arith, Option, Some, eq-eqb, ne_eqb}
use Rattle.std.specs.Prelude.{sum_by, if◌then◌else◌}
use Rattle.std.specs.List.{position_from}
use Rattle.std.proofs.lemmas.List.Sums.{sum_by-cons}
use Rattle.sb_flow.specs.Ways.{is_some_number}

-- no two items of a list pass a test
abbrev pub IsSingle : {A : Type 0} → (A → Bool) → List A → Type 0
IsSingle {A} p xs = (i j : ℕ) (d : A) → i < j → j < length xs → p (get_or xs i d) ≡ true → p (get_or xs j d) ≡ true → ⊥

pub IsSingle-tail : {A : Type 0} (p : A → Bool) (x : A) (xs : List A) → IsSingle p (x ∷ xs) → IsSingle p xs
IsSingle-tail p x xs single i j d below high hi hj = single (suc i) (suc j) d (omega arith) (omega arith) hi hj

-- a place is not before the first that is looked at
position_from-low : {A : Type 0} (p : A → Bool) (s k : ℕ) (xs : List A) → k < s → is_some_number k (position_from p s xs) ≡ false
position_from-low p s k [] h = refl
position_from-low p s k (x ∷ xs) h = low (p x) (position_from p (s + 1) xs) (position_from-low p (s + 1) k xs (omega arith))
  where
    low : (b : Bool) (rest : Option ℕ) → is_some_number k rest ≡ false → is_some_number k (cond b (Some s) rest) ≡ false
    low true rest other = ne_eqb s k (λ e. omega arith)
    low false rest other = other

-- where at most one item passes, the first that does is at a place just where its item passes
pub position_from-is : {A : Type 0} (p : A → Bool) (s k : ℕ) (xs : List A) (d : A) → IsSingle p xs → k < length xs → is_some_number (s + k) (position_from p s xs) ≡ p (get_or xs k d)
position_from-is p s k [] d single h = absurd (omega arith)
position_from-is p s zero (x ∷ xs) d single h = first (p x) (position_from p (s + 1) xs) (position_from-low p (s + 1) (s + 0) xs (omega arith))
  where
    first : (b : Bool) (rest : Option ℕ) → is_some_number (s + 0) rest ≡ false → is_some_number (s + 0) (cond b (Some s) rest) ≡ b
    first true rest other = eq-eqb s (s + 0) (omega arith)
    first false rest other = other
position_from-is p s (suc k) (x ∷ xs) d single h =
    later (p x) (position_from p (s + 1) xs) refl (let e : s + 1 + k ≡ s + suc k = omega arith in rw e at (position_from-is p (s + 1) k xs d (IsSingle-tail p x xs single) (omega arith)))
  where
    none : (b : Bool) → (b ≡ true → ⊥) → false ≡ b
    none true h = absurd (h refl)
    none false h = refl

    later : (b : Bool) (rest : Option ℕ) → p x ≡ b → is_some_number (s + suc k) rest ≡ p (get_or xs k d) → is_some_number (s + suc k) (cond b (Some s) rest) ≡ p (get_or xs k d)
    later true rest at other = ne_eqb s (s + suc k) (λ e. omega arith) ∙ none (p (get_or xs k d)) (λ also. single zero (suc k) d (omega arith) (omega arith) at also)
    later false rest at other = other

-- where no item passes, nothing is added up
sum_by-none : {A : Type 0} (p : A → Bool) (n : ℕ) (xs : List A) → ((k : ℕ) (d : A) → k < length xs → p (get_or xs k d) ≡ true → ⊥) → sum_by (λ x. if p x then n else 0) xs ≡ 0
sum_by-none p n [] none = refl
sum_by-none p n (x ∷ xs) none = sum_by-cons (λ x. if p x then n else 0) x xs ∙ both (p x) (none zero x (omega arith)) (sum_by-none p n xs (λ k d h. none (suc k) d (omega arith)))
  where
    both : (b : Bool) → (b ≡ true → ⊥) → sum_by (λ x. if p x then n else 0) xs ≡ 0 → (if b then n else 0) + sum_by (λ x. if p x then n else 0) xs ≡ 0
    both true h rest = absurd (h refl)
    both false h rest = omega arith

-- where at most one item passes, a number is added up once at most
pub sum_by-single : {A : Type 0} (p : A → Bool) (n : ℕ) (xs : List A) → IsSingle p xs → sum_by (λ x. if p x then n else 0) xs ≤ n
sum_by-single p n [] single = omega arith
sum_by-single p n (x ∷ xs) single =
    rw (sum_by-cons (λ x. if p x then n else 0) x xs) (both (p x) refl (sum_by-single p n xs (IsSingle-tail p x xs single)))
  where
    both : (b : Bool) → p x ≡ b → sum_by (λ x. if p x then n else 0) xs ≤ n → (if b then n else 0) + sum_by (λ x. if p x then n else 0) xs ≤ n
    both true at rest = omega (arith, sum_by-none p n xs (λ k d h also. single zero (suc k) d (omega arith) (omega arith) at also))
    both false at rest = omega arith
