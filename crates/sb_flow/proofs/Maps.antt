-- Searches and sums over lists, where functions agree and on what `map` gives.
use Rattle.std.proofs.Common.{◌≡◌, ◌<◌, ℕ, zero, suc, ◌+◌, Bool, List, [], ◌∷◌, length, get_or, refl, sym, ◌∙◌, arith}
use Rattle.std.specs.Prelude.{map, sum_by}
use Rattle.std.specs.List.{list_any, position_from}
use Rattle.std.proofs.lemmas.List.Sums.{sum_by-cons}

-- the first place at which a test passes is that of what is mapped there
pub position_of_map : {A B : Type 0} (test : B → Bool) (f : A → B) (i : ℕ) (xs : List A) → position_from test i (map f xs) ≡ position_from (λ x. test (f x)) i xs
position_of_map test f i [] = refl
position_of_map test f i (x ∷ xs) = rw (position_of_map test f (i + 1) xs) refl

-- two sums are one where their terms are
pub sum_by_agree : {A : Type 0} (f g : A → ℕ) (xs : List A) → ((x : A) → f x ≡ g x) → sum_by f xs ≡ sum_by g xs
sum_by_agree f g [] same = refl
sum_by_agree f g (x ∷ xs) same = sum_by-cons f x xs ∙ rw (same x, sum_by_agree f g xs same) (sym (sum_by-cons g x xs))

-- so are two searches whose tests agree
pub list_any_agree : {A : Type 0} (p q : A → Bool) (xs : List A) → ((x : A) → p x ≡ q x) → list_any p xs ≡ list_any q xs
list_any_agree p q [] same = refl
list_any_agree p q (x ∷ xs) same = rw (same x, list_any_agree p q xs same) refl

-- a sum over what is mapped
pub sum_by_map : {A B : Type 0} (f : B → ℕ) (g : A → B) (xs : List A) → sum_by f (map g xs) ≡ sum_by (λ x. f (g x)) xs
sum_by_map f g [] = refl
sum_by_map f g (x ∷ xs) = sum_by-cons f (g x) (map g xs) ∙ rw (sum_by_map f g xs) (sym (sum_by-cons (λ x. f (g x)) x xs))

-- an item that was read at a place is there whatever stands for what is missing
pub read_there : {A : Type 0} (xs : List A) (i : ℕ) (x d : A) → i < length xs → x ≡ get_or xs i x → get_or xs i d ≡ x
read_there [] i x d h at = absurd (omega arith)
read_there (y ∷ xs) zero x d h at = sym at
read_there (y ∷ xs) (suc i) x d h at = read_there xs i x d (omega arith) at
