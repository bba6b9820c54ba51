-- Lists that are made place by place.
use Rattle.std.proofs.Common.{◌≡◌, ◌<◌, ℕ, zero, suc, ◌+◌, ◌∷◌, ◌++◌, refl, ap, arith, add-zero, zero-add}
use Rattle.std.specs.Prelude.{map}
use Rattle.std.specs.List.{range_with_len}

-- two lists made by functions that agree place by place
pub range_agrees : {X : Type 0} (f g : ℕ → X) (a b k : ℕ) → ((j : ℕ) → j < k → f (a + j) ≡ g (b + j)) → map f (range_with_len a k) ≡ map g (range_with_len b k)
range_agrees f g a b zero h = refl
range_agrees f g a b (suc k) h =
    let some : 0 < suc k = omega arith in
    let here : f a ≡ g b = rw (add-zero a, add-zero b) at (h 0 some) in
    let there : (j : ℕ) → j < k → f (a + 1 + j) ≡ g (b + 1 + j) = λ j below.
    let x : a + 1 + j ≡ a + suc j = omega arith in
    let y : b + 1 + j ≡ b + suc j = omega arith in
    rw (x, y) (h (suc j) (omega arith)) in
    rw (here, range_agrees f g (a + 1) (b + 1) k there) refl

-- what is made from the numbers from a on is what is made from the first n of them, and from the others
pub range_split : {X : Type 0} (f : ℕ → X) (a n k : ℕ) → map f (range_with_len a (n + k)) ≡ map f (range_with_len a n) ++ map f (range_with_len (a + n) k)
range_split f a zero k = rw (zero-add, add-zero) refl
range_split f a (suc n) k =
    let more : suc n + k ≡ suc (n + k) = omega arith in
    let next : a + suc n ≡ a + 1 + n = omega arith in
    rw (more, next) (ap (λ rest. f a ∷ rest) (range_split f (a + 1) n k))
