-- Numbers from one on, one after another.
use Rattle.std.proofs.Common.{◌≡◌, ◌<◌, ℕ, suc, ◌+◌, ◌-◌, List, ◌∷◌, length, map, refl, ◌∙◌, arith}
use Rattle.std.proofs.lemmas.List.{length-map}
use Rattle.std.specs.List.{range_with_len}

-- the first of those that are left, and those behind it
pub numbers_more : (i n : ℕ) → i < n → range_with_len i (n - i) ≡ i ∷ range_with_len (i + 1) (n - (i + 1))
numbers_more i n h = let e : n - i ≡ suc (n - (i + 1)) = omega arith in rw e refl

-- a list is as long as what it is mapped to, once or twice
pub length_once : {A B : Type 0} (f : A → B) (xs : List A) → length (map f xs) ≡ length xs
length_once f xs = length-map xs f

pub length_twice : {A B C : Type 0} (f : B → C) (g : A → B) (xs : List A) → length (map f (map g xs)) ≡ length xs
length_twice f g xs = length-map (map g xs) f ∙ length-map xs g
