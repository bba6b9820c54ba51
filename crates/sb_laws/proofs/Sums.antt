-- Sums over lists that are compared, or taken in another order.
use Rattle.std.proofs.Common.{◌≡◌, ◌≤◌, ℕ, ◌+◌, Bool, true, false, List, [], ◌∷◌, refl, sym, ap, ◌∙◌, arith}
use Rattle.std.specs.Prelude.{sum_by, All, AllPairs}
use Rattle.std.proofs.lemmas.List.Elements.{All-head, All-tail}
use Rattle.std.proofs.lemmas.List.Sums.{sum_by-cons}
use Rattle.sb_packet.proofs.Lists.{AllPairs-head, AllPairs-tail}
use Rattle.sb_flow.proofs.WordBounds.{sum_by-zeros}

module _ {A : Type 0} (f g : A → ℕ) where
  -- what is no more at each element is no more in sum
  pub sum_by_le : (xs : List A) → All (λ x. f x ≤ g x) xs → sum_by f xs ≤ sum_by g xs
  sum_by_le [] h = omega arith
  sum_by_le (x ∷ xs) h =
      let rest = sum_by_le xs (All-tail (λ x. f x ≤ g x) x xs h) in
      let here : f x ≤ g x = All-head (λ x. f x ≤ g x) x xs h in
      omega (arith, sum_by-cons f x xs, sum_by-cons g x xs)

  pub sum_by_same : (xs : List A) → All (λ x. f x ≡ g x) xs → sum_by f xs ≡ sum_by g xs
  sum_by_same [] h = refl
  sum_by_same (x ∷ xs) h =
      let rest = sum_by_same xs (All-tail (λ x. f x ≡ g x) x xs h) in
      let here : f x ≡ g x = All-head (λ x. f x ≡ g x) x xs h in
      omega (arith, sum_by-cons f x xs, sum_by-cons g x xs)

  pub sum_by_plus : (xs : List A) → sum_by (λ x. f x + g x) xs ≡ sum_by f xs + sum_by g xs
  sum_by_plus [] = refl
  sum_by_plus (x ∷ xs) = let rest = sum_by_plus xs in omega (arith, sum_by-cons (λ (y : A). f y + g y) x xs, sum_by-cons f x xs, sum_by-cons g x xs)

-- a sum over two lists is the same in either order
pub sum_by_swap : {A B : Type 0} (f : A → B → ℕ) (xs : List A) (ys : List B) → sum_by (λ x. sum_by (f x) ys) xs ≡ sum_by (λ y. sum_by (λ x. f x y) xs) ys
sum_by_swap {A} {B} f [] ys = sym (sum_by-zeros ys)
sum_by_swap {A} {B} f (x ∷ xs) ys =
    sum_by-cons (λ (z : A). sum_by (f z) ys) x xs
    ∙ ap (λ (n : ℕ). sum_by (f x) ys + n) (sum_by_swap f xs ys)
    ∙ sym (sum_by_plus (f x) (λ (y : B). sum_by (λ (z : A). f z y) xs) ys)
    ∙ sym (sum_by_same (λ (y : B). sum_by (λ (z : A). f z y) (x ∷ xs)) (λ (y : B). f x y + sum_by (λ (z : A). f z y) xs) ys (λ k d below. sum_by-cons (λ (z : A). f z _) x xs))

-- where at most one number passes a test, and at the others there is nothing, a sum is no more than it is there
pub sum_of_one : (test : ℕ → Bool) (g : ℕ → ℕ) (most : ℕ) (ks : List ℕ) → All (λ k. test k ≡ true → g k ≤ most) ks → All (λ k. test k ≡ false → g k ≡ 0) ks
    → AllPairs (λ j k. test j ≡ true → test k ≡ false) ks → sum_by g ks ≤ most
sum_of_one test g most [] small none once = omega arith
sum_of_one test g most (k ∷ ks) small none once = by_test (test k) refl (sum_of_one test g most ks (All-tail (λ k. test k ≡ true → g k ≤ most) k ks small) others (AllPairs-tail (λ j k. test j ≡ true → test k ≡ false) k ks once))
  where
    others : All (λ k. test k ≡ false → g k ≡ 0) ks
    others = All-tail (λ k. test k ≡ false → g k ≡ 0) k ks none

    nothing_more : test k ≡ true → sum_by g ks ≡ 0
    nothing_more t = sum_by_same g (λ j. 0) ks (λ i d below. others i d below (AllPairs-head (λ j k. test j ≡ true → test k ≡ false) k ks once i d below t)) ∙ sum_by-zeros ks

    by_test : (b : Bool) → test k ≡ b → sum_by g ks ≤ most → sum_by g (k ∷ ks) ≤ most
    by_test true t rest =
        let here = All-head (λ k. test k ≡ true → g k ≤ most) k ks small t in
        let more = nothing_more t in
        omega (arith, sum_by-cons g k ks)
    by_test false t rest =
        let here = All-head (λ k. test k ≡ false → g k ≡ 0) k ks none t in
        omega (arith, sum_by-cons g k ks)
