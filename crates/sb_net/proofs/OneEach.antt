-- Where the things of a list give lists, and some in its midst give one thing each, and the others nothing, all together give what those give.
use Rattle.std.proofs.Common.{◌≡◌, ℕ, zero, suc, ◌+◌, ◌<◌, ◌≤◌, List, [], ◌∷◌, ◌++◌, length, refl, sym, ap, ◌∙◌, arith}
use Rattle.std.specs.Prelude.{flat_map, slice_index_or}

module _ {A B : Type 0} (f : A → List B) (d : A) where
  -- those from place a on, n of them, give one thing each; the others give nothing
  pub record GiveOneEach (xs : List A) (a n : ℕ) (g : ℕ → B) : Type 0 where
    pub long : a + n ≤ length xs
    pub before : (k : ℕ) → k < a → f (slice_index_or xs k d) ≡ []
    pub within : (k : ℕ) → a ≤ k → k < a + n → f (slice_index_or xs k d) ≡ g k ∷ []
    pub behind : (k : ℕ) → a + n ≤ k → k < length xs → f (slice_index_or xs k d) ≡ []

  module _ (x : A) (xs : List A) (g : ℕ → B) where
    without_first : (a n : ℕ) → GiveOneEach (x ∷ xs) (suc a) n g → GiveOneEach xs a n (λ k. g (suc k))
    without_first a n w = let long = w.long in record {
      long = omega (arith, long);
      before = λ k lt. w.before (suc k) (omega (arith, lt));
      within = λ k le lt. w.within (suc k) (omega (arith, le)) (omega (arith, lt));
      behind = λ k le lt. w.behind (suc k) (omega (arith, le)) (omega (arith, lt));
    }

    without_one : (n : ℕ) → GiveOneEach (x ∷ xs) zero (suc n) g → GiveOneEach xs zero n (λ k. g (suc k))
    without_one n w = let long = w.long in record {
      long = omega (arith, long);
      before = λ k lt. absurd (omega (arith, lt));
      within = λ k le lt. w.within (suc k) (omega arith) (omega (arith, lt));
      behind = λ k le lt. w.behind (suc k) (omega (arith, le)) (omega (arith, lt));
    }

    without_more : GiveOneEach (x ∷ xs) zero zero g → GiveOneEach xs zero zero (λ k. g (suc k))
    without_more w = record {
      long = omega arith;
      before = λ k lt. absurd (omega (arith, lt));
      within = λ k le lt. absurd (omega (arith, lt));
      behind = λ k le lt. w.behind (suc k) (omega arith) (omega (arith, lt));
    }

    nothing_first : f x ≡ [] → flat_map f (x ∷ xs) ≡ flat_map f xs
    nothing_first e = ap (λ list. list ++ flat_map f xs) e

    one_first : (b : B) → f x ≡ b ∷ [] → flat_map f (x ∷ xs) ≡ b ∷ flat_map f xs
    one_first b e = ap (λ list. list ++ flat_map f xs) e

  -- as many things are given as give one
  pub given_count : (xs : List A) (a n : ℕ) (g : ℕ → B) → GiveOneEach xs a n g → length (flat_map f xs) ≡ n
  given_count [] a n g w = let long = w.long in omega (arith, long)
  given_count (x ∷ xs) zero zero g w = ap (λ list. length list) (nothing_first x xs g (w.behind zero (omega arith) (omega arith))) ∙ given_count xs zero zero (λ k. g (suc k)) (without_more x xs g w)
  given_count (x ∷ xs) zero (suc n) g w =
      ap (λ list. length list) (one_first x xs g (g zero) (w.within zero (omega arith) (omega arith))) ∙ ap suc (given_count xs zero n (λ k. g (suc k)) (without_one x xs g n w))
  given_count (x ∷ xs) (suc a) n g w =
      ap (λ list. length list) (nothing_first x xs g (w.before zero (omega arith))) ∙ given_count xs a n (λ k. g (suc k)) (without_first x xs g a n w)

  -- and each at its place among these
  pub given_at : (xs : List A) (a n : ℕ) (g : ℕ → B) → GiveOneEach xs a n g → (i : ℕ) (e : B) → i < n → slice_index_or (flat_map f xs) i e ≡ g (a + i)
  given_at [] a n g w i e lt = let long = w.long in absurd (omega (arith, long, lt))
  given_at (x ∷ xs) zero zero g w i e lt = absurd (omega (arith, lt))
  given_at (x ∷ xs) zero (suc n) g w zero e lt = ap (λ list. slice_index_or list zero e) (one_first x xs g (g zero) (w.within zero (omega arith) (omega arith)))
  given_at (x ∷ xs) zero (suc n) g w (suc i) e lt =
      ap (λ list. slice_index_or list (suc i) e) (one_first x xs g (g zero) (w.within zero (omega arith) (omega arith)))
      ∙ given_at xs zero n (λ k. g (suc k)) (without_one x xs g n w) i e (omega (arith, lt)) ∙ (let later : suc (0 + i) ≡ 0 + suc i = omega arith in ap g later)
  given_at (x ∷ xs) (suc a) n g w i e lt =
      ap (λ list. slice_index_or list i e) (nothing_first x xs g (w.before zero (omega arith)))
      ∙ given_at xs a n (λ k. g (suc k)) (without_first x xs g a n w) i e lt ∙ (let later : suc (a + i) ≡ suc a + i = omega arith in ap g later)
