-- What is put together place by place.
use Rattle.std.proofs.Common.{◌≡◌, ℕ, zero, suc, ◌+◌, ◌<◌, ◌≤◌, ◌-◌, List, ◌++◌, length, sym, ap, ◌∙◌, append_assoc, append-nil, arith}
use Rattle.std.specs.Prelude.{flat_map}
use Rattle.std.specs.List.{range_with_len}
use Rattle.std.proofs.lemmas.List.{length-append}

module _ {A : Type 0} (f : ℕ → List A) where
  -- the first places, and those behind them
  places_split : (a n k : ℕ) → flat_map f (range_with_len a (n + k)) ≡ flat_map f (range_with_len a n) ++ flat_map f (range_with_len (a + n) k)
  places_split a zero k =
      let same : zero + k ≡ k = omega arith in let here : a ≡ a + zero = omega arith in
      ap (λ n. flat_map f (range_with_len a n)) same ∙ ap (λ b. flat_map f (range_with_len b k)) here
  places_split a (suc n) k =
      let more : suc n + k ≡ suc (n + k) = omega arith in let next : a + 1 + n ≡ a + suc n = omega arith in
      ap (λ m. flat_map f (range_with_len a m)) more ∙ ap (λ list. f a ++ list) (places_split (a + 1) n k ∙ ap (λ b. flat_map f (range_with_len (a + 1) n) ++ flat_map f (range_with_len b k)) next)
      ∙ sym (append_assoc (f a) (flat_map f (range_with_len (a + 1) n)) (flat_map f (range_with_len (a + suc n) k)))

  -- one place more
  pub places_more : (n : ℕ) → flat_map f (range_with_len 0 (n + 1)) ≡ flat_map f (range_with_len 0 n) ++ f n
  places_more n =
      let here : 0 + n ≡ n = omega arith in
      places_split 0 n 1 ∙ ap (λ b. flat_map f (range_with_len 0 n) ++ flat_map f (range_with_len b 1)) here ∙ ap (λ list. flat_map f (range_with_len 0 n) ++ list) (append-nil (f n))

  -- a place and those before it have no more than all
  pub places_room : (n k : ℕ) → n < k → length (flat_map f (range_with_len 0 n)) + length (f n) ≤ length (flat_map f (range_with_len 0 k))
  places_room n k lt =
      let rest = k - (n + 1) in
      let all : (n + 1) + rest ≡ k = omega (arith, lt) in
      let split = ap (λ (list : List A). length list) (ap (λ m. flat_map f (range_with_len 0 m)) (sym all) ∙ places_split 0 (n + 1) rest) ∙ length-append (flat_map f (range_with_len 0 (n + 1))) (flat_map f (range_with_len (0 + (n + 1)) rest)) in
      let one = ap (λ (list : List A). length list) (places_more n) ∙ length-append (flat_map f (range_with_len 0 n)) (f n) in
      omega (arith, split, one)
