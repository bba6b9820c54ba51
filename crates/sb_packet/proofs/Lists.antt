-- Facts about all elements of a list, and lists that are filtered or joined.
use Rattle.std.proofs.Common.{◌≡◌, ◌<◌, ℕ, suc, List, [], ◌∷◌, ◌++◌, ap, ◌∙◌, sym, refl, arith, subst, Bool, true, false, cond, length}
use Rattle.std.specs.Prelude.{map, filter, flat_map, All, AllPairs}
use Rattle.std.specs.List.{range_with_len}
use Rattle.std.proofs.lemmas.List.Elements.{All-nil, All-cons, All-append, All-head, All-tail}
use Rattle.std.proofs.lemmas.List.Kept.{AllPairs-cons}
use Rattle.std.proofs.lemmas.List.FromFn.{get_or-map-range_with_len, length-map-range_with_len}

module _ {X : Type 0} (P : X → Type 0) where
  pub All-left : (xs ys : List X) → All P (xs ++ ys) → All P xs
  All-left [] ys h = All-nil P
  All-left (x ∷ xs) ys h = All-cons P x xs (All-head P x (xs ++ ys) h) (All-left xs ys (All-tail P x (xs ++ ys) h))

  pub All-right : (xs ys : List X) → All P (xs ++ ys) → All P ys
  All-right [] ys h = h
  All-right (x ∷ xs) ys h = All-right xs ys (All-tail P x (xs ++ ys) h)

  -- what holds at each of the first n numbers holds of the list made from them
  pub All-made : (f : ℕ → X) (n : ℕ) → ((j : ℕ) → j < n → P (f j)) → All P (map f (range_with_len 0 n))
  All-made f n each k d below =
      let inside : k < n = rw length-map-range_with_len at below in
      subst P (sym (get_or-map-range_with_len f 0 n k k d inside (omega arith))) (each k inside)

  -- what holds of all pieces one after another holds of each piece
  pub All-pieces : {Y : Type 0} (f : Y → List X) (ys : List Y) → All P (flat_map f ys) → All (λ y. All P (f y)) ys
  All-pieces f [] h = All-nil (λ y. All P (f y))
  All-pieces f (y ∷ ys) h = All-cons (λ y. All P (f y)) y ys (All-left (f y) (flat_map f ys) h) (All-pieces f ys (All-right (f y) (flat_map f ys) h))

  -- what holds of each piece holds of all pieces one after another
  pub All-joined : {Y : Type 0} (f : Y → List X) (ys : List Y) → All (λ y. All P (f y)) ys → All P (flat_map f ys)
  All-joined f [] h = All-nil P
  All-joined f (y ∷ ys) h = All-append P (f y) (flat_map f ys) (All-head (λ y. All P (f y)) y ys h) (All-joined f ys (All-tail (λ y. All P (f y)) y ys h))

module _ {X : Type 0} (test : X → Bool) where
  -- what passes is kept
  pub filter_all : (xs : List X) → All (λ x. test x ≡ true) xs → filter test xs ≡ xs
  filter_all [] h = refl
  filter_all (x ∷ xs) h =
      ap (λ b. cond b (x ∷ filter test xs) (filter test xs)) (All-head (λ x. test x ≡ true) x xs h)
      ∙ ap (λ rest. x ∷ rest) (filter_all xs (All-tail (λ x. test x ≡ true) x xs h))

  -- what fails is not
  pub filter_none : (xs : List X) → All (λ x. test x ≡ false) xs → filter test xs ≡ []
  filter_none [] h = refl
  filter_none (x ∷ xs) h =
      ap (λ b. cond b (x ∷ filter test xs) (filter test xs)) (All-head (λ x. test x ≡ false) x xs h)
      ∙ filter_none xs (All-tail (λ x. test x ≡ false) x xs h)

  -- what holds of what is kept holds of all that passes
  pub All-kept : (P : X → Type 0) (xs : List X) → All P (filter test xs) → All (λ x. test x ≡ true → P x) xs
  All-kept P [] h = All-nil (λ x. test x ≡ true → P x)
  All-kept P (x ∷ xs) h =
      elim (test x) as (λ b. test x ≡ b → All P (cond b (x ∷ filter test xs) (filter test xs)) → All (λ x. test x ≡ true → P x) (x ∷ xs)) [
        | true ↦ λ passes h. All-cons (λ x. test x ≡ true → P x) x xs (λ e. All-head P x (filter test xs) h) (All-kept P xs (All-tail P x (filter test xs) h))
        | false ↦ λ fails h. All-cons (λ x. test x ≡ true → P x) x xs (λ e. absurd (cc)) (All-kept P xs h)
      ] refl h

module _ {X : Type 0} (R : X → X → Type 0) where
  pub AllPairs-head : (x : X) (xs : List X) → AllPairs R (x ∷ xs) → All (R x) xs
  AllPairs-head x xs h k d below = h 0 (suc k) d (omega arith) (omega arith)

  pub AllPairs-tail : (x : X) (xs : List X) → AllPairs R (x ∷ xs) → AllPairs R xs
  AllPairs-tail x xs h i j d below inside = h (suc i) (suc j) d (omega arith) (omega arith)

  -- what relates all that is kept relates all that passes
  pub AllPairs-kept : (test : X → Bool) (xs : List X) → AllPairs R (filter test xs) → AllPairs (λ x y. test x ≡ true → test y ≡ true → R x y) xs
  AllPairs-kept test [] h = λ i j d below inside. absurd (omega arith)
  AllPairs-kept test (x ∷ xs) h =
      let S : X → X → Type 0 = λ x y. test x ≡ true → test y ≡ true → R x y in
      elim (test x) as (λ b. test x ≡ b → AllPairs R (cond b (x ∷ filter test xs) (filter test xs)) → AllPairs (λ x y. test x ≡ true → test y ≡ true → R x y) (x ∷ xs)) [
        | true ↦ λ passes h.
            let first = All-kept test (R x) xs (AllPairs-head x (filter test xs) h) in
            AllPairs-cons S x xs (λ k d below e. first k d below) (AllPairs-kept test xs (AllPairs-tail x (filter test xs) h))
        | false ↦ λ fails h. AllPairs-cons S x xs (λ k d below e. absurd (cc)) (AllPairs-kept test xs h)
      ] refl h

-- lists that are joined alike, whose fronts have one length, are alike
pub split_alike : {X : Type 0} (xs ys zs ws : List X) → length xs ≡ length zs → xs ++ ys ≡ zs ++ ws → (xs ≡ zs) × (ys ≡ ws)
split_alike [] ys [] ws long e = (refl, e)
split_alike [] ys (z ∷ zs) ws long e = absurd (omega arith)
split_alike (x ∷ xs) ys [] ws long e = absurd (omega arith)
split_alike (x ∷ xs) ys (z ∷ zs) ws long e =
    let first : x ≡ z = cc in
    let rest : xs ++ ys ≡ zs ++ ws = cc in
    let more = split_alike xs ys zs ws (omega arith) rest in
    (rw (first, more.0) refl, more.1)
