-- Elements of lists that are numbered, joined and mapped, by their places.
use Rattle.std.proofs.Common.{◌≡◌, ◌<◌, ℕ, zero, suc, ◌+◌, Bool, true, false, cond, List, [], ◌∷◌, ◌++◌, length, refl, sym, ◌∙◌, arith, subst}
use Rattle.std.specs.Prelude.{◌||◌, map, filter, flat_map, All, AllPairs, get_or}
use Rattle.std.specs.List.{list_any, enumerate_from, range_with_len}
use Rattle.std.proofs.lemmas.List.Elements.{All-nil, All-cons, All-append, All-head, All-tail}
use Rattle.std.proofs.lemmas.List.Folds.{list_any-append}
use Rattle.std.proofs.lemmas.List.FromFn.{length-enumerate_from, get_or-enumerate_from, length-range_with_len, get_or-range_with_len}
use Rattle.std.proofs.lemmas.List.Kept.{AllPairs-cons}
use Rattle.sb_packet.proofs.Lists.{AllPairs-head, AllPairs-tail, All-joined}

pub or_right : (a b : Bool) → b ≡ true → (a || b) ≡ true
or_right true b h = refl
or_right false b h = h

pub or_left : (a b : Bool) → a ≡ true → (a || b) ≡ true
or_left true b h = refl
or_left false b h = absurd (cc)

module _ {X : Type 0} where
  -- what holds of each element and its place holds of all numbered ones
  pub All-enumerated : (P : ℕ × X → Type 0) (n : ℕ) (xs : List X) → ((k : ℕ) (d : X) → k < length xs → P (n + k, get_or xs k d)) → All P (enumerate_from n xs)
  All-enumerated P n xs h k d below =
      let inside : k < length xs = omega (arith, length-enumerate_from n xs) in
      subst P (sym (get_or-enumerate_from n xs k d inside)) (h k d.1 inside)

  pub AllPairs-enumerated : (R : X → X → Type 0) (n : ℕ) (xs : List X) → AllPairs R xs → AllPairs (λ p q. R p.1 q.1) (enumerate_from n xs)
  AllPairs-enumerated R n xs h i j d below inside =
      let within : j < length xs = omega (arith, length-enumerate_from n xs) in
      subst (λ (p : ℕ × X). R p.1 (get_or (enumerate_from n xs) j d).1) (sym (get_or-enumerate_from n xs i d (omega arith)))
      (subst (λ (q : ℕ × X). R (get_or xs i d.1) q.1) (sym (get_or-enumerate_from n xs j d within)) (h i j d.1 below within))

  -- what relates pictures, made from pairs that are so related
  pub AllPairs-map : {Y : Type 0} (R : Y → Y → Type 0) (f : X → Y) (xs : List X) → AllPairs (λ x y. R (f x) (f y)) xs → AllPairs R (map f xs)
  AllPairs-map R f [] h = λ i j d below inside. absurd (omega arith)
  AllPairs-map R f (x ∷ xs) h = AllPairs-cons R (f x) (map f xs) (All-pictures R f x xs (AllPairs-head (λ x y. R (f x) (f y)) x xs h)) (AllPairs-map R f xs (AllPairs-tail (λ x y. R (f x) (f y)) x xs h))
    where
      All-pictures : {Y : Type 0} (R : Y → Y → Type 0) (f : X → Y) (x : X) (ys : List X) → All (λ y. R (f x) (f y)) ys → All (R (f x)) (map f ys)
      All-pictures R f x [] h = All-nil (R (f x))
      All-pictures R f x (y ∷ ys) h = All-cons (R (f x)) (f y) (map f ys) (All-head (λ y. R (f x) (f y)) y ys h) (All-pictures R f x ys (All-tail (λ y. R (f x) (f y)) y ys h))

  AllPairs-append : (R : X → X → Type 0) (xs ys : List X) → AllPairs R xs → AllPairs R ys → All (λ x. All (R x) ys) xs → AllPairs R (xs ++ ys)
  AllPairs-append R [] ys h k across = k
  AllPairs-append R (x ∷ xs) ys h k across = AllPairs-cons R x (xs ++ ys)
      (All-append (R x) xs ys (AllPairs-head R x xs h) (All-head (λ x. All (R x) ys) x xs across))
      (AllPairs-append R xs ys (AllPairs-tail R x xs h) k (All-tail (λ x. All (R x) ys) x xs across))

  pub AllPairs-joined : {Y : Type 0} (R : X → X → Type 0) (f : Y → List X) (ys : List Y) → All (λ y. AllPairs R (f y)) ys → AllPairs (λ y z. All (λ a. All (R a) (f z)) (f y)) ys → AllPairs R (flat_map f ys)
  AllPairs-joined R f [] each across = λ i j d below inside. absurd (omega arith)
  AllPairs-joined {Y} R f (y ∷ ys) each across = AllPairs-append R (f y) (flat_map f ys) (All-head (λ y. AllPairs R (f y)) y ys each)
      (AllPairs-joined R f ys (All-tail (λ y. AllPairs R (f y)) y ys each) (AllPairs-tail (λ y z. All (λ a. All (R a) (f z)) (f y)) y ys across))
      (λ k a below. All-joined (R (get_or (f y) k a)) f ys (λ i z inside. AllPairs-head (λ y z. All (λ a. All (R a) (f z)) (f y)) y ys across i z inside k a below))

  -- a test that one element passes
  pub any_at : (p : X → Bool) (xs : List X) (k : ℕ) (d : X) → k < length xs → p (get_or xs k d) ≡ true → list_any p xs ≡ true
  any_at p [] k d inside e = absurd (omega arith)
  any_at p (x ∷ xs) zero d inside e = or_left (p x) (list_any p xs) e
  any_at p (x ∷ xs) (suc k) d inside e = or_right (p x) (list_any p xs) (any_at p xs k d (omega arith) e)

  pub any_passing : (p q : X → Bool) (xs : List X) (k : ℕ) (d : X) → k < length xs → q (get_or xs k d) ≡ true → p (get_or xs k d) ≡ true → list_any p (filter q xs) ≡ true
  any_passing p q [] k d inside t e = absurd (omega arith)
  any_passing p q (x ∷ xs) zero d inside t e = rw t (or_left (p x) (list_any p (filter q xs)) e)
  any_passing p q (x ∷ xs) (suc k) d inside t e = by_test (q x) (any_passing p q xs k d (omega arith) t e)
    where
      by_test : (b : Bool) → list_any p (filter q xs) ≡ true → list_any p (cond b (x ∷ filter q xs) (filter q xs)) ≡ true
      by_test true rest = or_right (p x) (list_any p (filter q xs)) rest
      by_test false rest = rest

  pub any_joined : {Y : Type 0} (p : X → Bool) (f : Y → List X) (ys : List Y) (k : ℕ) (d : Y) → k < length ys → list_any p (f (get_or ys k d)) ≡ true → list_any p (flat_map f ys) ≡ true
  any_joined p f [] k d inside e = absurd (omega arith)
  any_joined p f (y ∷ ys) zero d inside e = list_any-append p (f y) (flat_map f ys) ∙ or_left (list_any p (f y)) (list_any p (flat_map f ys)) e
  any_joined p f (y ∷ ys) (suc k) d inside e = list_any-append p (f y) (flat_map f ys) ∙ or_right (list_any p (f y)) (list_any p (flat_map f ys)) (any_joined p f ys k d (omega arith) e)

-- numbers one after another rise
pub range_rises : (a n : ℕ) → AllPairs (λ x y. x < y) (range_with_len a n)
range_rises a n i j d below inside =
    let within : j < n = omega (arith, length-range_with_len a n) in
    omega (arith, get_or-range_with_len a n i d (omega arith), get_or-range_with_len a n j d within)

pub range_below : (n : ℕ) → All (λ k. k < n) (range_with_len 0 n)
range_below n i d below =
    let inside : i < n = omega (arith, length-range_with_len 0 n) in
    omega (arith, get_or-range_with_len 0 n i d inside)
