-- Lists of numbers that grow place by place, and their sums.
use Rattle.std.proofs.Common.{◌≡◌, ◌≤◌, ◌<◌, ℕ, zero, suc, ◌+◌, inl, inr, List, [], ◌∷◌, ◌++◌, length, refl, sym, ap, ◌∙◌, subst, arith}
use Rattle.std.specs.Prelude.{map, sum_by, slice_index_or}
use Rattle.std.specs.List.{range_with_len}
use Rattle.std.proofs.lemmas.Bool.{cases_lt}
use Rattle.std.proofs.lemmas.List.Sums.{sum_by-cons}
use Rattle.sb_member.proofs.RingsJoined.{same_or_not}

-- the sum of numbers
abbrev pub total : List ℕ → ℕ
total ns = sum_by (λ n. n) ns

-- as many numbers, none of them less
pub record NoLess (xs ys : List ℕ) : Type 0 where
  pub count : length ys ≡ length xs
  pub each : (i : ℕ) → slice_index_or xs i 0 ≤ slice_index_or ys i 0

tail_grows : (x y : ℕ) (xs ys : List ℕ) → NoLess (x ∷ xs) (y ∷ ys) → NoLess xs ys
tail_grows x y xs ys h = record { count = let same = h.count in omega (arith, same); each = λ i. h.each (suc i) }

cons_grows : (x y : ℕ) (xs ys : List ℕ) → x ≤ y → NoLess xs ys → NoLess (x ∷ xs) (y ∷ ys)
cons_grows x y xs ys first h = record { count = let same = h.count in omega (arith, same); each = each }
  where
    each : (i : ℕ) → slice_index_or (x ∷ xs) i 0 ≤ slice_index_or (y ∷ ys) i 0
    each zero = first
    each (suc i) = h.each i

pub none_grow : NoLess [] []
none_grow = record { count = refl; each = λ i. omega arith }

pub one_grows : (x y : ℕ) → x ≤ y → NoLess (x ∷ []) (y ∷ [])
one_grows x y first = cons_grows x y [] [] first none_grow

pub both_grow : (xs ys us vs : List ℕ) → NoLess xs ys → NoLess us vs → NoLess (xs ++ us) (ys ++ vs)
both_grow [] [] us vs a b = b
both_grow [] (y ∷ ys) us vs a b = absurd (let same = a.count in omega (arith, same))
both_grow (x ∷ xs) [] us vs a b = absurd (let same = a.count in omega (arith, same))
both_grow (x ∷ xs) (y ∷ ys) us vs a b = cons_grows x y (xs ++ us) (ys ++ vs) (a.each 0) (both_grow xs ys us vs (tail_grows x y xs ys a) b)

-- what is counted of each element grows, where it grows at each place
pub map_grows : {A : Type 0} (f : A → ℕ) (none : A) (xs ys : List A) → length ys ≡ length xs
    → ((i : ℕ) → i < length xs → f (slice_index_or xs i none) ≤ f (slice_index_or ys i none)) → NoLess (map f xs) (map f ys)
map_grows f none [] [] same each = none_grow
map_grows f none [] (y ∷ ys) same each = absurd (omega (arith, same))
map_grows f none (x ∷ xs) [] same each = absurd (omega (arith, same))
map_grows f none (x ∷ xs) (y ∷ ys) same each =
    cons_grows (f x) (f y) (map f xs) (map f ys) (each 0 (omega arith)) (map_grows f none xs ys (omega (arith, same)) (λ i below. each (suc i) (omega (arith, below))))

pub total_grows : (xs ys : List ℕ) → NoLess xs ys → total xs ≤ total ys
total_grows [] [] h = omega arith
total_grows [] (y ∷ ys) h = absurd (let same = h.count in omega (arith, same))
total_grows (x ∷ xs) [] h = absurd (let same = h.count in omega (arith, same))
total_grows (x ∷ xs) (y ∷ ys) h =
    let rest = total_grows xs ys (tail_grows x y xs ys h) in
    let first : x ≤ y = h.each 0 in
    omega (arith, rest, first, sum_by-cons (λ (n : ℕ). n) x xs, sum_by-cons (λ (n : ℕ). n) y ys)

-- a place at which a number grew
pub record GrewAt (xs ys : List ℕ) : Type 0 where
  pub place : ℕ
  pub inside : place < length xs
  pub more : slice_index_or xs place 0 < slice_index_or ys place 0

-- of a sum that grew one number grew
pub one_grew : (xs ys : List ℕ) → NoLess xs ys → total xs < total ys → GrewAt xs ys
one_grew [] [] h more = absurd (omega (arith, more))
one_grew [] (y ∷ ys) h more = absurd (let same = h.count in omega (arith, same))
one_grew (x ∷ xs) [] h more = absurd (let same = h.count in omega (arith, same))
one_grew (x ∷ xs) (y ∷ ys) h more = elim (cases_lt x y) [
  | inl lt ↦ record { place = 0; inside = omega arith; more = lt }
  | inr le ↦
      let rest : GrewAt xs ys = one_grew xs ys (tail_grows x y xs ys h) (omega (arith, more, le, sum_by-cons (λ (n : ℕ). n) x xs, sum_by-cons (λ (n : ℕ). n) y ys)) in
      record { place = suc rest.place; inside = let lt = rest.inside in omega (arith, lt); more = rest.more }
]

-- what is counted of each element, in a list
pub total_map : {A : Type 0} (f : A → ℕ) (xs : List A) → total (map f xs) ≡ sum_by f xs
total_map f [] = refl
total_map f (x ∷ xs) = sum_by-cons (λ (n : ℕ). n) (f x) (map f xs) ∙ ap (λ (n : ℕ). f x + n) (total_map f xs) ∙ sym (sum_by-cons f x xs)

module _ (f g : ℕ → ℕ) where
  -- sums over numbers in a row: no less where no term is, more where one is, and the same where all are
  pub range_grows : (a n : ℕ) → ((r : ℕ) → r < a + n → f r ≤ g r) → sum_by f (range_with_len a n) ≤ sum_by g (range_with_len a n)
  range_grows a zero each = omega arith
  range_grows a (suc n) each =
      let rest = range_grows (a + 1) n (λ r below. each r (omega (arith, below))) in
      let here : f a ≤ g a = each a (omega arith) in
      omega (arith, rest, here, sum_by-cons f a (range_with_len (a + 1) n), sum_by-cons g a (range_with_len (a + 1) n))

  pub range_grows_more : (a n k : ℕ) → ((r : ℕ) → r < a + n → f r ≤ g r) → a ≤ k → k < a + n → f k < g k → sum_by f (range_with_len a n) < sum_by g (range_with_len a n)
  range_grows_more a zero k each from to more = absurd (omega (arith, from, to))
  range_grows_more a (suc n) k each from to more = same_or_not a k
      (λ e.
      let rest = range_grows (a + 1) n (λ r below. each r (omega (arith, below))) in
      let here : f a < g a = subst (λ i. f i < g i) (sym e) more in
      omega (arith, rest, here, sum_by-cons f a (range_with_len (a + 1) n), sum_by-cons g a (range_with_len (a + 1) n)))
      (λ n_same.
      let further : a + 1 ≤ k = elim (cases_lt a k) [ inl lt ↦ omega (arith, lt) | inr le ↦ absurd (n_same (omega (arith, le, from))) ] in
      let rest = range_grows_more (a + 1) n k (λ r below. each r (omega (arith, below))) further (omega (arith, to)) more in
      let here : f a ≤ g a = each a (omega arith) in
      omega (arith, rest, here, sum_by-cons f a (range_with_len (a + 1) n), sum_by-cons g a (range_with_len (a + 1) n)))

pub range_same : (f g : ℕ → ℕ) (n : ℕ) → ((r : ℕ) → r < n → f r ≡ g r) → sum_by f (range_with_len 0 n) ≡ sum_by g (range_with_len 0 n)
range_same f g n each =
    let up = range_grows f g 0 n (λ r below. let e = each r (omega (arith, below)) in omega (arith, e)) in
    let down = range_grows g f 0 n (λ r below. let e = each r (omega (arith, below)) in omega (arith, e)) in
    omega (arith, up, down)
