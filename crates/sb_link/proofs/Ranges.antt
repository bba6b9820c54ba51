-- Which of a list of ranges has an address, and that no other one has it.
use Rattle.std.proofs.Common.{◌≡◌, ℕ, zero, suc, ◌+◌, ◌-◌, ◌<◌, ◌≤◌, List, [], ◌∷◌, length, get_or, map, take, refl, sym, ap, ◌∙◌, arith, Bool, true, false, cond, Some, ◌&&◌, nat_le, length-take-le, get_or-take}
use Rattle.std.specs.Prelude.{Option, slice_index_or}
use Rattle.std.specs.List.{position_from, zip}
use Rattle.std.proofs.lemmas.List.FromFn.{take-map-range_with_len, fill_by_all}
use Rattle.sb_link.specs.RingPlans.{AddressRange, holds_span, are_apart, AreApart}
use Rattle.sb_link.specs.Plans.{ranges_of}

-- a range from its base and length
abbrev range_of_pair : ℕ × ℕ → AddressRange
range_of_pair pair = record { base = pair.0; bytes = pair.1 }

-- a pair holds so many bytes from an address on, told without a sum
abbrev pub holds_in_pair : ℕ → ℕ → ℕ × ℕ → Bool
holds_in_pair address bytes r = nat_le r.0 address && (nat_le bytes r.1 && nat_le (address - r.0) (r.1 - bytes))

pair_is_range : (address bytes base size : ℕ) → holds_in_pair address bytes (base, size) ≡ holds_span address bytes record { base = base; bytes = size }
pair_is_range address bytes base size = grind arith

first_pair : (address bytes k : ℕ) (pairs : List (ℕ × ℕ)) → position_from (holds_in_pair address bytes) k pairs ≡ position_from (holds_span address bytes) k (map range_of_pair pairs)
first_pair address bytes k [] = refl
first_pair address bytes k ((base, size) ∷ rest) = rw (pair_is_range address bytes base size, first_pair address bytes (k + 1) rest) refl

get_pair : (bases sizes : List ℕ) (k : ℕ) (none : AddressRange) → k < length bases → k < length sizes
    → get_or (map range_of_pair (zip bases sizes)) k none ≡ record { base = get_or bases k 0; bytes = get_or sizes k 0 }
get_pair [] sizes k none lt lt' = absurd (omega arith)
get_pair (b ∷ bases) [] k none lt lt' = absurd (omega arith)
get_pair (b ∷ bases) (s ∷ sizes) zero none lt lt' = refl
get_pair (b ∷ bases) (s ∷ sizes) (suc k) none lt lt' = get_pair bases sizes k none (omega arith) (omega arith)

length_pairs : (bases sizes : List ℕ) → length bases ≡ length sizes → length (map range_of_pair (zip bases sizes)) ≡ length bases
length_pairs [] sizes e = refl
length_pairs (b ∷ bases) [] e = let no_way : ⊥ = cc in absurd no_way
length_pairs (b ∷ bases) (s ∷ sizes) e = let more : length bases ≡ length sizes = omega (arith, e) in ap suc (length_pairs bases sizes more)

module _ (bases sizes : List ℕ) (count : ℕ) (b : length bases ≡ 32) (s : length sizes ≡ 32) (few : count ≤ 32) where
  abbrev made : ℕ → AddressRange
  made k = record { base = slice_index_or bases k 0; bytes = slice_index_or sizes k 0 }

  some_bases : length (take count bases) ≡ count
  some_bases = length-take-le count bases (omega (arith, b, few))

  some_sizes : length (take count sizes) ≡ count
  some_sizes = length-take-le count sizes (omega (arith, s, few))

  get_taken : (k : ℕ) → k < count → get_or (map range_of_pair (zip (take count bases) (take count sizes))) k (range_of_pair (0, 0)) ≡ made k
  get_taken k lt = get_pair (take count bases) (take count sizes) k (range_of_pair (0, 0)) (omega (arith, some_bases, lt)) (omega (arith, some_sizes, lt))
      ∙ rw (get_or-take count bases k 0 lt, get_or-take count sizes k 0 lt) refl

  pairs_are_ranges : map range_of_pair (zip (take count bases) (take count sizes)) ≡ take count (ranges_of bases sizes)
  pairs_are_ranges = fill_by_all made (map range_of_pair (zip (take count bases) (take count sizes))) count (range_of_pair (0, 0))
      (length_pairs (take count bases) (take count sizes) (some_bases ∙ sym some_sizes) ∙ some_bases) get_taken
      ∙ sym (take-map-range_with_len made 0 32 count few)

  -- the first of the pairs that holds the bytes is the first of the ranges that does
  pub first_range : (n address bytes : ℕ) → n ≡ count → position_from (holds_in_pair address bytes) 0 (zip (take n bases) (take n sizes)) ≡ position_from (holds_span address bytes) 0 (take count (ranges_of bases sizes))
  first_range n address bytes e = rw e (first_pair address bytes 0 (zip (take count bases) (take count sizes)) ∙ ap (position_from (holds_span address bytes) 0) pairs_are_ranges)

-- the first element that passes stands there
first_at : {A : Type 0} (test : A → Bool) (k : ℕ) (xs : List A) (i n : ℕ) (none : A) → k + i ≡ n → i < length xs → test (get_or xs i none) ≡ true
    → ((j : ℕ) → j < i → test (get_or xs j none) ≡ false) → position_from test k xs ≡ Some n
first_at test k [] i n none sum lt here before = absurd (omega arith)
first_at test k (x ∷ xs) zero n none sum lt here before = let same : k ≡ n = omega (arith, sum) in rw here (ap (λ (z : ℕ). Some z) same)
first_at test k (x ∷ xs) (suc i) n none sum lt here before =
    let miss : test x ≡ false = before 0 (omega arith) in
    rw miss (first_at test (k + 1) xs i n none (omega (arith, sum)) (omega arith) here (λ j less. before (suc j) (omega arith)))

-- of two ranges that are apart only one holds a byte
apart_misses : (address span : ℕ) (a b : AddressRange) → are_apart a b ≡ true → 0 < span → holds_span address span b ≡ true → holds_span address span a ≡ false
apart_misses address span a b apart some here = grind arith

-- Where ranges are apart, one that holds some bytes is the first that does: no other one holds them.
pub only_range : (ranges : List AddressRange) (address span i : ℕ) (none : AddressRange) → AreApart ranges → 0 < span → i < length ranges
    → holds_span address span (slice_index_or ranges i none) ≡ true → position_from (holds_span address span) 0 ranges ≡ Some i
only_range ranges address span i none apart some lt here = first_at (holds_span address span) 0 ranges i i none (omega arith) lt here
    (λ j less. apart_misses address span (get_or ranges j none) (get_or ranges i none) (apart j i none less lt) some here)

-- the first element that passes stands within the list
within_by : (b : Bool) (k i many : ℕ) (rest : Option ℕ) → (Some i ≡ rest → i < k + 1 + many) → Some i ≡ cond b (Some k) rest → i < k + suc many
within_by true k i many rest further e = let same : i ≡ k = cc in omega (arith, same)
within_by false k i many rest further e = omega (arith, further e)

pub position_within : {A : Type 0} (test : A → Bool) (k : ℕ) (xs : List A) (i : ℕ) → Some i ≡ position_from test k xs → i < k + length xs
position_within test k [] i e = let no_way : ⊥ = cc in absurd no_way
position_within test k (x ∷ xs) i e = within_by (test x) k i (length xs) (position_from test (k + 1) xs) (λ f. position_within test (k + 1) xs i f) e
