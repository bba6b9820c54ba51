-- Of tests: when two of them are one, and what a test of bits finds.
use Rattle.std.proofs.Common.{◌≡◌, ℕ, zero, suc, List, [], ◌∷◌, refl, sym, true, false, true≢false, arith}
use Rattle.std.proofs.lemmas.Bool.{and_parts}
use Rattle.std.proofs.lemmas.Bool.Decides.{nat_tests}
use Rattle.std.specs.Prelude.{Bool, ◌==◌, not, slice_index_or}
use Rattle.std.specs.List.{list_all}

-- two tests that follow from each other
pub same_test : (b c : Bool) → (b ≡ true → c ≡ true) → (c ≡ true → b ≡ true) → b ≡ c
same_test true c there back = sym (there refl)
same_test false true there back = back refl
same_test false false there back = refl

-- a number is itself
pub same_number : (n : ℕ) → (n == n) ≡ true
same_number n = grind (arith, nat_tests)

-- where no bit is set, none is found
pub none_set : (bits : List Bool) (d : ℕ) → list_all not bits ≡ true → slice_index_or bits d false ≡ false
none_set [] d e = refl
none_set (true ∷ bits) d e = absurd (true≢false (sym e))
none_set (false ∷ bits) zero e = refl
none_set (false ∷ bits) (suc d) e = none_set bits d e

-- where no row has a bit that is set, the row at a place has none
pub none_in_row : (rows : List (List Bool)) (h : ℕ) → list_all (list_all not) rows ≡ true → list_all not (slice_index_or rows h []) ≡ true
none_in_row [] h e = refl
none_in_row (row ∷ rows) zero e = (and_parts (list_all not row) (list_all (list_all not) rows) e).0
none_in_row (row ∷ rows) (suc h) e = none_in_row rows h (and_parts (list_all not row) (list_all (list_all not) rows) e).1
