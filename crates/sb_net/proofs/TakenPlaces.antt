-- What was taken from a place among others.
use Rattle.std.proofs.Common.{◌≡◌, ℕ, ◌<◌, List, length, sym, ap, ◌∙◌, subst, arith}
use Rattle.std.specs.Prelude.{Option, None, Some, slice_index_or}
use Rattle.sb_member.proofs.RingsMet.{within_list}

module _ {A : Type 0} where
  -- something is there, and what it is
  abbrev IsThere : Option A → Type 0
  IsThere None = ⊥
  IsThere (Some x) = Unit {0}

  abbrev held_or : A → Option A → A
  held_or x None = x
  held_or x (Some y) = y

  -- nothing isn't something
  pub not_both : (o : Option A) (x : A) → o ≡ None → o ≡ Some x → ⊥
  not_both o x none some = subst IsThere (sym some ∙ none) tt

  -- what is held at one place is one thing
  pub one_held : (o : Option A) (x y : A) → o ≡ Some x → o ≡ Some y → x ≡ y
  one_held o x y first second = ap (held_or x) (sym first ∙ second)

  -- what was taken from a place is what lay there from the first on
  pub taken_is : (places initial : List (Option A)) (r : ℕ) (got now : Option A) → length places ≡ length initial → r < length initial → got ≡ now → now ≡ slice_index_or places r now
      → slice_index_or places r None ≡ slice_index_or initial r None → slice_index_or initial r None ≡ got
  taken_is places initial r got now long lt got_is now_is same = sym (got_is ∙ now_is ∙ within_list places r now None (omega (arith, long, lt)) ∙ same)
