-- What holds of places between any two steps.
-- A place's word is 0 where its value is there, and then the value keeps what it is to keep. Else one seat has it, which
-- has a part. All seats together have a fixed number of parts. So a seat that has all of them, and no value, knows that
-- every value is at its place.
use Rattle.std.specs.Prelude.{◌≡◌, ◌≢◌, ℕ, ◌<◌, true, false, List, [], ◌∷◌, length, slice_index, slice_index_or, Some}
use mathlib.Core.Option.{Option, some}
use lib.ListN.{get_elem?}
use Rattle.atomic_table.specs.Table.{State, Me}
use Rattle.sb_places.specs.declared.hand.Hand.{Hand}
use Rattle.sb_places.specs.Hands.{all_parts, total, hand, with_parts}

module _ {V : Type 0} where
  -- one of the seats has the value of a place
  pub record IsOut (views : List (Hand V)) (place : ℕ) : Type 0 where
    pub seat : ℕ
    pub view : Hand V
    pub sits : get_elem? views seat ≡ some view
    pub holds : view.holds ≡ true
    pub there : view.place ≡ place
    pub part : 0 < view.parts

module _ {S V : Type 0} (keeps : V → ℕ → S → Type 0) where
  -- a value is at its place, and keeps the fact
  pub record IsHome (visitor : V) (homes : List (Option S)) (place : ℕ) : Type 0 where
    pub value : S
    pub stands : get_elem? homes place ≡ some (some value)
    pub kept : keeps visitor place value

  -- the rule
  pub record IsPlaces (visitor : V) (table : State S (Hand V)) : Type 0 where
    pub size : length table.words ≡ length table.homes
    pub parts : total table.views ≡ all_parts
    pub one_visitor : (j : ℕ) (v : Hand V) → get_elem? table.views j ≡ some v → 0 < v.parts → v.visitor ≡ Some visitor
    pub home : (g : ℕ) → g < length table.homes → slice_index table.words g ≡ 0 → IsHome visitor table.homes g
    pub out : (g : ℕ) → g < length table.homes → slice_index table.words g ≢ 0 → IsOut table.views g

  -- a place was tried: where its value was there, the seat has it, and it keeps the fact
  pub record IsTried (place : ℕ) (before : Me S (Hand V)) (found : ℕ) (after : Me S (Hand V)) : Type 0 where
    pub taken : found ≡ 0 → (x : S) × ((visitor : V) → before.0.visitor ≡ Some visitor → keeps visitor place x)
        × (after ≡ (hand before.0.visitor before.0.parts true place, (place, x) ∷ before.1))
    pub missed : found ≢ 0 → after ≡ before

module _ {S V : Type 0} where
  -- what the seat had was given back
  pub record IsGivenBack (before after : Me S (Hand V)) : Type 0 where
    pub given : after ≡ (with_parts before.0 before.0.parts, [])

  -- a seat that has no value, with so many parts
  pub record IsIdle (visitor : V) (parts : ℕ) (me : Me S (Hand V)) : Type 0 where
    pub same_visitor : me.0.visitor ≡ Some visitor
    pub same_parts : me.0.parts ≡ parts
    pub idle : me.0.holds ≡ false
    pub empty : me.1 ≡ []

-- each value keeps the fact at its place
abbrev pub AreKept : {S V : Type 0} → (V → ℕ → S → Type 0) → V → List S → Type 0
AreKept {S} keeps visitor xs = (g : ℕ) (d : S) → g < length xs → keeps visitor g (slice_index_or xs g d)
