-- What a seat of places knows, in its forms.
use Rattle.std.specs.Prelude.{ℕ, ◌+◌, Bool, false, List, [], ◌∷◌, Option, Some, None}
use Rattle.sb_places.specs.declared.hand.Hand.{Hand}

-- the parts that all seats have together: more than there can be threads
abbrev pub all_parts : ℕ
all_parts = 18446744073709551616

module _ {V : Type 0} where
  -- the parts of all seats together
  abbrev pub total : List (Hand V) → ℕ
  total [] = 0
  total (v ∷ vs) = v.parts + total vs

  abbrev pub hand : Option V → ℕ → Bool → ℕ → Hand V
  hand visitor parts holds place = record { visitor = visitor; parts = parts; holds = holds; place = place }

  -- a seat that has no value, with so many parts
  abbrev pub with_parts : Hand V → ℕ → Hand V
  with_parts v parts = hand v.visitor parts false 0

  -- the seat of the thread that put the values at their places
  abbrev pub first_hand : V → Hand V
  first_hand visitor = hand (Some visitor) all_parts false 0

  -- a seat that was taken in by another one
  abbrev pub spent_hand : Hand V
  spent_hand = hand None 0 false 0
