-- What a closed table of places has.
use Rattle.std.specs.Prelude.{◌≡◌, ℕ, ◌<◌, ◌≤◌, List, false, true, slice_index_or}
use Rattle.std.specs.Slots.{slots_items, slots_len, slots_filled}
use Rattle.atomic_table.specs.declared.owned.Closed.{Closed}

module _ {S A : Type 0} where
  abbrev pub values_of : Closed S A → List S
  values_of c = slots_items c.slots

  abbrev pub place_count : Closed S A → ℕ
  place_count c = slots_len c.slots

  -- the values of all places from one on are there
  abbrev pub HasFrom : Closed S A → ℕ → Type 0
  HasFrom c place = (k : ℕ) → place ≤ k → k < slots_len c.slots → slice_index_or (slots_filled c.slots) k false ≡ true
