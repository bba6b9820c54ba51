-- What is held between two rings, and why nothing moves.
use Rattle.std.specs.Prelude.{◌≡◌, ◌⊎◌, ℕ, ◌+◌, List, [], ◌∷◌, length, Option, Some, None}
use Rattle.sb_link.specs.RingPlans.{RingPlan}
use Rattle.sb_link.specs.Traffic.{MayFollow}
use Rattle.sb_packet.specs.declared.item.Item.{Item}

-- the item that is held, or nothing
abbrev pub held_items : Option Item → List Item
held_items None = []
held_items (Some item) = item ∷ []

-- whatever may go over the one ring may go over the other
abbrev pub CanFollow : RingPlan → RingPlan → Type 0
CanFollow from to = (before : List Item) (item : Item) → MayFollow from before item → MayFollow to before item

-- nothing is held and nothing waits, or the ring that it goes to is full
abbrev pub IsStuck : Option Item → List Item → ℕ → ℕ → List Item → ℕ → Type 0
IsStuck held received known capacity sent taken = ((held ≡ None) × (known ≡ length received)) ⊎ (length sent ≡ taken + capacity)
