-- A moment of a run: what has gone over each ring, and what the nodes have offered and hold, as plain lists.
use Rattle.std.specs.Prelude.{◌≡◌, ℕ, false, List, ◌∷◌, ◌++◌}
use Rattle.sb_packet.specs.Accesses.{Access}
use Rattle.sb_link.specs.Traffic.{has_close, item_accesses}
use Rattle.sb_packet.specs.declared.item.Item.{Item}

-- what has been done by some moment, by the number of a ring
pub record Moment : Type 0 where
  -- what the ring's producer has sent, and what its consumer has received
  pub sent : ℕ → List Item
  pub received : ℕ → List Item
  -- the words that were offered at the port in front of the ring, whether they were sent since, are owed, or are held for merging
  pub offered : ℕ → List Access
  -- the words of the packet that came by the ring and that a router holds
  pub held : ℕ → List Access

-- the words that came by a ring
abbrev pub arrived : Moment → ℕ → List Access
arrived m r = item_accesses (m.received r)

-- nothing follows a Close: no item has one before it
abbrev pub ClosesLast : List Item → Type 0
ClosesLast list = (before after : List Item) (item : Item) → list ≡ before ++ item ∷ after → has_close before ≡ false
