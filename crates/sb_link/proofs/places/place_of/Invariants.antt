-- place_of: no row before this one is of the ring.
use Rattle.std.proofs.Common.{◌≡◌, ℕ, ◌<◌, ◌-◌, length}
use Rattle.std.specs.Prelude.{Some, slice_get}
use Rattle.sb_link.specs.declared.registered_ring.RegisteredRing.{RegisteredRing}
use Rattle.sb_link.proofs.places.place_of.Given as goal

abbrev pub invariant-loop-at : goal.invariant-loop-at
invariant-loop-at g l = (l.at < length l.rows) × ((j : ℕ) (r : RegisteredRing g.row.E.Denot) → j < l.at → slice_get l.rows j ≡ Some r → r.plan.ring ≡ l.ring → ⊥)

abbrev pub decreases-loop-at : goal.decreases-loop-at
decreases-loop-at g l = length l.rows - l.at
