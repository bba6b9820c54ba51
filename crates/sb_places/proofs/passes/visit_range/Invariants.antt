-- The seat stays idle.
use Rattle.std.specs.Prelude.{◌≡◌}
use Rattle.sb_places.specs.Rule.{IsIdle}
use Rattle.sb_places.proofs.passes.visit_range.Given as goal

abbrev pub invariant-loop-place : goal.invariant-loop-place
invariant-loop-place g l = (l.seat.table_id ≡ l.fn.seat.table_id) × (l.seat.id ≡ l.fn.seat.id) × IsIdle l.work.places.now.key l.fn.seat.me.0.parts l.seat.me
