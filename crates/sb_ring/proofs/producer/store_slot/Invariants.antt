-- The first words are stored.
use Rattle.std.proofs.Common.{◌≡◌, take}
use Rattle.sb_ring.specs.Plays.{with_part}
use Rattle.sb_ring.proofs.producer.store_slot.Given as goal

abbrev pub invariant-loop-j : goal.invariant-loop-j
invariant-loop-j l = (l.seat.table_id ≡ l.initial.seat.table_id) × (l.seat.me ≡ (with_part l.initial.seat.me.0 (take l.j l.slot), l.initial.seat.me.1))
