-- The first words are loaded.
use Rattle.std.proofs.Common.{◌≡◌, take, length}
use Rattle.sb_ring.specs.Plays.{with_part}
use Rattle.sb_ring.proofs.consumer.load_slot.Given as goal

abbrev pub invariant-loop-k : goal.invariant-loop-k
invariant-loop-k l = (l.seat.table_id ≡ l.initial.seat.table_id) × (l.seat.me ≡ (with_part l.initial.seat.me.0 (take l.k l.slot), l.initial.seat.me.1)) × (length l.slot ≡ 8)
