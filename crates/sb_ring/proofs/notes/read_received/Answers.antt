-- The rule allows the step.
use Rattle.std.specs.Prelude.{None}
use Rattle.sb_slot.specs.Slots.{slot_of}
use Rattle.sb_ring.specs.Layout.{slot_width}
use Rattle.sb_ring.specs.Sending.{MaySend}
use Rattle.sb_ring.proofs.Slots.{slot_length}
use Rattle.sb_ring.proofs.Moves.{received_note_read}
use Rattle.sb_ring.proofs.notes.read_received.Goals as goal

pub join_seat-requires : goal.join_seat-requires
join_seat-requires c = let seat = c.args.seat.now in let note = c.args.note in (
  c.requires.table,
  c.requires.note_table,
  c.requires.note_slots,
  c.requires.size,
  received_note_read slot_width slot_of slot_length MaySend c.args.words.now.key.capacity None seat.id seat.me.0 note.id note.me.0 c.requires.role c.requires.note_role,
)
