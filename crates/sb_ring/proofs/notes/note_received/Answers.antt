-- The rule allows the step.
use Rattle.sb_slot.specs.Slots.{slot_of}
use Rattle.sb_ring.specs.Layout.{slot_width}
use Rattle.sb_ring.specs.Sending.{MaySend}
use Rattle.sb_ring.proofs.Slots.{slot_length}
use Rattle.sb_ring.proofs.Moves.{received_note_allowed}
use Rattle.sb_ring.proofs.notes.note_received.Goals as goal

pub split_seat-requires : goal.split_seat-requires
split_seat-requires c = let seat = c.args.seat.now in
    (c.requires.table, c.requires.size, received_note_allowed slot_width slot_of slot_length MaySend c.args.words.now.key.capacity seat.id seat.me.0 c.requires.role)
