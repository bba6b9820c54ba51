-- The rule allows the step.
use Rattle.std.proofs.Common.{arith}
use Rattle.sb_slot.specs.Slots.{slot_of}
use Rattle.sb_ring.specs.Layout.{slot_width}
use Rattle.sb_ring.specs.Sending.{MaySend}
use Rattle.sb_ring.proofs.Slots.{slot_length}
use Rattle.sb_ring.proofs.Moves.{tail_load_allowed}
use Rattle.sb_ring.proofs.consumer.load_tail.Goals as goal

pub load-requires : goal.load-requires
load-requires c = let seat = c.args.seat.now in let words = c.args.words.now in
    (c.requires.table, omega arith, tail_load_allowed slot_width slot_of slot_length MaySend words.key.capacity words.table_id.slots seat.id seat.me c.requires.role)
