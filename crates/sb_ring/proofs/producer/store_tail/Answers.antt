-- The rule allows the step.
use Rattle.std.proofs.Common.{arith}
use Rattle.sb_slot.specs.Slots.{slot_of}
use Rattle.sb_ring.specs.Layout.{slot_width}
use Rattle.sb_ring.specs.Sending.{MaySend}
use Rattle.sb_ring.proofs.Moves.{tail_store_allowed}
use Rattle.sb_ring.proofs.Slots.{slot_length}
use Rattle.sb_ring.proofs.producer.store_tail.Goals as goal

pub store-requires : goal.store-requires
store-requires c = let seat = c.args.seat.now in let words = c.args.words.now in (
  c.requires.table,
  omega arith,
  tail_store_allowed slot_width slot_of slot_length MaySend words.key.capacity words.table_id.slots seat.id seat.me c.args.count
      c.requires.role c.requires.count,
)
