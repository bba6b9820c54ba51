-- The rule allows the step.
use Rattle.sb_slot.specs.Slots.{slot_of}
use Rattle.sb_ring.specs.Layout.{slot_width}
use Rattle.sb_ring.specs.Sending.{MaySend}
use Rattle.sb_ring.proofs.Slots.{slot_length}
use Rattle.sb_ring.proofs.Moves.{word_load_allowed}
use Rattle.sb_ring.proofs.consumer.load_word.Goals as goal

pub load-requires : goal.load-requires
load-requires c = let seat = c.args.seat.now in let words = c.args.words.now in (
  c.requires.table,
  c.requires.size,
  word_load_allowed slot_width slot_of slot_length MaySend words.key.capacity words.table_id.slots seat.id seat.me c.args.place
      c.requires.role c.requires.waits c.requires.narrow c.requires.place,
)
