-- The rule allows the step, and the item whose words were stored is the one that is sent.
use Rattle.std.proofs.Common.{arith, ap, sym, ◌∙◌}
use Rattle.sb_packet.specs.declared.item.Item.{Item}
use Rattle.sb_slot.specs.Slots.{slot_of}
use Rattle.sb_ring.specs.Layout.{slot_width, tail_word}
use Rattle.sb_ring.specs.Plays.{with_ahead}
use Rattle.sb_ring.specs.Rule.{sent_of}
use Rattle.sb_ring.specs.Sending.{MaySend}
use Rattle.sb_ring.proofs.Moves.{item_end_allowed}
use Rattle.sb_ring.proofs.Slots.{one_sendable, slot_length}
use Rattle.sb_ring.proofs.producer.end_item.Goals as goal

pub load-requires : goal.load-requires
load-requires c = let seat = c.args.seat.now in let words = c.args.words.now in (
  c.requires.table,
  omega arith,
  item_end_allowed slot_width slot_of slot_length MaySend words.key.capacity words.table_id.slots seat.id seat.me tail_word c.args.item.now
      c.requires.role (omega arith) c.requires.whole c.requires.lawful,
)

pub returns-clause-sent : goal.returns-clause-sent
returns-clause-sent c = let me = c.args.seat.now.me in let told = c.load.ensures.2 in
    told.sent ∙ ap (λ (item : Item). (with_ahead me.0 item, me.1)) (one_sendable me.0.plan (sent_of me.0) told.item c.args.item.now told.lawful c.requires.lawful (told.spelt ∙ sym c.requires.whole))
