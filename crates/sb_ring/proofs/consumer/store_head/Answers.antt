-- The rule allows the step, and the words that were loaded read as the item that is received.
use Rattle.std.proofs.Common.{ap, sym, ◌∙◌, length, subst}
use Rattle.sb_packet.specs.declared.item.Item.{Item}
use Rattle.sb_ring.specs.Plays.{with_item}
use Rattle.sb_slot.specs.Slots.{slot_of}
use Rattle.sb_ring.specs.Layout.{slot_width}
use Rattle.sb_ring.specs.Sending.{MaySend}
use Rattle.sb_ring.proofs.Slots.{one_ok, read_as, slot_length}
use Rattle.sb_ring.proofs.Moves.{head_store_allowed}
use Rattle.sb_ring.proofs.consumer.store_head.Goals as goal

pub store-requires : goal.store-requires
store-requires c = let seat = c.args.seat.now in let words = c.args.words.now in (
  c.requires.table,
  c.requires.size,
  head_store_allowed slot_width slot_of slot_length MaySend words.key.capacity words.table_id.slots seat.id seat.me c.args.count
      c.requires.role (ap length (sym c.requires.whole) ∙ c.told-slot) c.requires.waits c.requires.count,
)

pub unreachable-requires : goal.unreachable-requires
unreachable-requires c = let told = c.store.ensures.2 in let me = c.args.seat.now.me in
    let found = c.from_slot.ensures.whole told.item (read_as me.0.plan me.0.items told.item c.args.slot.now me.0.part told.lawful told.spelt c.requires.whole) in
    c.in_default.not-Ok told.item found

pub returns-clause-lawful : goal.returns-clause-lawful
returns-clause-lawful c = let told = c.store.ensures.2 in let me = c.args.seat.now.me in
    let found = c.from_slot.ensures.whole told.item (read_as me.0.plan me.0.items told.item c.args.slot.now me.0.part told.lawful told.spelt c.requires.whole) in
    subst (λ (item : Item). MaySend me.0.plan me.0.items item) (one_ok told.item c.in-Ok.item (sym found ∙ c.in-Ok.is)) told.lawful

pub returns-clause-received : goal.returns-clause-received
returns-clause-received c = let told = c.store.ensures.2 in let me = c.args.seat.now.me in
    let found = c.from_slot.ensures.whole told.item (read_as me.0.plan me.0.items told.item c.args.slot.now me.0.part told.lawful told.spelt c.requires.whole) in
    told.received ∙ ap (λ (item : Item). (with_item me.0 item, me.1)) (one_ok told.item c.in-Ok.item (sym found ∙ c.in-Ok.is))
