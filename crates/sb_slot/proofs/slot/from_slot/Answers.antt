-- Each answer is the item of the slot where it has one.
use Rattle.std.proofs.Common.{rules, Ok}
use Rattle.sb_slot.proofs.SlotLaws.{answer-IsSlotOf}
use Rattle.sb_packet.specs.declared.item.Item.TheVariants as items
use Rattle.sb_slot.proofs.slot.from_slot.Goals as goal

pub returns-in_err-packet_from-in-1-clause-whole : goal.returns-in_err-packet_from-in-1-clause-whole
returns-in_err-packet_from-in-1-clause-whole c = answer-IsSlotOf c.args.slot.now c.from_residual.result (search rules) (search rules)

pub returns-in_err-check_close-in-2-clause-whole : goal.returns-in_err-check_close-in-2-clause-whole
returns-in_err-check_close-in-2-clause-whole c = answer-IsSlotOf c.args.slot.now c.from_residual-in_err-check_close-in-2.result (search rules) (search rules)

pub returns-in_ok-packet_from-in-1-clause-whole : goal.returns-in_ok-packet_from-in-1-clause-whole
returns-in_ok-packet_from-in-1-clause-whole c = answer-IsSlotOf c.args.slot.now (Ok (items.Packet c.in_ok-packet_from-in-1.field-0)) (search rules) (search rules)
