-- A packet's slot is the list of its numbers.
use Rattle.std.proofs.Common.{◌∙◌, ap, rules}
use Rattle.sb_slot.proofs.SlotLaws.{slot_of-IsPacketSlot}
use Rattle.sb_slot.specs.Slots.{body_number}
use Rattle.sb_slot.proofs.slot.packet_from.Goals as goal

pub returns-clause-numbers : goal.returns-clause-numbers
returns-clause-numbers c =
    let body = c.body_from-body in
    slot_of-IsPacketSlot c.args.slot.now c.packet.result (search rules)
    (ap (body_number 0) c.packet.ensures.body ∙ body.ensures.first)
    (ap (body_number 8) c.packet.ensures.body ∙ body.ensures.second)
    (ap (body_number 16) c.packet.ensures.body ∙ body.ensures.third)
    (ap (body_number 24) c.packet.ensures.body ∙ body.ensures.fourth)
