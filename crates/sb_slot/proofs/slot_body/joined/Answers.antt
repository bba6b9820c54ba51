-- Four parts of 8 bytes, written one after another.
use Rattle.sb_slot.proofs.SlotLemmas.{parts_written}
use Rattle.sb_slot.proofs.slot_body.joined.Goals as goal

pub returns : goal.returns
returns c =
    rw (c.put-4.ensures, c.put-3.ensures, c.put-2.ensures, c.put.ensures)
    (parts_written c.args.first.now c.args.second.now c.args.third.now c.args.fourth.now c.told-first c.told-second c.told-third c.told-fourth)
