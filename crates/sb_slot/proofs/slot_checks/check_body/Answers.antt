-- Where all bytes behind are 0, nothing is wrong.
use Rattle.std.proofs.Common.{◌+◌, ◌-◌, ◌≡◌, drop, replicate, sym, refl}
use Rattle.sb_slot.proofs.ZeroBytes.{padding_fault-zeros}
use Rattle.sb_slot.specs.Slots.{body_in}
use Rattle.sb_slot.proofs.slot_checks.check_body.Goals as goal

pub returns-then-is_padded-clause-fault : goal.returns-then-is_padded-clause-fault
returns-then-is_padded-clause-fault c =
    let zeros : drop c.args.carried (body_in c.args.slot.now) ≡ replicate (32 - c.args.carried) 0 = c.if-is_padded.ensures.zeros refl in
    sym (padding_fault-zeros (24 + c.args.carried) (drop c.args.carried c.args.body.now) (32 - c.args.carried) (rw c.requires.body zeros))
