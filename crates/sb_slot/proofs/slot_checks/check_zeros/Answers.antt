-- The first byte that isn't 0, and where there is none.
use Rattle.std.proofs.Common.{sym}
use Rattle.sb_slot.proofs.ZeroBytes.{padding_fault-Some, padding_fault-zeros, zeros_from-None}
use Rattle.sb_slot.proofs.slot_checks.check_zeros.Goals as goal

pub returns-in-Some-clause-fault : goal.returns-in-Some-clause-fault
returns-in-Some-clause-fault c = padding_fault-Some c.args.place c.in-Some.at c.args.bytes.now (sym c.in-Some.ensures.at)

pub returns-in-None-clause-zeros : goal.returns-in-None-clause-zeros
returns-in-None-clause-zeros c = zeros_from-None 0 c.args.bytes.now (sym c.in-None.ensures.at)

pub returns-in-None-clause-fault : goal.returns-in-None-clause-fault
returns-in-None-clause-fault c = sym (padding_fault-zeros c.args.place c.args.bytes.now _ (zeros_from-None 0 c.args.bytes.now (sym c.in-None.ensures.at)))
