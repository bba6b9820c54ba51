-- A number below 2 ^ (8 * bytes) has no more bytes than that.
use Rattle.std.proofs.Common.{rules}
use Rattle.sb_slot.proofs.ZeroBytes.{quotient_from_zeros, zeros_above, zeros_past}
use Rattle.sb_slot.proofs.slot_body.rest_of.Goals as goal

pub returns-then-bytes-lt8-clause-zeros : goal.returns-then-bytes-lt8-clause-zeros
returns-then-bytes-lt8-clause-zeros c = zeros_above c.args.bytes c.args.number

pub returns-then-bytes-lt8-clause-only : goal.returns-then-bytes-lt8-clause-only
returns-then-bytes-lt8-clause-only c = quotient_from_zeros c.args.bytes c.args.number (search rules) c.if-bytes-lt8.true

pub returns-else-bytes-lt8-clause-zeros : goal.returns-else-bytes-lt8-clause-zeros
returns-else-bytes-lt8-clause-zeros c = λ none. zeros_past c.args.bytes c.args.number c.if-bytes-lt8.false
