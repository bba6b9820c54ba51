-- With the sign bit turned over, the order of two words is that of two's complement.
use Rattle.sb_mem.proofs.TwosComplement.{signed_order}
use Rattle.sb_mem.proofs.atomic.is_signed_at_most.Goals as goal

pub returns : goal.returns
returns c = signed_order c.args.size c.args.a c.args.b c.sign_bit-sign.result c.requires.size c.sign_bit-sign.ensures c.requires.a c.requires.b
