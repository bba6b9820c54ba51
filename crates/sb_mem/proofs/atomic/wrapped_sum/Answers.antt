-- The wrapped sum, masked by a word's greatest number, is the sum's remainder by 256 to the word's bytes.
use Rattle.std.proofs.Common.{◌+◌}
use Rattle.sb_mem.proofs.TwosComplement.{wrapped}
use Rattle.sb_mem.proofs.atomic.wrapped_sum.Goals as goal

pub returns : goal.returns
returns c = wrapped c.args.size (c.args.a + c.args.b) c.greatest.result c.requires c.greatest.ensures
