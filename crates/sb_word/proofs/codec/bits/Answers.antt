-- A mask of `count` ones leaves the remainder by 2 ^ count.
use Rattle.std.proofs.Common.{◌<◌, arith}
use Rattle.std.proofs.lemmas.Nat.{and_mask, one_shl}
use Rattle.sb_word.proofs.codec.bits.Goals as goal

pub returns : goal.returns
returns c =
    let below : c.args.count < 32 = omega arith in
    rw (one_shl c.args.count 32 below) (and_mask _ _)
