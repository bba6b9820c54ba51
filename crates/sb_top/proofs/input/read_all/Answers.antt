-- Where the input is too long, one byte more than the limit was taken, and the bytes behind these are left.
use Rattle.std.proofs.Common.{◌≡◌, ◌^◌, ◌+◌, length, arith}
use Rattle.std.proofs.lemmas.Grind.{common_steps}
use Rattle.sb_top.proofs.InputLemmas.{left_behind}
use Rattle.sb_top.proofs.input.read_all.Goals as goal

pub returns-clause-taken : goal.returns-clause-taken
returns-clause-taken g c = λ _.
    let long : length c.loop-buf.bytes.items ≡ 2 ^ 26 + 1 = grind (arith, common_steps) in
    left_behind _ _ _ _ long c.loop-buf.invariant.told
