-- The parts of a message that a ring can carry.
use Rattle.std.proofs.Common.{rules, arith}
use Rattle.sb_link_tests.proofs.carries.carries.Goals as goal

pub returns : goal.returns
returns c = record {
  carriable = λ plain. record {
    planned = record { direction = grind arith; allowed = search rules };
    narrow = omega (arith, c.if-span-from.false);
    single = λ ex. let no_way : ⊥ = cc in absurd no_way;
  };
}
