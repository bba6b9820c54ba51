-- All is there and nothing is left, or not.
use Rattle.std.proofs.Common.{arith}
use Rattle.std.proofs.lemmas.Bool.Decides.{nat_tests}
use Rattle.sb_check.proofs.CompareLemmas.{differ_whole, failed_so, not_done, too_many}
use Rattle.sb_check.proofs.closing_text.take_all.Goals as goal

pub returns-in_err-take_closing : goal.returns-in_err-take_closing
returns-in_err-take_closing g c = record {
  same = λ told tells. not_done c.from_residual.result _ c.from_residual.ensures.0;
  differ = λ told tells. failed_so c.from_residual.result _ (differ_whole _ _ _ (c.in_err-take_closing.ensures.compared told tells).differs);
}

pub returns-then-not-is_empty : goal.returns-then-not-is_empty
returns-then-not-is_empty g c = record {
  same = λ told tells. tt;
  differ = λ told tells. too_many _ _ _ (c.in_ok-take_closing.ensures.compared told tells).there (let some = c.if-not-is_empty.true in let e = c.is_empty.ensures in grind (arith, nat_tests));
}
