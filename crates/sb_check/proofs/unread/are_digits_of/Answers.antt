-- All digits are those of their bytes, or those of one byte aren't.
use Rattle.std.proofs.Common.{List, ℕ, sym, subst, arith}
use Rattle.sb_check.specs.Comparing.{HasDigits}
use Rattle.sb_check.proofs.MatchLemmas.{encode_lower-at, encode_lower-by}
use Rattle.sb_check.proofs.unread.are_digits_of.Goals as goal

pub returns-then-not-has_digits-clause-no : goal.returns-then-not-has_digits-clause-no
returns-then-not-has_digits-clause-no c = λ same. c.if-not-has_digits.ensures.no (subst (λ (l : List ℕ). HasDigits l c.args.bytes.now c.loop-index.index) (sym same) (encode_lower-at c.args.bytes.now c.loop-index.index c.loop-index-test.true))

pub returns-clause-yes : goal.returns-clause-yes
returns-clause-yes c = encode_lower-by c.args.bytes.now c.args.digits.now c.requires (λ k below. c.loop-index.invariant k (omega arith))
