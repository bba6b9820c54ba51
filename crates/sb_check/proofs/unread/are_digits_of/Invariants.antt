-- The digits so far are those of the bytes.
use Rattle.std.proofs.Common.{ℕ, ◌<◌}
use Rattle.sb_check.specs.Comparing.{HasDigits}
use Rattle.sb_check.proofs.unread.are_digits_of.Given as goal

abbrev pub invariant-loop-index : goal.invariant-loop-index
invariant-loop-index l = (k : ℕ) → k < l.index → HasDigits l.digits l.bytes k
