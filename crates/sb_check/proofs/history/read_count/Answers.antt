-- The next line announces entries, or it doesn't.
use Rattle.sb_check.proofs.ReadingLemmas.{counted, missing, nothing_read}
use Rattle.sb_check.proofs.history.read_count.Goals as goal

pub returns-in_err-line : goal.returns-in_err-line
returns-in_err-line c = missing c.from_residual.result _ _ c.from_residual.ensures (λ line n there a. nothing_read _ line c.in_err-line.ensures.line there)

pub returns : goal.returns
returns c = counted c.announced.result _ c.in_ok-line.line.now _ c.in_ok-line.ensures.line c.announced.ensures.announced c.announced.ensures.only
