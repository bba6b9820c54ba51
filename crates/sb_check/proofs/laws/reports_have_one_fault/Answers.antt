-- A report spells one journal, and each fault of that excludes the others.
use Rattle.sb_check.proofs.OneFault.{fault_once}
use Rattle.sb_check.proofs.laws.reports_have_one_fault.Goals as goal

pub returns : goal.returns
returns c = λ bundle report reason other k line x y. fault_once c.words_are_exact.ensures.word bundle report reason other k line x y
