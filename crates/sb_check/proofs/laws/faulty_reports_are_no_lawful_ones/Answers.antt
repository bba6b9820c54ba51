-- Each fault is excluded by the journal that a lawful report spells.
use Rattle.sb_check.proofs.LawfulReports.{fault_not_lawful}
use Rattle.sb_check.proofs.laws.faulty_reports_are_no_lawful_ones.Goals as goal

pub returns : goal.returns
returns c = λ report reason k short fault l. fault_not_lawful c.words_are_exact.ensures.word c.args.bundle.now c.names_are_names.ensures report reason k short fault l
