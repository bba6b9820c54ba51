-- Lines spell one list of entries.
use Rattle.sb_check.proofs.OneJournal.{journal_once}
use Rattle.sb_check.proofs.laws.reports_spell_one_journal.Goals as goal

pub returns : goal.returns
returns c = λ bundle report journal other s t. journal_once c.words_are_exact.ensures.word bundle report journal other s t
