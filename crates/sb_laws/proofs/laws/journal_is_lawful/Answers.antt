-- Each entry is placed at any moment, and the journal of a whole run is lawful.
use Rattle.sb_laws.proofs.Entries.{placed_entries, lawful_journal}
use Rattle.sb_laws.proofs.laws.journal_is_lawful.Goals as goal

pub returns-clause-placed : goal.returns-clause-placed
returns-clause-placed c = λ network layout journal m laid now entries. placed_entries network layout journal m laid now entries

pub returns-clause-lawful : goal.returns-clause-lawful
returns-clause-lawful c = λ network layout journal m laid now entries ended. lawful_journal network layout journal m laid now entries ended
