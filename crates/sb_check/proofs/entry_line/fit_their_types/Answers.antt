-- Each byte fits its type.
use Rattle.sb_check.proofs.EntryLemmas.{All-bytes}
use Rattle.sb_check.proofs.entry_line.fit_their_types.Goals as goal

pub returns-clause-bytes : goal.returns-clause-bytes
returns-clause-bytes c = All-bytes c.args.body.now (λ k. (c.type_inv.body k).fits)
