-- The words are there and nothing stands behind them, or not.
use Rattle.sb_check.proofs.EntryLemmas.{begins_itself, is_whole, isnt_whole}
use Rattle.sb_check.proofs.heading.has_count.Goals as goal

pub returns-in-Ok-clause-yes : goal.returns-in-Ok-clause-yes
returns-in-Ok-clause-yes c = rw (← c.from.ensures) (is_whole c.is_empty.result _ _ _ c.is_empty.ensures c.in-Ok.ensures.matched.matched)

pub returns-in-Ok-clause-no : goal.returns-in-Ok-clause-no
returns-in-Ok-clause-no c = rw (← c.from.ensures) (isnt_whole c.is_empty.result _ _ _ c.is_empty.ensures c.in-Ok.ensures.matched.matched)

pub returns-in-Err-clause-no : goal.returns-in-Err-clause-no
returns-in-Err-clause-no c = rw (← c.from.ensures) (λ same. c.in-Err.ensures.matched.differs (begins_itself _ _ same))
