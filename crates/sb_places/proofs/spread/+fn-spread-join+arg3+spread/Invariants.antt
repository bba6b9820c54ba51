use Rattle.sb_places.proofs.spread.+fn-spread-join+arg3+spread.Given as goal

abbrev pub decreases-join+arg3 : goal.decreases-join+arg3
decreases-join+arg3 g l = l.rest

abbrev pub decreases-spread : goal.decreases-spread
decreases-spread g l = l.threads
