-- The turns so far are a row.
use Rattle.sb_drive.specs.Rounds.{HasTurnedInARow}
use Rattle.sb_drive.proofs.sweep.turn_in_a_row.Given as goal

abbrev pub invariant-loop : goal.invariant-loop
invariant-loop g l =
    g.N.Node.whole l.node × HasTurnedInARow g.N.Node.reaches g.N.Node.rests g.N.Node.turns l.number l.fn.node l.last l.node l.moved
