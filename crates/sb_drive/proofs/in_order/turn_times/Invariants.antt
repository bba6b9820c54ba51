-- The turns so far.
use Rattle.sb_drive.specs.SomeTurns.{HasTakenTurns}
use Rattle.sb_drive.proofs.in_order.turn_times.Given as goal

abbrev pub invariant-loop : goal.invariant-loop
invariant-loop g l =
    g.N.Node.whole l.node × HasTakenTurns g.N.Node.reaches g.N.Node.rests g.N.Node.turns l.number l.fn.node l.node l.moved
