-- The turns so far.
use Rattle.std.specs.Prelude.{All}
use Rattle.sb_drive.specs.SomeTurns.{HaveTakenTurns}
use Rattle.sb_drive.proofs.in_order.turn_some.Given as goal

abbrev pub invariant-loop-turned : goal.invariant-loop-turned
invariant-loop-turned g l =
    All g.N.Node.whole l.nodes.items
    × HaveTakenTurns g.N.Node.reaches g.N.Node.rests g.N.Node.turns l.number l.initial.nodes.items l.nodes.items l.moved
