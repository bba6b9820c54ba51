-- The sweeps so far go on with the round.
use Rattle.std.proofs.Common.{◌≡◌, true, All}
use Rattle.sb_drive.specs.SideBySide.{GoesOn}
use Rattle.sb_drive.proofs.sweep.go_on.Given as goal

abbrev pub invariant-loop : goal.invariant-loop
invariant-loop g l =
    All g.N.Node.whole l.group.nodes.items
    × GoesOn g.N.Node.reaches g.N.Node.rests g.N.Node.turns l.number l.fn.group l.group
    × (l.moved ≡ true → l.group.moved ≡ true)
