-- The passes so far are a round of each group.
use Rattle.std.proofs.Common.{◌≡◌, length, All}
use Rattle.sb_drive.specs.SideBySide.{EachGroupRound, IsWholeGroup}
use Rattle.sb_drive.proofs.alone.turn_alone.Given as goal

abbrev pub invariant-loop : goal.invariant-loop
invariant-loop g l =
    (length l.groups ≡ length l.fn.groups) × All (IsWholeGroup g.N.Node.whole) l.groups
    × EachGroupRound g.N.Node.reaches g.N.Node.rests g.N.Node.turns l.number l.fn.groups l.groups
