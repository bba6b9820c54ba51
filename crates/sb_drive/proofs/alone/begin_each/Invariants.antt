-- The groups at the first places have come on, and the others are as they were.
use Rattle.sb_drive.specs.SideBySide.{IsGroupRound, IsWholeGroup}
use Rattle.sb_drive.proofs.Groupwise.{HaveCome}
use Rattle.sb_drive.proofs.alone.begin_each.Given as goal

abbrev pub invariant-loop-place : goal.invariant-loop-place
invariant-loop-place g l =
    HaveCome (IsWholeGroup g.N.Node.whole) (IsGroupRound g.N.Node.reaches g.N.Node.rests g.N.Node.turns l.number) l.place l.initial.groups l.groups
