-- All nodes stay whole.
use Rattle.std.specs.Prelude.{All}
use Rattle.sb_drive.specs.SideBySide.{IsWholeGroup}
use Rattle.sb_drive.proofs.side_tests.rounds_to_rest.Given as goal

abbrev pub invariant-loop-number : goal.invariant-loop-number
invariant-loop-number g l = All (IsWholeGroup g.N.Node.whole) l.groups
