-- The next group comes on.
use Rattle.sb_drive.specs.SideBySide.{GoesOn, IsWholeGroup}
use Rattle.sb_drive.proofs.Groupwise.{one_more}
use Rattle.sb_drive.proofs.alone.go_on_each.Goals as goal

pub loop-place-preserved : goal.loop-place-preserved
loop-place-preserved g c =
    one_more (IsWholeGroup g.N.Node.whole) (GoesOn g.N.Node.reaches g.N.Node.rests g.N.Node.turns c.args.number) c.loop-place.place
    c.args.groups.now c.loop-place.groups c.index-groups-place.result c.go_on-moved.new.group
    c.loop-place.invariant c.loop-place-test.true c.go_on-moved.ensures.whole c.go_on-moved.ensures.round
