-- The next group comes on.
use Rattle.sb_drive.specs.SideBySide.{IsGroupRound, IsWholeGroup}
use Rattle.sb_drive.proofs.Groupwise.{one_more}
use Rattle.sb_drive.proofs.alone.begin_each.Goals as goal

pub loop-place-preserved : goal.loop-place-preserved
loop-place-preserved g c =
    one_more (IsWholeGroup g.N.Node.whole) (IsGroupRound g.N.Node.reaches g.N.Node.rests g.N.Node.turns c.args.number) c.loop-place.place
    c.args.groups.now c.loop-place.groups c.index-groups-place.result c.begin-moved.new.group
    c.loop-place.invariant c.loop-place-test.true c.begin-moved.ensures.whole c.begin-moved.ensures.round
