-- By whether a node of some group moved.
use Rattle.std.proofs.Common.{sym, ◌∙◌}
use Rattle.sb_drive.proofs.GroupsMoved.{some_moved, none_moved}
use Rattle.sb_drive.proofs.side_by_side.round.Goals as goal

pub returns-clause-some_moved : goal.returns-clause-some_moved
returns-clause-some_moved g c e = some_moved g.N.Node.reaches g.N.Node.rests g.N.Node.turns c.args.number
    c.args.groups.now c.turn_groups.new.groups c.turn_groups.auto.groups c.turn_groups.ensures.rounds (sym c.any_moved.ensures ∙ e)

pub returns-clause-none_moved : goal.returns-clause-none_moved
returns-clause-none_moved g c e = none_moved g.N.Node.reaches g.N.Node.rests g.N.Node.turns c.args.number
    c.args.groups.now c.turn_groups.new.groups c.turn_groups.auto.groups c.turn_groups.ensures.rounds (sym c.any_moved.ensures ∙ e)
