-- What is a round of each group is a round of all nodes, by their numbers.
use Rattle.sb_member.specs.Members.{IsWholeMember}
use Rattle.sb_net.proofs.NumberedNodes.{whole_groups, whole_nodes}
use Rattle.sb_net.proofs.RoundsDealt.{answers, dealt_then, round_of_all}
use Rattle.sb_net.proofs.WholeRounds.{gone_all}
use Rattle.sb_net.proofs.side_by_side.turn_groups.Goals as goal

pub round-requires-clause-whole : goal.round-requires-clause-whole
round-requires-clause-whole g c κs within = whole_groups c.args.groups.now c.requires.dealt IsWholeMember c.requires.whole

pub returns-clause-dealt : goal.returns-clause-dealt
returns-clause-dealt g c = dealt_then _ _ _ c.args.number c.args.groups.now c.round.new.groups c.round.auto.groups c.requires.dealt c.round.ensures.rounds

pub returns-clause-whole : goal.returns-clause-whole
returns-clause-whole g c =
    let dealt = dealt_then _ _ _ c.args.number c.args.groups.now c.round.new.groups c.round.auto.groups c.requires.dealt c.round.ensures.rounds in
    whole_nodes c.round.new.groups dealt IsWholeMember c.round.ensures.whole

pub returns-clause-gone : goal.returns-clause-gone
returns-clause-gone g c = gone_all _ _
    (answers _ _ _ c.args.number c.args.groups.now c.round.new.groups c.round.auto.groups c.requires.dealt c.round.ensures.rounds)
    (round_of_all _ _ _ c.args.number c.args.groups.now c.round.new.groups c.round.auto.groups c.requires.dealt c.round.ensures.rounds c.round.result c.round.ensures.answer c.round.ensures.some_moved)
