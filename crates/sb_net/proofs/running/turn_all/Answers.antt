-- The nodes of the one group are all nodes.
use Rattle.std.proofs.Common.{set, sym, subst}
use Rattle.std.specs.Prelude.{All, slice_index_or}
use Rattle.sb_member.specs.Groups.{dealt_nodes, grouped_nodes}
use Rattle.sb_member.specs.Members.{IsWholeMember}
use Rattle.sb_member.proofs.Dealt.{sole_group, sole_set}
use Rattle.sb_net.specs.Running.{HasGone}
use Rattle.sb_net.proofs.running.turn_all.Goals as goal

pub round_in_order-requires-clause-whole : goal.round_in_order-requires-clause-whole
round_in_order-requires-clause-whole g c = subst (All IsWholeMember) (sole_group c.args.groups.now c.index-groups-0.result c.requires.one) c.requires.whole

pub returns-clause-whole : goal.returns-clause-whole
returns-clause-whole g c = subst (All IsWholeMember) (sym (sole_set c.args.groups.now c.round_in_order.new.group c.requires.one)) c.round_in_order.ensures.whole

pub returns-clause-gone : goal.returns-clause-gone
returns-clause-gone g c =
    let r = c.round_in_order in
    subst (λ nodes. HasGone c.args.number nodes (dealt_nodes (grouped_nodes (set c.args.groups.now 0 r.new.group))) r.result) (sym (sole_group c.args.groups.now c.index-groups-0.result c.requires.one))
    (subst (λ nodes. HasGone c.args.number (slice_index_or c.args.groups.now 0 c.index-groups-0.result).nodes.items nodes r.result) (sym (sole_set c.args.groups.now r.new.group c.requires.one))
    (record { turns = r.ensures.turns; none_moved = λ still. (r.new.group.last.items, r.ensures.none_moved still) }))
