-- The ends of each ring lie at its number, and are given back.
use Rattle.std.proofs.Common.{◌≡◌, ◌<◌, length, sym, ap, ◌∙◌, arith}
use Rattle.sb_laws.specs.NetworkLayouts.{ring_count}
use Rattle.sb_node.specs.Sides.{received_words}
use Rattle.sb_member.specs.Groups.{dealt_nodes, grouped_nodes}
use Rattle.sb_net.proofs.RingsBack.{end_of, ends_at, ends_count, made_at, ports_count}
use Rattle.sb_net.proofs.settling.settle_nodes.Goals as goal

pub give_back-requires-clause-count : goal.give_back-requires-clause-count
give_back-requires-clause-count g c κs within =
    let nodes = dealt_nodes (grouped_nodes c.args.groups.now) in
    let taken = c.take_apart-ports.ensures.taken in
    let result = c.take_apart-ports.result in
    let room = c.args.room in
    let joints = c.args.joints.now in
    ends_count g.F.Rx.RxEnd c.requires.stands.0 joints nodes c.requires.stands.1 room.ports.items result.ports.items room.ends.items result.ends.items taken.ports taken.ends c.requires.ports c.requires.ends ∙ sym (ports_count g.F.Rx.RxEnd c.requires.stands.0 joints nodes c.requires.stands.1 room.ports.items result.ports.items room.ends.items result.ends.items taken.ports taken.ends c.requires.ports c.requires.ends)

pub give_back-requires-clause-ends : goal.give_back-requires-clause-ends
give_back-requires-clause-ends g c κs within =
    let nodes = dealt_nodes (grouped_nodes c.args.groups.now) in
    let taken = c.take_apart-ports.ensures.taken in
    let result = c.take_apart-ports.result in
    let room = c.args.room in
    let joints = c.args.joints.now in
    ends_at g.F.Rx.RxEnd c.requires.stands.0 joints nodes c.requires.stands.1 room.ports.items result.ports.items room.ends.items result.ends.items taken.ports taken.ends c.requires.ports c.requires.ends

pub give_back-requires-clause-made : goal.give_back-requires-clause-made
give_back-requires-clause-made g c κs within =
    let nodes = dealt_nodes (grouped_nodes c.args.groups.now) in
    let taken = c.take_apart-ports.ensures.taken in
    let result = c.take_apart-ports.result in
    let room = c.args.room in
    let joints = c.args.joints.now in
    made_at g.F.Rx.RxEnd c.requires.stands.0 joints nodes c.requires.stands.1 room.ports.items result.ports.items room.ends.items result.ends.items taken.ports taken.ends c.requires.ports c.requires.ends
    (g.F.Fabric.made c.args.fabric.now) (ring_count c.requires.stands.0) c.requires.stands.2 c.requires.stands.1.rings

pub give_back-requires-clause-unsettled : goal.give_back-requires-clause-unsettled
give_back-requires-clause-unsettled g c κs within = λ r below.
    let nodes = dealt_nodes (grouped_nodes c.args.groups.now) in
    let taken = c.take_apart-ports.ensures.taken in
    let result = c.take_apart-ports.result in
    let room = c.args.room in
    let joints = c.args.joints.now in
    let long = ports_count g.F.Rx.RxEnd c.requires.stands.0 joints nodes c.requires.stands.1 room.ports.items result.ports.items room.ends.items result.ends.items taken.ports taken.ends c.requires.ports c.requires.ends in
    let rings = c.requires.stands.1.rings in
    c.requires.stands.3 r (omega (arith, below, long, rings))

pub returns-clause-carried : goal.returns-clause-carried
returns-clause-carried g c = λ network s r lt.
    let nodes = dealt_nodes (grouped_nodes c.args.groups.now) in
    let taken = c.take_apart-ports.ensures.taken in
    let result = c.take_apart-ports.result in
    let room = c.args.room in
    let joints = c.args.joints.now in
    let long = ports_count g.F.Rx.RxEnd network joints nodes s room.ports.items result.ports.items room.ends.items result.ends.items taken.ports taken.ends c.requires.ports c.requires.ends in
    let rings = s.rings in
    let at = end_of g.F.Rx.RxEnd network joints nodes s room.ports.items result.ports.items room.ends.items result.ends.items taken.ports taken.ends c.requires.ports c.requires.ends r (omega (arith, lt, rings)) in
    c.give_back.ensures.carried r at.end (omega (arith, lt, long, rings)) at.there ∙ ap received_words at.is
