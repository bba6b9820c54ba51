-- One node after another is taken apart, and in the end none is left.
use Rattle.std.proofs.Common.{◌≡◌, ◌<◌, ◌+◌, length, sym, arith, ◌∙◌}
use Rattle.sb_member.specs.Groups.{dealt_nodes, grouped_nodes}
use Rattle.sb_member.proofs.Dealt.{total_of}
use Rattle.sb_net.proofs.TakenNodes.{all_taken, none_taken, one_more_taken, room_for_next}
use Rattle.sb_net.proofs.settling.last_nodes.take_apart.Goals as goal

pub loop-taken-init : goal.loop-taken-init
loop-taken-init g c = let count = c.requires.count in record {
  dealt = c.requires.dealt;
  total = omega (arith, count);
  so_far = none_taken g.F.Rx.RxEnd (dealt_nodes (grouped_nodes c.args.groups.now)) c.args.apart c.requires.room.no_hosts c.requires.room.no_devices;
}

pub take_node-requires-clause-room : goal.take_node-requires-clause-room
take_node-requires-clause-room g c κs within =
    room_for_next g.F.Rx.RxEnd (dealt_nodes (grouped_nodes c.args.groups.now)) (dealt_nodes (grouped_nodes c.loop-taken.groups)) (dealt_nodes (grouped_nodes c.pop_last.new.groups)) c.in-Some.node
    c.args.apart c.loop-taken.apart c.loop-taken.invariant.so_far c.in-Some.ensures.taken c.requires.room

pub loop-taken-preserved : goal.loop-taken-preserved
loop-taken-preserved g c = let left = c.pop_last.ensures.total in let lt = c.loop-taken-test.true in record {
  dealt = c.pop_last.ensures.dealt;
  total = omega (arith, left, lt);
  so_far = one_more_taken g.F.Rx.RxEnd (dealt_nodes (grouped_nodes c.args.groups.now)) (dealt_nodes (grouped_nodes c.loop-taken.groups)) (dealt_nodes (grouped_nodes c.pop_last.new.groups)) c.in-Some.node
      c.args.apart c.loop-taken.apart c.loop-taken.invariant.so_far c.in-Some.ensures.taken c.take_node.new.apart c.take_node.ensures.taken;
}

pub returns : goal.returns
returns g c =
    let i = c.loop-taken.invariant in
    let total = i.total in let out = c.loop-taken-test.false in let up = c.loop-taken.auto.taken-end in
    let none = total_of (grouped_nodes c.loop-taken.groups) in
    let all = all_taken g.F.Rx.RxEnd (dealt_nodes (grouped_nodes c.args.groups.now)) (dealt_nodes (grouped_nodes c.loop-taken.groups)) c.args.apart c.loop-taken.apart c.reverse.new.self.items c.reverse-2.new.self.items
    i.so_far (omega (arith, none, total, out, up)) c.reverse.ensures.items c.reverse-2.ensures.items in
    record { taken = record { hosts = all.0; memories = all.1; ports = all.2; ends = all.3 } }
