-- The nodes that are left stand in the groups, and the others are taken apart.
use Rattle.std.proofs.Common.{◌≡◌, ◌+◌}
use Rattle.sb_member.specs.Groups.{IsDealt, dealt_nodes, grouped_nodes, node_total}
use Rattle.sb_net.proofs.TakenNodes.{AreTakenSoFar}
use Rattle.sb_net.proofs.settling.last_nodes.take_apart.Given as goal

abbrev pub invariant-loop-taken : goal.invariant-loop-taken
invariant-loop-taken g l = record {
  dealt : IsDealt (grouped_nodes l.groups);
  total : node_total (grouped_nodes l.groups) + l.taken ≡ l.count;
  so_far : AreTakenSoFar g.F.Rx.RxEnd (dealt_nodes (grouped_nodes l.initial.groups)) (dealt_nodes (grouped_nodes l.groups)) l.initial.apart l.apart;
}
