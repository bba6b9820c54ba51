-- The nodes so far are dealt, and the others are left.
use Rattle.std.proofs.Common.{◌≡◌, drop, take}
use Rattle.std.specs.Vec.Iter.{into_iter_items}
use Rattle.sb_member.proofs.Dealing.{HasDealt}
use Rattle.sb_net.proofs.groups.deal.Given as goal

abbrev pub invariant-loop-number : goal.invariant-loop-number
invariant-loop-number g l = record {
  rest : into_iter_items l.nodes ≡ drop l.number l.fn.nodes.items;
  dealt : HasDealt l.groups.items l.number l.count (take l.number l.fn.nodes.items);
}
