-- The nodes so far are made at their legs, and the legs of the others are left.
use Rattle.std.proofs.Common.{◌≡◌, drop}
use Rattle.std.specs.Vec.Iter.{into_iter_items}
use Rattle.sb_flow.specs.NetworkOf.{network_of}
use Rattle.sb_net.specs.Legs.{AreMadeAt, piles_of}
use Rattle.sb_net.proofs.making.nodes.nodes_at.Given as goal

abbrev pub invariant-loop-number : goal.invariant-loop-number
invariant-loop-number g l = record {
  outs : into_iter_items l.outs ≡ drop l.number l.fn.dealt.outs.items;
  ins : into_iter_items l.ins ≡ drop l.number l.fn.dealt.ins.items;
  made : AreMadeAt g.F.Tx.TxEnd g.F.Rx.RxEnd (network_of l.bundle) l.number (piles_of l.fn.dealt.outs.items) (piles_of l.fn.dealt.ins.items) l.nodes.items;
}
