-- The legs of the links so far lie at their nodes.
use Rattle.std.proofs.Common.{◌≡◌, ℕ, ◌*◌, ◌<◌, false, map}
use Rattle.std.specs.List.{range_with_len}
use Rattle.sb_flow.specs.NetworkOf.{network_of}
use Rattle.sb_net.specs.Legs.{AreDealt, first_plans, piles_of, request_joint}
use Rattle.sb_net.proofs.making.dealing.deal_links.Given as goal

abbrev pub invariant-loop-link : goal.invariant-loop-link
invariant-loop-link g l = let network = network_of l.bundle in record {
  made : g.F.Fabric.made l.fabric ≡ first_plans network (2 * l.link);
  unsettled : (ring : ℕ) → ring < 2 * l.link → g.F.Fabric.settled l.fabric ring ≡ false;
  carried : (ring : ℕ) → g.F.Fabric.carried l.fabric ring ≡ g.F.Fabric.carried l.initial.fabric ring;
  dealt : AreDealt g.F.Tx.TxEnd g.F.Rx.RxEnd network l.link (piles_of l.dealt.outs.items) (piles_of l.dealt.ins.items);
  seats : l.dealt.seats.items ≡ map (request_joint network) (range_with_len 0 l.link);
}
