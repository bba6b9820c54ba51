-- In the end all links have their legs.
use Rattle.std.proofs.Common.{◌≡◌, length, subst, arith}
use Rattle.sb_flow.specs.NetworkOf.{network_of}
use Rattle.sb_flow.proofs.Bundles.{link_count}
use Rattle.sb_net.specs.Legs.{AreDealt, piles_of}
use Rattle.sb_net.proofs.making.dealing.deal_links.Goals as goal

pub returns-clause-dealt : goal.returns-clause-dealt
returns-clause-dealt g c =
    let network = network_of c.args.bundle.now in
    let rows = c.args.bundle.now.links in
    let n : c.loop-link.link ≡ length network.links = omega (arith, c.loop-link-test.false, c.loop-link.auto.link-end, c.len-link-end.ensures, link_count c.args.bundle.now) in
    subst (λ k. AreDealt g.F.Tx.TxEnd g.F.Rx.RxEnd network k (piles_of c.loop-link.dealt.outs.items) (piles_of c.loop-link.dealt.ins.items)) n c.loop-link.invariant.dealt
