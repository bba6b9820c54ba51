-- The parts of a network stand for it.
use Rattle.sb_flow.specs.NetworkOf.{network_of}
use Rattle.sb_flow.proofs.Bundles.{accepted}
use Rattle.sb_net.specs.Legs.{piles_of}
use Rattle.sb_net.proofs.PartsStand.{all_met, none_served, stand_for}
use Rattle.sb_net.proofs.making.parts_of.Goals as goal

pub returns-clause-stands : goal.returns-clause-stands
returns-clause-stands g c =
    let b = c.args.bundle.now in
    let dealt = c.in_ok-dealt.dealt in
    stand_for g.F.Tx.TxEnd g.F.Rx.RxEnd (network_of b) (accepted b) (piles_of dealt.outs.items) (piles_of dealt.ins.items) c.in_ok-dealt.ensures.dealt c.in_ok-nodes.nodes.items c.in_ok-nodes.ensures.made
    c.in_ok-joints.joints.items c.in_ok-joints.ensures.joints

pub returns-clause-met : goal.returns-clause-met
returns-clause-met g c =
    let b = c.args.bundle.now in
    let dealt = c.in_ok-dealt.dealt in
    all_met g.F.Tx.TxEnd g.F.Rx.RxEnd (network_of b) (accepted b) (piles_of dealt.outs.items) (piles_of dealt.ins.items) c.in_ok-dealt.ensures.dealt c.in_ok-nodes.nodes.items c.in_ok-nodes.ensures.made
    c.in_ok-joints.joints.items c.in_ok-joints.ensures.joints

pub returns-clause-unserved : goal.returns-clause-unserved
returns-clause-unserved g c =
    let b = c.args.bundle.now in
    let dealt = c.in_ok-dealt.dealt in
    none_served g.F.Tx.TxEnd g.F.Rx.RxEnd (network_of b) (accepted b) (piles_of dealt.outs.items) (piles_of dealt.ins.items) c.in_ok-dealt.ensures.dealt c.in_ok-nodes.nodes.items c.in_ok-nodes.ensures.made
