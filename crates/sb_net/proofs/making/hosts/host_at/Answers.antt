-- The host stands at its one link.
use Rattle.std.proofs.Common.{arith}
use Rattle.sb_flow.specs.NetworkOf.{network_of}
use Rattle.sb_flow.proofs.Bundles.{accepted}
use Rattle.sb_net.proofs.HostsMade.{host_leg, host_links, host_made, host_own, some_thing}
use Rattle.sb_net.proofs.NodeLinks.{host_link}
use Rattle.sb_net.proofs.making.hosts.host_at.Goals as goal

pub unreachable-requires : goal.unreachable-requires
unreachable-requires g c =
    let b = c.args.bundle.now in
    let network = network_of b in
    let some = some_thing (λ leg. leg.link) c.args.outs.items (host_link network (accepted b) c.args.number c.requires.number).0 (host_links g.F.Tx.TxEnd g.F.Rx.RxEnd network (accepted b) c.args.number c.requires.number c.args.outs.items c.requires.legs) in
    let long = c.args.outs.ok.0 in
    let never = c.in_default.ensures.variant.1 (omega (arith, some, long)) in cc

pub new-requires-clause-unsent : goal.new-requires-clause-unsent
new-requires-clause-unsent g c κs within =
    let b = c.args.bundle.now in
    (host_leg g.F.Tx.TxEnd g.F.Rx.RxEnd (network_of b) (accepted b) c.args.number c.requires.number c.args.outs.items c.requires.legs c.pop.new.self.items c.in-Some.leg c.in-Some.ensures.items).unasked

pub new-requires-clause-unreceived : goal.new-requires-clause-unreceived
new-requires-clause-unreceived g c κs within =
    let b = c.args.bundle.now in
    (host_leg g.F.Tx.TxEnd g.F.Rx.RxEnd (network_of b) (accepted b) c.args.number c.requires.number c.args.outs.items c.requires.legs c.pop.new.self.items c.in-Some.leg c.in-Some.ensures.items).unlearnt

pub new-requires-clause-own : goal.new-requires-clause-own
new-requires-clause-own g c κs within =
    let b = c.args.bundle.now in
    host_own g.F.Tx.TxEnd g.F.Rx.RxEnd (network_of b) (accepted b) c.args.number c.requires.number c.args.outs.items c.requires.legs c.pop.new.self.items c.in-Some.leg c.in-Some.ensures.items

pub new-requires-clause-planned : goal.new-requires-clause-planned
new-requires-clause-planned g c κs within =
    let b = c.args.bundle.now in
    (host_leg g.F.Tx.TxEnd g.F.Rx.RxEnd (network_of b) (accepted b) c.args.number c.requires.number c.args.outs.items c.requires.legs c.pop.new.self.items c.in-Some.leg c.in-Some.ensures.items).asks

pub returns : goal.returns
returns g c =
    let b = c.args.bundle.now in
    let e = c.in_ok-host.ensures in
    record {
      made = host_made g.F.Tx.TxEnd g.F.Rx.RxEnd (network_of b) (accepted b) c.args.number c.requires.number c.args.outs.items c.requires.legs c.pop.new.self.items c.in-Some.leg c.in-Some.ensures.items
          c.in_ok-host.host e.whole e.asked e.requests e.answers;
    }
