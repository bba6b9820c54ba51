-- The device stands at its one link.
use Rattle.std.proofs.Common.{subst, arith, sym}
use Rattle.sb_packet.specs.Memories.{MemoryState}
use Rattle.sb_device.specs.Plans.{IsPlannedFor}
use Rattle.sb_device.specs.Served.{HasServed}
use Rattle.sb_flow.specs.NetworkOf.{network_of}
use Rattle.sb_flow.proofs.Bundles.{accepted}
use Rattle.sb_net.proofs.DevicesMade.{device_leg, device_made, device_planned, device_some}
use Rattle.sb_net.proofs.making.devices.device_at.Goals as goal

pub unreachable-requires : goal.unreachable-requires
unreachable-requires g c =
    let b = c.args.bundle.now in
    let some = device_some g.F.Tx.TxEnd g.F.Rx.RxEnd (network_of b) (accepted b) c.args.number c.requires.number c.args.ins.items c.requires.legs in
    let long = c.args.ins.ok.0 in
    let never = c.in_default.ensures.variant.1 (omega (arith, some, long)) in cc

pub new-requires-clause-unreceived : goal.new-requires-clause-unreceived
new-requires-clause-unreceived g c κs within =
    let b = c.args.bundle.now in
    (device_leg g.F.Tx.TxEnd g.F.Rx.RxEnd (network_of b) (accepted b) c.args.number c.requires.number c.args.ins.items c.requires.legs c.pop.new.self.items c.in-Some.leg c.in-Some.ensures.items).unheard

pub new-requires-clause-unsent : goal.new-requires-clause-unsent
new-requires-clause-unsent g c κs within =
    let b = c.args.bundle.now in
    (device_leg g.F.Tx.TxEnd g.F.Rx.RxEnd (network_of b) (accepted b) c.args.number c.requires.number c.args.ins.items c.requires.legs c.pop.new.self.items c.in-Some.leg c.in-Some.ensures.items).untold

pub new-requires-clause-planned : goal.new-requires-clause-planned
new-requires-clause-planned g c κs within =
    let b = c.args.bundle.now in
    subst (λ (m : MemoryState). IsPlannedFor c.args.number m (g.F.Rx.RxEnd.planned c.in-Some.leg.requests) (g.F.Tx.TxEnd.planned c.in-Some.leg.answers)) (sym c.in_ok-memory.ensures.memory)
    (device_planned g.F.Tx.TxEnd g.F.Rx.RxEnd (network_of b) (accepted b) c.args.number c.requires.number c.args.ins.items c.requires.legs c.pop.new.self.items c.in-Some.leg c.in-Some.ensures.items)

pub returns : goal.returns
returns g c =
    let b = c.args.bundle.now in
    let e = c.in_ok-device.ensures in
    record {
      made = device_made g.F.Tx.TxEnd g.F.Rx.RxEnd (network_of b) (accepted b) c.args.number c.requires.number c.args.ins.items c.requires.legs c.pop.new.self.items c.in-Some.leg c.in-Some.ensures.items
          c.in_ok-device.device e.whole (subst (λ m. HasServed m c.in_ok-device.device) c.in_ok-memory.ensures.memory e.serves) e.number e.journal e.requests e.answers;
    }
