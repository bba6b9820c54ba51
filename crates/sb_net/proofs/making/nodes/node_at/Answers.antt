-- A number tells the kind of a node, and its place among those of its kind.
use Rattle.std.proofs.Common.{◌≡◌, ◌<◌, ◌-◌, [], length, sym, ◌∙◌, subst, arith}
use Rattle.std.specs.Prelude.{IfOk}
use Rattle.sb_flow.specs.NetworkOf.{network_of}
use Rattle.sb_flow.proofs.Bundles.{accepted, few_devices, host_count}
use Rattle.sb_net.specs.Legs.{AreLegsAt, IsMadeAt}
use Rattle.sb_net.specs.Standing.{device_number, router_number}
use Rattle.sb_net.proofs.HostsMade.{no_things}
use Rattle.sb_net.proofs.NodeLinks.{device_link, host_link}
use Rattle.sb_net.proofs.NodeNumbers.{few_routers, router_count}
use Rattle.sb_net.proofs.making.nodes.node_at.Goals as goal

pub host_at-requires-clause-legs : goal.host_at-requires-clause-legs
host_at-requires-clause-legs g c κs within =
    let b = c.args.bundle.now in
    let network = network_of b in
    let low : c.args.number < length network.hosts = omega (arith, c.if-number-hosts.true, c.len-hosts.ensures, host_count b) in
    let none = no_things (λ leg. leg.link) c.args.ins.items (c.requires.legs.ins_here ∙ (host_link network (accepted b) c.args.number low).1.none) in
    subst (λ xs. AreLegsAt g.F.Tx.TxEnd g.F.Rx.RxEnd network c.args.number c.args.outs.items xs) none c.requires.legs

pub returns-then-number-hosts : goal.returns-then-number-hosts
returns-then-number-hosts g c =
    let b = c.args.bundle.now in
    let network = network_of b in
    let low : c.args.number < length network.hosts = omega (arith, c.if-number-hosts.true, c.len-hosts.ensures, host_count b) in
    let none = no_things (λ leg. leg.link) c.args.ins.items (c.requires.legs.ins_here ∙ (host_link network (accepted b) c.args.number low).1.none) in
    record { made = subst (λ xs. IfOk c.host_at.result (λ node. IsMadeAt g.F.Tx.TxEnd g.F.Rx.RxEnd network c.args.number c.args.outs.items xs node)) (sym none) c.host_at.ensures.made }

pub overflow_cast-number-then-number-hosts-2 : goal.overflow_cast-number-then-number-hosts-2
overflow_cast-number-then-number-hosts-2 g c =
    let b = c.args.bundle.now in
    omega (arith, c.if-number-hosts.false, c.if-number-hosts-2.true, c.len-hosts.ensures, c.len-routers.ensures, router_count b, few_routers b)

pub router_at-requires-clause-legs : goal.router_at-requires-clause-legs
router_at-requires-clause-legs g c κs within =
    let b = c.args.bundle.now in
    let network = network_of b in
    let same : c.args.number ≡ router_number network (c.args.number - c.len-hosts.result) = omega (arith, c.if-number-hosts.false, c.len-hosts.ensures, host_count b) in
    subst (λ n. AreLegsAt g.F.Tx.TxEnd g.F.Rx.RxEnd network n c.args.outs.items c.args.ins.items) same c.requires.legs

pub returns-then-number-hosts-2 : goal.returns-then-number-hosts-2
returns-then-number-hosts-2 g c =
    let b = c.args.bundle.now in
    let network = network_of b in
    let same : c.args.number ≡ router_number network (c.args.number - c.len-hosts.result) = omega (arith, c.if-number-hosts.false, c.len-hosts.ensures, host_count b) in
    record { made = subst (λ n. IfOk c.router_at.result (λ node. IsMadeAt g.F.Tx.TxEnd g.F.Rx.RxEnd network n c.args.outs.items c.args.ins.items node)) (sym same) c.router_at.ensures.made }

pub overflow_cast-number-else-number-hosts-2 : goal.overflow_cast-number-else-number-hosts-2
overflow_cast-number-else-number-hosts-2 g c =
    let b = c.args.bundle.now in
    let low = c.requires.number in
    omega (arith, low, c.if-number-hosts.false, c.if-number-hosts-2.false, c.len-hosts.ensures, c.len-routers.ensures, host_count b, router_count b, few_devices b)

pub device_at-requires-clause-legs : goal.device_at-requires-clause-legs
device_at-requires-clause-legs g c κs within =
    let b = c.args.bundle.now in
    let network = network_of b in
    let number = c.args.number - c.len-hosts.result - c.len-routers.result in
    let same : c.args.number ≡ device_number network number = omega (arith, c.if-number-hosts.false, c.if-number-hosts-2.false, c.len-hosts.ensures, c.len-routers.ensures, host_count b, router_count b) in
    let low : number < length network.devices = let below = c.requires.number in omega (arith, below, same) in
    let legs = subst (λ n. AreLegsAt g.F.Tx.TxEnd g.F.Rx.RxEnd network n c.args.outs.items c.args.ins.items) same c.requires.legs in
    let none = no_things (λ leg. leg.link) c.args.outs.items (legs.outs_here ∙ (device_link network (accepted b) number low).none) in
    subst (λ xs. AreLegsAt g.F.Tx.TxEnd g.F.Rx.RxEnd network (device_number network number) xs c.args.ins.items) none legs

pub returns-else-number-hosts-2 : goal.returns-else-number-hosts-2
returns-else-number-hosts-2 g c =
    let b = c.args.bundle.now in
    let network = network_of b in
    let number = c.args.number - c.len-hosts.result - c.len-routers.result in
    let same : c.args.number ≡ device_number network number = omega (arith, c.if-number-hosts.false, c.if-number-hosts-2.false, c.len-hosts.ensures, c.len-routers.ensures, host_count b, router_count b) in
    let low : number < length network.devices = let below = c.requires.number in omega (arith, below, same) in
    let legs = subst (λ n. AreLegsAt g.F.Tx.TxEnd g.F.Rx.RxEnd network n c.args.outs.items c.args.ins.items) same c.requires.legs in
    let none = no_things (λ leg. leg.link) c.args.outs.items (legs.outs_here ∙ (device_link network (accepted b) number low).none) in
    record {
      made = subst (λ xs. IfOk c.device_at.result (λ node. IsMadeAt g.F.Tx.TxEnd g.F.Rx.RxEnd network c.args.number xs c.args.ins.items node)) (sym none)
          (subst (λ n. IfOk c.device_at.result (λ node. IsMadeAt g.F.Tx.TxEnd g.F.Rx.RxEnd network n [] c.args.ins.items node)) (sym same) c.device_at.ensures.made);
    }
