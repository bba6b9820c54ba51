-- Each turn adds the way to one device.
use Rattle.std.proofs.Common.{length, get_or, ap, sym, arith}
use Rattle.sb_flow.specs.Rows.{host_of}
use Rattle.sb_flow.specs.NetworkOf.{network_of}
use Rattle.sb_flow.specs.Tables.{flow_table_of}
use Rattle.sb_flow.specs.declared.host_plan.HostPlan.{HostPlan}
use Rattle.sb_flow.proofs.Maps.{read_there}
use Rattle.sb_flow.proofs.Bundles.{device_count}
use Rattle.sb_flow.proofs.Tabled.{host_table_from, table_push, table_end}
use Rattle.sb_flow.proofs.host_paths.host_paths.Goals as goal

pub loop-device-preserved : goal.loop-device-preserved
loop-device-preserved c = λ d. table_push (flow_table_of (network_of c.args.bundle.now) c.args.host (host_of (get_or c.args.bundle.now.hosts.items c.args.host d))) c.loop-device.flows.items _ c.loop-device.device c.in_ok-flow.flow c.in_ok-push.ensures.items (c.in_ok-flow.ensures d) (c.loop-device.invariant d)

pub returns : goal.returns
returns c = λ d.
    host_table_from (network_of c.args.bundle.now) c.args.host c.index.result.now.id (host_of (get_or c.args.bundle.now.hosts.items c.args.host d)) c.loop-device.flows.items
    (ap (λ (p : HostPlan). p.id) (sym (read_there c.args.bundle.now.hosts.items c.args.host c.index.result.now d c.requires (rw c.from.ensures at c.index.ensures))))
    (table_end (flow_table_of (network_of c.args.bundle.now) c.args.host (host_of (get_or c.args.bundle.now.hosts.items c.args.host d))) c.loop-device.flows.items c.loop-device.device (length (network_of c.args.bundle.now).devices)
    (omega (arith, device_count c.args.bundle.now, c.len-device-end.ensures, c.loop-device.auto.device-end)) (omega (arith, device_count c.args.bundle.now, c.len-device-end.ensures, c.loop-device-test.false)) (c.loop-device.invariant d))
