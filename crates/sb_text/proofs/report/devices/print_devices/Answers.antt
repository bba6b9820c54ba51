-- One device more adds its lines; where the sink fails, a first part of all was written.
use Rattle.std.proofs.Common.{◌≤◌, ◌<◌, ap, sym, length, arith}
use Rattle.std.proofs.lemmas.List.{length-map}
use Rattle.sb_flow.specs.NetworkOf.{network_of}
use Rattle.sb_flow.specs.Rows.{device_of}
use Rattle.sb_text.proofs.ToldLemmas.{device_of_network, no_plan}
use Rattle.sb_text.specs.Reports.{device_part}
use Rattle.sb_text.proofs.IndexedLemmas.{lines_all, lines_failed, lines_more}
use Rattle.sb_text.proofs.report.devices.print_devices.Goals as goal

pub returns-in_err-print_device_part : goal.returns-in_err-print_device_part
returns-in_err-print_device_part g c =
    let b = c.args.bundle.now in
    let i = c.loop-device.device in
    let below : i < length (network_of b).devices = omega (arith, length-map b.devices.items device_of) in
    record {
      printed = λ told tells.
          lines_failed (device_part (network_of b) told c.args.side) g.K.Sink tt c.in_err-print_device_part.field-0.0 c.from_residual.result _ _ _ _ _ _ _ (network_of b).devices i (device_of no_plan) c.from_residual.ensures.0 below
          (ap (device_part (network_of b) told c.args.side i) (sym (device_of_network b i no_plan)))
          (c.loop-device.invariant told tells) (c.in_err-print_device_part.ensures.printed told no_plan tells);
    }

pub loop-device-preserved : goal.loop-device-preserved
loop-device-preserved g c = λ told tells.
    let b = c.args.bundle.now in
    let i = c.loop-device.device in
    let below : i < length (network_of b).devices = omega (arith, length-map b.devices.items device_of) in
    lines_more (device_part (network_of b) told c.args.side) g.K.Sink tt tt tt _ _ _ _ _ _ _ (network_of b).devices i (device_of no_plan) below
    (ap (device_part (network_of b) told c.args.side i) (sym (device_of_network b i no_plan)))
    (c.loop-device.invariant told tells) (c.in_ok-print_device_part.ensures.printed told no_plan tells)

pub returns : goal.returns
returns g c =
    let b = c.args.bundle.now in
    let all : length (network_of b).devices ≤ c.loop-device.device = omega (arith, length-map b.devices.items device_of) in
    record { printed = λ told tells. lines_all (device_part (network_of b) told c.args.side) g.K.Sink tt tt _ _ _ _ (network_of b).devices c.loop-device.device all (c.loop-device.invariant told tells) }
