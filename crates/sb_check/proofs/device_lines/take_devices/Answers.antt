-- One device more adds its lines; one that aren't there are the first difference.
use Rattle.std.proofs.Common.{◌≡◌, ◌≤◌, ◌<◌, ◌∙◌, ℕ, ap, sym, length, get_or, arith}
use Rattle.std.specs.Prelude.{None}
use Rattle.std.specs.List.{enumerate_from}
use Rattle.std.proofs.lemmas.List.{length-map}
use Rattle.std.proofs.lemmas.List.FromFn.{length-enumerate_from}
use Rattle.sb_packet.specs.Networks.{NetDevice}
use Rattle.sb_packet.specs.Answers.{RunResults}
use Rattle.sb_flow.specs.NetworkOf.{network_of}
use Rattle.sb_flow.specs.Rows.{device_of}
use Rattle.sb_flow.specs.declared.bundle.Bundle.{Bundle}
use Rattle.sb_text.proofs.ToldLemmas.{device_of_network, no_plan}
use Rattle.sb_text.specs.Reports.{device_part}
use Rattle.sb_check.proofs.CompareLemmas.{compared_all, compared_failed, compared_more, numbered}
use Rattle.sb_check.proofs.device_lines.take_devices.Goals as goal

-- the lines are those of the device at that place
lines_are : (b : Bundle) (told : RunResults) (i : ℕ) → i < length (network_of b).devices
    → device_part (network_of b) told None i (device_of (get_or b.devices.items i no_plan)) ≡ device_part (network_of b) told None (get_or (enumerate_from 0 (network_of b).devices) i (0, device_of no_plan)).0 (get_or (enumerate_from 0 (network_of b).devices) i (0, device_of no_plan)).1
lines_are b told i below =
    ap (device_part (network_of b) told None i) (sym (device_of_network b i no_plan))
    ∙ ap (λ (p : ℕ × NetDevice). device_part (network_of b) told None p.0 p.1) (sym (numbered (network_of b).devices i (device_of no_plan) below))

pub returns-in_err-take_device_at : goal.returns-in_err-take_device_at
returns-in_err-take_device_at g c =
    let b = c.args.bundle.now in
    let i = c.loop-device.device in
    let below : i < length (network_of b).devices = omega (arith, length-map b.devices.items device_of) in
    record {
      compared = λ told tells.
          compared_failed tt c.in_err-take_device_at.field-0.0 c.from_residual.result (λ p. device_part (network_of b) told None p.0 p.1) (enumerate_from 0 (network_of b).devices) i (0, device_of no_plan) _ _ _ _ c.from_residual.ensures.0
          (omega (arith, below, length-enumerate_from 0 (network_of b).devices)) (lines_are b told i below)
          (c.loop-device.invariant told tells) (c.in_err-take_device_at.ensures.compared told no_plan tells);
    }

pub loop-device-preserved : goal.loop-device-preserved
loop-device-preserved g c = λ told tells.
    let b = c.args.bundle.now in
    let i = c.loop-device.device in
    let below : i < length (network_of b).devices = omega (arith, length-map b.devices.items device_of) in
    compared_more tt tt tt (λ p. device_part (network_of b) told None p.0 p.1) (enumerate_from 0 (network_of b).devices) i (0, device_of no_plan) _ _ _ _
    (omega (arith, below, length-enumerate_from 0 (network_of b).devices)) (lines_are b told i below)
    (c.loop-device.invariant told tells) (c.in_ok-take_device_at.ensures.compared told no_plan tells)

pub returns : goal.returns
returns g c =
    let b = c.args.bundle.now in
    let all : length (network_of b).devices ≤ c.loop-device.device = omega (arith, length-map b.devices.items device_of) in
    record {
      compared = λ told tells. compared_all tt tt (λ p. device_part (network_of b) told None p.0 p.1) (enumerate_from 0 (network_of b).devices) c.loop-device.device _ _
          (omega (arith, all, length-enumerate_from 0 (network_of b).devices)) (c.loop-device.invariant told tells);
    }
