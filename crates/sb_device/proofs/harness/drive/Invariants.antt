-- The device is whole, the port is fit, and both meet the ends that they met before.
use Rattle.std.specs.Prelude.{◌≡◌}
use Rattle.sb_port.specs.Ports.{IsFit}
use Rattle.sb_device.specs.Devices.{IsWholeDevice}
use Rattle.sb_device.proofs.harness.drive.Given as goal

abbrev pub invariant-loop-round : goal.invariant-loop-round
invariant-loop-round g l =
    IsWholeDevice l.device × IsFit l.host.plan l.host.state × (l.device.requests.mark ≡ l.host.mark) × (l.device.answers.mark ≡ g.F.Rx.RxEnd.mark l.answers)
