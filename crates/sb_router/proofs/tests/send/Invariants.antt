-- The port is fit and wasn't told to close, and sends over the ring of the receiving end.
use Rattle.std.specs.Prelude.{◌≡◌, false}
use Rattle.sb_port.specs.Ports.{IsFit}
use Rattle.sb_router.proofs.tests.send.Given as goal

abbrev pub invariant-loop-packet : goal.invariant-loop-packet
invariant-loop-packet g l = IsFit l.port.plan l.port.state × (l.port.state.close_requested ≡ false) × (l.port.mark ≡ g.F.Rx.RxEnd.mark l.rx)
