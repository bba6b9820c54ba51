-- What is said of a port holds of what its fields show.
use Rattle.std.proofs.Common.{◌≡◌, subst, sym}
use Rattle.sb_port.specs.Ports.{PortSide, PortState, IsFit}
use Rattle.sb_port.specs.Turns.{SendsFirst}

pub fit_seen : {shown port : PortSide} → shown ≡ port → IsFit port.plan port.state → IsFit shown.plan shown.state
fit_seen is fit = subst (λ (p : PortSide). IsFit p.plan p.state) (sym is) fit

pub sends_seen : {shown port : PortSide} (after : PortState) → shown ≡ port → SendsFirst shown.state after → SendsFirst port.state after
sends_seen after is sends = subst (λ (p : PortSide). SendsFirst p.state after) is sends
