-- When a direction of a router is the same again, or another one.
use Rattle.std.proofs.Common.{◌≡◌, ◌∙◌, ap, List}
use Rattle.sb_router.specs.Lanes.{InletState, LaneState}
use Rattle.sb_port.specs.Ports.{PortSide}

-- two directions with the same rings are the same
pub same_lane : {xs us : List InletState} {ys vs : List PortSide} → xs ≡ us → ys ≡ vs
    → (let s : LaneState = record { inlets = xs; outlets = ys } in s) ≡ record { inlets = us; outlets = vs }
same_lane {xs} {us} {ys} {vs} p q =
    ap (λ (z : List InletState). (let s : LaneState = record { inlets = z; outlets = ys } in s)) p
    ∙ ap (λ (z : List PortSide). (let s : LaneState = record { inlets = us; outlets = z } in s)) q
