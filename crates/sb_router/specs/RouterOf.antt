-- What the code holds of a router, as rounds see it, over ends of any kind.
use Rattle.std.specs.Prelude.{ℕ, ◌-◌, nat_lt, length, if◌then◌else◌}
use Rattle.std.specs.Vec.{with_item}
use Rattle.sb_router.specs.Lanes.{LaneState, Route, inlet_at}
use Rattle.sb_router.specs.Ways.{route_of}
use Rattle.sb_router.specs.declared.lane.Lane.{Lane}
use Rattle.sb_router.specs.Routers.{DirectionSide, RouterSide}
use Rattle.sb_router.specs.declared.router_core.RouterCore.{RouterCore}
use Rattle.sb_port.specs.Ports.{PortSide}
use Rattle.sb_node.specs.Sides.{RingSide}

-- What the code holds of one direction of a router, as plain data.

-- a direction's rings
abbrev pub lane_of : {T U : Type 0} → Lane T U → LaneState
lane_of lane = record { inlets = lane.inlets.items; outlets = lane.outlets.items }

-- where its flows go
abbrev pub lane_route : {T U : Type 0} → Lane T U → Route
lane_route lane = route_of lane.routes.rows.items

-- one direction
abbrev pub direction_of : {T U : Type 0} → Lane T U → DirectionSide
direction_of lane = record { rows = lane.routes.rows.items; lane = lane_of lane }

-- both directions
abbrev pub router_core_side : {T U : Type 0} → RouterCore T U → RouterSide
router_core_side core = record { requests = direction_of core.requests; answers = direction_of core.answers }

-- A router over ends of any kind, with another port or ring at a place.

-- a direction
abbrev pub lane_with_port : {T U : Type 0} → Lane T U → ℕ → PortSide → Lane T U
lane_with_port lane k port = record lane { outlets = with_item lane.outlets k port }

abbrev pub lane_with_ring : {T U : Type 0} → Lane T U → ℕ → RingSide → Lane T U
lane_with_ring lane k ring = record lane { inlets = with_item lane.inlets k (record (inlet_at (lane_of lane) k) { ring = ring }) }

-- both directions
abbrev pub core_with_port : {T U : Type 0} → RouterCore T U → ℕ → PortSide → RouterCore T U
core_with_port core k port = if nat_lt k (length core.requests.outlets.items)
    then record core { requests = lane_with_port core.requests k port }
    else record core { answers = lane_with_port core.answers (k - length core.requests.outlets.items) port }

abbrev pub core_with_ring : {T U : Type 0} → RouterCore T U → ℕ → RingSide → RouterCore T U
core_with_ring core k ring = if nat_lt k (length core.requests.inlets.items)
    then record core { requests = lane_with_ring core.requests k ring }
    else record core { answers = lane_with_ring core.answers (k - length core.requests.inlets.items) ring }
