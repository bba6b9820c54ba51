-- What stays of a direction: whatever turns it takes, and where nothing moved.
use Rattle.std.specs.Prelude.{◌≡◌, ◌<◌, ℕ, ◌+◌, Bool, true, false, length, Option, None, Some, sum_by, ◌≤◌}
use Rattle.std.proofs.Common.{refl, ◌∙◌, arith}
use Rattle.sb_packet.specs.declared.packet.Packet.{Packet}
use Rattle.sb_node.specs.Sides.{port_moves}
use Rattle.sb_router.specs.Lanes.{InletState, LaneState, inlet_at, offered_at, outlet_at}
use Rattle.sb_node.specs.Kept.{IsKeptPort, IsKeptRing, kept_port_same, kept_port_then, kept_ring_same, kept_ring_then}
use Rattle.sb_node.specs.Rested.{IsRestedPort, IsRestedRing, rested_port_same, rested_port_then, rested_ring_same, rested_ring_then}

-- How much went through one direction of a router.

-- 1 where no packet is held
abbrev pub free_count : Option Packet → ℕ
free_count None = 1
free_count (Some p) = 0

-- each item that came counts when it came, and once more when it isn't held any longer
abbrev pub inlet_moves : InletState → ℕ
inlet_moves x = length x.ring.received + length x.ring.received + free_count x.held

-- How much went through: what came, what was handed on or dropped, and what ports did.
abbrev pub lane_moves : LaneState → ℕ
lane_moves s = sum_by inlet_moves s.inlets + sum_by port_moves s.outlets

-- whether something was found to move says whether more went through
pub record IsToldMoved (before after : LaneState) (moved : Bool) : Type 0 where
  pub more : moved ≡ true → lane_moves before < lane_moves after
  pub none : moved ≡ false → lane_moves after ≡ lane_moves before

-- A direction through which nothing went: what came, what is held, what was offered and what was sent is as it was.

pub record IsStillLane (s t : LaneState) : Type 0 where
  pub received : (i : ℕ) → (inlet_at t i).ring.received ≡ (inlet_at s i).ring.received
  pub held : (i : ℕ) → (inlet_at t i).held ≡ (inlet_at s i).held
  pub offered : (o : ℕ) → offered_at t o ≡ offered_at s o
  pub sent : (o : ℕ) → (outlet_at t o).state.sent ≡ (outlet_at s o).state.sent

-- What stays of a direction, whatever turns it takes: nothing is taken back.

-- a ring that comes in is as it was, but for what came since
pub record IsKeptInlet (before after : InletState) : Type 0 where
  pub ring : IsKeptRing before.ring after.ring
  -- no less went through: what was handed on or dropped isn't held again
  pub moves : inlet_moves before ≤ inlet_moves after

-- each ring is as it was, but for what went over it since
pub record IsKeptLane (s t : LaneState) : Type 0 where
  pub inlet_count : length t.inlets ≡ length s.inlets
  pub outlet_count : length t.outlets ≡ length s.outlets
  pub inlets : (i : ℕ) → IsKeptInlet (inlet_at s i) (inlet_at t i)
  pub outlets : (o : ℕ) → IsKeptPort (outlet_at s o) (outlet_at t o)

-- nothing happened to a ring
pub kept_inlet_same : (x : InletState) → IsKeptInlet x x
kept_inlet_same x = record { ring = kept_ring_same x.ring; moves = omega arith }

-- one thing after another happened to a ring
pub kept_inlet_then : {x y z : InletState} → IsKeptInlet x y → IsKeptInlet y z → IsKeptInlet x z
kept_inlet_then {x} {y} {z} a b = record { ring = kept_ring_then a.ring b.ring; moves = let p = a.moves in let q = b.moves in omega (arith, p, q) }

-- nothing happened to a direction
pub kept_lane_same : (s : LaneState) → IsKeptLane s s
kept_lane_same s = record { inlet_count = refl; outlet_count = refl; inlets = λ i. kept_inlet_same (inlet_at s i); outlets = λ o. kept_port_same (outlet_at s o) }

-- one thing after another happened to a direction
pub kept_lane_then : {s t u : LaneState} → IsKeptLane s t → IsKeptLane t u → IsKeptLane s u
kept_lane_then {s} {t} {u} a b = record {
  inlet_count = b.inlet_count ∙ a.inlet_count;
  outlet_count = b.outlet_count ∙ a.outlet_count;
  inlets = λ i. kept_inlet_then (a.inlets i) (b.inlets i);
  outlets = λ o. kept_port_then (a.outlets o) (b.outlets o);
}

-- nothing came by a ring, and what is held of it is held still
pub record IsRestedInlet (before after : InletState) : Type 0 where
  pub ring : IsRestedRing before.ring after.ring
  pub ended : after.ended ≡ before.ended
  pub held : after.held ≡ before.held

-- nothing moved at any ring
pub record IsRestedLane (s t : LaneState) : Type 0 where
  pub inlet_count : length t.inlets ≡ length s.inlets
  pub outlet_count : length t.outlets ≡ length s.outlets
  pub inlets : (i : ℕ) → IsRestedInlet (inlet_at s i) (inlet_at t i)
  pub outlets : (o : ℕ) → IsRestedPort (outlet_at s o) (outlet_at t o)

-- nothing happened to a ring
pub rested_inlet_same : (x : InletState) → IsRestedInlet x x
rested_inlet_same x = record { ring = rested_ring_same x.ring; ended = refl; held = refl }

-- one thing after another happened to a ring
pub rested_inlet_then : {x y z : InletState} → IsRestedInlet x y → IsRestedInlet y z → IsRestedInlet x z
rested_inlet_then a b = record { ring = rested_ring_then a.ring b.ring; ended = b.ended ∙ a.ended; held = b.held ∙ a.held }

-- nothing happened to a direction
pub rested_lane_same : (s : LaneState) → IsRestedLane s s
rested_lane_same s = record { inlet_count = refl; outlet_count = refl; inlets = λ i. rested_inlet_same (inlet_at s i); outlets = λ o. rested_port_same (outlet_at s o) }

-- one thing after another happened to a direction
pub rested_lane_then : {s t u : LaneState} → IsRestedLane s t → IsRestedLane t u → IsRestedLane s u
rested_lane_then a b = record {
  inlet_count = b.inlet_count ∙ a.inlet_count;
  outlet_count = b.outlet_count ∙ a.outlet_count;
  inlets = λ i. rested_inlet_then (a.inlets i) (b.inlets i);
  outlets = λ o. rested_port_then (a.outlets o) (b.outlets o);
}
