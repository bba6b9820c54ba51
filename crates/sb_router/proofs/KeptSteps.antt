-- Nothing is taken back, step by step.
use Rattle.std.proofs.Common.{ℕ, ◌<◌, ◌≤◌, true, length, set, get_or, refl, sym, subst, arith}
use Rattle.std.proofs.lemmas.List.{length-set}
use Rattle.sb_port.specs.Ports.{PortSide}
use Rattle.sb_link.specs.Prefixes.{begins_itself}
use Rattle.sb_node.specs.Kept.{IsKeptPort, kept_ring_same, kept_port_same}
use Rattle.sb_router.specs.Lanes.{InletState, LaneState, Route, inlet_at, no_inlet, no_port, outlet_at}
use Rattle.sb_router.specs.Steps.{Step, Steps, receives, looks, drops, offers, turns, tells, none, further, emptied}
use Rattle.sb_router.specs.Rested.{IsKeptInlet, IsKeptLane, free_count, kept_inlet_same, kept_lane_same, kept_lane_then}
use Rattle.std.specs.Prelude.{Option, None, Some}
use Rattle.sb_packet.specs.declared.packet.Packet.{Packet}
use Rattle.sb_router.proofs.MoveSteps.{inlet_received, inlet_unmoved}
use Rattle.sb_router.proofs.Places.{at_each}

-- a port that was told to close is as it was
pub kept_told : (before : PortSide) → IsKeptPort before (record before { state = record before.state { close_requested = true } })
kept_told before = record {
  plan = refl;
  mark = refl;
  offered_more = begins_itself _;
  let_more_go = begins_itself _;
  sent_more = begins_itself before.state.sent;
  learnt = omega arith;
  still_told = λ told. refl;
}

kept_inlet_set : (s : LaneState) (i : ℕ) (x : InletState) → i < length s.inlets → IsKeptInlet (inlet_at s i) x → (j : ℕ) → IsKeptInlet (inlet_at s j) (get_or (set s.inlets i x) j no_inlet)
kept_inlet_set s i x lt is = at_each s.inlets i x no_inlet lt (λ j y. IsKeptInlet (inlet_at s j) y) is (λ j. kept_inlet_same (inlet_at s j))

kept_outlet_set : (s : LaneState) (o : ℕ) (y : PortSide) → o < length s.outlets → IsKeptPort (outlet_at s o) y → (q : ℕ) → IsKeptPort (outlet_at s q) (get_or (set s.outlets o y) q no_port)
kept_outlet_set s o y lt is = at_each s.outlets o y no_port lt (λ q z. IsKeptPort (outlet_at s q) z) is (λ q. kept_port_same (outlet_at s q))

kept_inlets : (s : LaneState) (i : ℕ) (x : InletState) → i < length s.inlets → IsKeptInlet (inlet_at s i) x → IsKeptLane s (record s { inlets = set s.inlets i x })
kept_inlets s i x lt is = record { inlet_count = length-set s.inlets i x; outlet_count = refl; inlets = kept_inlet_set s i x lt is; outlets = λ o. kept_port_same (outlet_at s o) }

kept_outlets : (s : LaneState) (o : ℕ) (y : PortSide) → o < length s.outlets → IsKeptPort (outlet_at s o) y → IsKeptLane s (record s { outlets = set s.outlets o y })
kept_outlets s o y lt is = record { inlet_count = refl; outlet_count = length-set s.outlets o y; inlets = λ i. kept_inlet_same (inlet_at s i); outlets = kept_outlet_set s o y lt is }

few_free : (held : Option Packet) → free_count held ≤ 1
few_free None = omega arith
few_free (Some p) = omega arith

empty_kept : (x : InletState) → IsKeptInlet x (emptied x)
empty_kept x = record { ring = kept_ring_same x.ring; moves = let few = few_free x.held in omega (arith, few) }

pub kept_step : {route : Route} {s t : LaneState} → Step route s t → IsKeptLane s t
kept_step {route} {s} (receives i x item lt is) = kept_inlets s i x lt (record { ring = is.kept; moves = let more = inlet_received (inlet_at s i) x item is in omega (arith, more) })
kept_step {route} {s} (looks i x lt is) = kept_inlets s i x lt (record { ring = is.kept; moves = let same = inlet_unmoved (inlet_at s i) x is in omega (arith, same) })
kept_step {route} {s} (drops i p lt held refused) = kept_inlets s i (emptied (inlet_at s i)) lt (empty_kept (inlet_at s i))
kept_step {route} {s} (offers i o p y lt within held next is) = record {
  inlet_count = length-set s.inlets i (emptied (inlet_at s i));
  outlet_count = length-set s.outlets o y;
  inlets = kept_inlet_set s i (emptied (inlet_at s i)) lt (empty_kept (inlet_at s i));
  outlets = kept_outlet_set s o y within is.kept;
}
kept_step {route} {s} (turns o y within is) = kept_outlets s o y within is.kept
kept_step {route} {s} (tells o y within silent is) = kept_outlets s o y within (subst (λ (port : PortSide). IsKeptPort (outlet_at s o) port) (sym is.told) (kept_told (outlet_at s o)))

pub kept_steps : {route : Route} {s t : LaneState} → Steps route s t → IsKeptLane s t
kept_steps {route} {s} none = kept_lane_same s
kept_steps (further before step) = kept_lane_then (kept_steps before) (kept_step step)
