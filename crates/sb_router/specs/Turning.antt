-- What one turn of a direction does, part by part: it pops, hands on, closes, and turns its ports.
use Rattle.std.specs.Prelude.{◌≡◌, ◌≢◌, ◌<◌, ◌⊎◌, ◌||◌, ℕ, Bool, true, false, length, map, All, Option, None, Some, is_some, if◌then◌else◌}
use Rattle.sb_link.specs.declared.answers.Cause.{Cause}
use Rattle.sb_packet.specs.declared.packet.Packet.{Packet}
use Rattle.sb_port.specs.Ports.{PortSide}
use Rattle.sb_node.specs.Idle.{OwingPortsAreFull}
use Rattle.sb_node.specs.Sides.{RingSide, has_rest, is_drained, is_full}
use Rattle.sb_node.specs.Steps.{HasFewMore, IsPortServed, IsRingServed}
use Rattle.sb_node.specs.Turns.{empty_cause, full_cause}
use Rattle.sb_node.specs.declared.findings.Findings.{Findings}
use Rattle.sb_router.specs.Lanes.{InletState, LaneState, Route, inlet_at, offered_at, outlet_at}
use Rattle.sb_router.specs.Steps.{AwaitsFullPort, HeldAwaitsBusy, IsSilent, Steps}
use Rattle.sb_router.specs.Rested.{IsRestedLane, IsToldMoved}
use Rattle.sb_router.specs.Popping.{IsWaiting, lowest}
use Rattle.sb_link.specs.declared.answers.Cause.TheVariants as causes

-- a ring was found empty, or there was a cause to leave it: it gave its Close, or a packet that came by it is held
abbrev pub IsSeen : InletState → Type 0
IsSeen x = (x.ended ≡ true) ⊎ ((x.held ≢ None) ⊎ (is_drained x.ring ≡ true))

-- by each ring came at most so many items as a turn takes
abbrev pub FewItemsEach : LaneState → LaneState → Type 0
FewItemsEach s t = (i : ℕ) → HasFewMore (inlet_at s i).ring (inlet_at t i).ring

-- a ring that was open, and of which nothing was held, was served
abbrev pub IsServed : InletState → RingSide → Type 0
IsServed before ring = before.ended ≡ false → before.held ≡ None → IsRingServed before.ring ring

-- so it is with each ring
abbrev pub ServesEach : LaneState → LaneState → Type 0
ServesEach s t = (i : ℕ) → i < length s.inlets → IsServed (inlet_at s i) (inlet_at t i).ring

-- each port was served
abbrev pub ServesPorts : LaneState → LaneState → Type 0
ServesPorts s t = (o : ℕ) → o < length s.outlets → IsPortServed (outlet_at s o) (outlet_at t o)

-- no port sent anything
abbrev pub SendsNothing : LaneState → LaneState → Type 0
SendsNothing s t = (o : ℕ) → (outlet_at t o).state.sent ≡ (outlet_at s o).state.sent

-- no port was offered anything
abbrev pub OffersNothing : LaneState → LaneState → Type 0
OffersNothing s t = (o : ℕ) → offered_at t o ≡ offered_at s o

-- what was found by a pop of a ring that is empty
abbrev pub pop_cause : InletState → Option Cause
pop_cause x = if x.ended || is_some x.held then None else Some (causes.Empty x.ring.plan.ring (length x.ring.received) x.ring.known)

-- Each ring had its turn to be popped.
pub record HasPoppedEach (route : Route) (s t : LaneState) (found : Findings) : Type 0 where
  pub steps : Steps route s t
  pub rests : found.moved ≡ false → IsRestedLane s t
  pub outlets : t.outlets ≡ s.outlets
  pub moved : IsToldMoved s t found.moved
  pub few_items : FewItemsEach s t
  pub served : ServesEach s t
  pub seen : found.moved ≡ false → All IsSeen t.inlets
  pub empty : found.moved ≡ false → found.empty ≡ lowest (map pop_cause t.inlets)
  pub full : found.full ≡ None
  pub waits : found.waits ≡ None

-- What is held of each ring had its turn to be handed on.
pub record HasHanded (route : Route) (s t : LaneState) (moved : Bool) : Type 0 where
  pub steps : Steps route s t
  pub moved_is : IsToldMoved s t moved
  pub rings : (i : ℕ) → (inlet_at t i).ring ≡ (inlet_at s i).ring
  pub unsent : SendsNothing s t
  pub still : moved ≡ false → t ≡ s
  pub waiting : moved ≡ false → (i : ℕ) → i < length t.inlets → IsWaiting route i t
  pub held_awaits_busy : HeldAwaitsBusy route s t

-- All ports were told to close, where nothing more comes.
pub record HasClosed (route : Route) (s t : LaneState) : Type 0 where
  pub steps : Steps route s t
  pub rests : IsRestedLane s t
  pub inlets : t.inlets ≡ s.inlets
  pub moved : IsToldMoved s t false
  pub unsent : SendsNothing s t
  pub words : OffersNothing s t
  pub told : All IsSilent s.inlets → (o : ℕ) → o < length t.outlets → (outlet_at t o).state.close_requested ≡ true
  pub untold : (All IsSilent s.inlets → ⊥) → t ≡ s

-- a port has nothing left to send, or its ring is full; and nothing else changed
pub record IsPortIdle (before after : PortSide) : Type 0 where
  pub same : after.state ≡ before.state
  pub rest : has_rest after ≡ true → is_full after ≡ true

-- Each port took its turn.
pub record HasTurned (more : Bool) (s t : LaneState) (found : Findings) : Type 0 where
  pub steps : (route : Route) → Steps route s t
  pub rests : found.moved ≡ false → IsRestedLane s t
  pub inlets : t.inlets ≡ s.inlets
  pub moved : IsToldMoved s t found.moved
  pub told : (o : ℕ) → (outlet_at t o).state.close_requested ≡ (outlet_at s o).state.close_requested
  pub words : OffersNothing s t
  pub served : ServesPorts s t
  pub idle : found.moved ≡ false → more ≡ false → (o : ℕ) → o < length t.outlets → IsPortIdle (outlet_at s o) (outlet_at t o)
  pub full : found.moved ≡ false → more ≡ false → found.full ≡ lowest (map full_cause t.outlets)
  pub waits : found.waits ≡ None
  pub empty : found.empty ≡ None

-- What holds of a direction after a turn in which it did nothing.
pub record IsIdleLane (route : Route) (s : LaneState) : Type 0 where
  -- what is held is for a port that owes an item, and whose ring is full
  pub held_awaits_full : (i : ℕ) (p : Packet) → i < length s.inlets → (inlet_at s i).held ≡ Some p → AwaitsFullPort route s i p
  -- a port that has something left to send found its ring full
  pub owing_are_full : OwingPortsAreFull s.outlets
  -- a ring that didn't give its Close was found empty, or a packet that came by it is held
  pub open_are_seen : All IsSeen s.inlets

-- One turn of a direction, and what was found in it.
pub record IsLaneTurn (route : Route) (s t : LaneState) (found : Findings) : Type 0 where
  pub steps : Steps route s t
  pub rests : found.moved ≡ false → IsRestedLane s t
  pub moved : IsToldMoved s t found.moved
  -- each ring is popped where nothing of it is held
  pub few_items : FewItemsEach s t
  pub served : ServesEach s t
  -- what is held still is for a port that was busy
  pub held_awaits_busy : HeldAwaitsBusy route s t
  -- each port is turned once
  pub served_ports : ServesPorts s t
  -- all ports were told to close once nothing more comes
  pub closed : All IsSilent t.inlets → (o : ℕ) → o < length t.outlets → (outlet_at t o).state.close_requested ≡ true
  pub idle : found.moved ≡ false → IsIdleLane route t
  pub full : found.moved ≡ false → found.full ≡ lowest (map full_cause t.outlets)
  pub waits : found.waits ≡ None
  -- where nothing is held, each ring that didn't give its Close was found empty
  pub empty : found.moved ≡ false → All (λ x. x.held ≡ None) t.inlets → found.empty ≡ lowest (map (λ x. empty_cause x.ring) t.inlets)
