-- The parts of a turn: what a pop of an incoming ring does, what is handed on, what is done to a port, and the causes that they find.
use Rattle.std.specs.Prelude.{◌≡◌, ℕ, false, ◌||◌, nat_le, List, [], ◌∷◌, Option, None, Some, if◌then◌else◌, ◌≢◌, ◌⊎◌, true, length, set, Bool}
use Rattle.sb_link.specs.declared.answers.Cause.{Cause}
use Rattle.sb_link.specs.declared.answers.Cause.TheVariants.{Broken, Empty, Full, Later, Window}
use Rattle.sb_node.specs.declared.findings.Findings.{Findings}
use Rattle.sb_packet.specs.declared.item.Item.{Item}
use Rattle.sb_node.specs.Sides.{is_drained}
use Rattle.sb_router.specs.Lanes.{InletState, LaneState, Route, inlet_at, next_place, outlet_at}
use Rattle.sb_router.specs.Steps.{IsGiven, IsRefused, IsTakenByInlet, IsTold, IsTurned, IsUnmoved, emptied}
use Rattle.sb_packet.specs.declared.packet.Packet.{Packet}
use Rattle.sb_port.specs.Ports.{PortSide, owes}
use Rattle.sb_node.specs.Steps.{IsPortServed, IsPortTurned}
use Rattle.sb_link.specs.declared.answers.Cause.TheVariants as causes

-- Of some causes the one at the ring of the lowest number.

-- the number of the ring that is empty or full
abbrev pub ring_of_cause : Cause → ℕ
ring_of_cause (Empty ring received sent) = ring
ring_of_cause (Full ring sent taken) = ring
ring_of_cause (Window index) = 0
ring_of_cause Later = 0
ring_of_cause Broken = 0

-- of two causes the one at the lower ring
abbrev pub lower : Option Cause → Option Cause → Option Cause
lower None b = b
lower (Some a) None = Some a
lower (Some a) (Some b) = if nat_le (ring_of_cause a) (ring_of_cause b) then Some a else Some b

-- of some causes the one at the lowest ring
abbrev pub lowest : List (Option Cause) → Option Cause
lowest [] = None
lowest (cause ∷ rest) = lower cause (lowest rest)

-- nothing was found
abbrev pub nothing_found : Findings
nothing_found = record { moved = false; full = None; waits = None; empty = None }

-- what was found in two turns
abbrev pub found_in_both : Findings → Findings → Findings
found_in_both a b = record {
  moved = a.moved || b.moved;
  full = lower a.full b.full;
  waits = lower a.waits b.waits;
  empty = lower a.empty b.empty;
}

-- Something was found that has this, besides all that was found before.
pub record FindsBesides (Has : Findings → Type 0) (found found_then : Findings) : Type 0 where
  pub one : Findings
  pub has : Has one
  pub both : found_then ≡ found_in_both found one

-- the ring wasn't popped: it gave its Close, or a packet that came by it is held
pub record IsLeft (before after : InletState) (found : Findings) : Type 0 where
  pub same : after ≡ before
  pub found_nothing : found ≡ nothing_found
  pub cause : (before.ended ≡ true) ⊎ (before.held ≢ None)

-- an item was popped
pub record IsTaken (before after : InletState) (found : Findings) : Type 0 where
  pub item : Item
  pub received : IsTakenByInlet before after item
  pub found_move : found ≡ record nothing_found { moved = true }

-- the ring was found empty
pub record IsFoundEmpty (before after : InletState) (found : Findings) : Type 0 where
  pub same : IsUnmoved before after
  pub open_after : after.ended ≡ false
  pub free : after.held ≡ None
  pub drained : is_drained after.ring ≡ true
  pub found_empty : found
      ≡ record nothing_found { empty = Some (causes.Empty after.ring.plan.ring (length after.ring.received) after.ring.known) }

-- A ring had its turn to be popped.
abbrev pub IsPopped : InletState → InletState → Findings → Type 0
IsPopped before after found = IsLeft before after found ⊎ (IsTaken before after found ⊎ IsFoundEmpty before after found)

-- The ring at a place had its turn to be popped.
pub record IsPoppedAt (i : ℕ) (s t : LaneState) (found : Findings) : Type 0 where
  pub inlet : InletState
  pub popped : IsPopped (inlet_at s i) inlet found
  pub state : t ≡ record s { inlets = set s.inlets i inlet }

-- What becomes of the packets that are held.

-- a packet was offered to the port to which it goes
pub record Offers (route : Route) (i : ℕ) (s t : LaneState) : Type 0 where
  pub packet : Packet
  pub place : ℕ
  pub port : PortSide
  pub held : (inlet_at s i).held ≡ Some packet
  pub next : next_place route (inlet_at s i).ring.plan packet ≡ Some place
  pub given : IsGiven (outlet_at s place) port packet
  pub state : t ≡ record { inlets = set s.inlets i (emptied (inlet_at s i)); outlets = set s.outlets place port }

-- a packet was dropped
pub record Drops (route : Route) (i : ℕ) (s t : LaneState) : Type 0 where
  pub packet : Packet
  pub held : (inlet_at s i).held ≡ Some packet
  pub refused : IsRefused route s i packet
  pub state : t ≡ record s { inlets = set s.inlets i (emptied (inlet_at s i)) }

-- nothing is held, or the port to which it goes owes an item
pub record IsWaiting (route : Route) (i : ℕ) (s : LaneState) : Type 0 where
  pub owing : (p : Packet) → (inlet_at s i).held ≡ Some p
      → (o : ℕ) × (next_place route (inlet_at s i).ring.plan p ≡ Some o) × (owes (outlet_at s o).state ≡ true)

-- What is held of a ring had its turn to be handed on.
abbrev pub IsHanded : Route → ℕ → LaneState → LaneState → Bool → Type 0
IsHanded route i s t true = Offers route i s t ⊎ Drops route i s t
IsHanded route i s t false = (t ≡ s) × IsWaiting route i s

-- What is done to a port of a direction.

-- the port at a place was told to close
pub record IsToldAt (o : ℕ) (s t : LaneState) : Type 0 where
  pub port : PortSide
  pub told : IsTold (outlet_at s o) port
  pub state : t ≡ record s { outlets = set s.outlets o port }

-- A port took its turn, in which this was found.
pub record IsOutletTurned (more : Bool) (before after : PortSide) (found : Findings) : Type 0 where
  pub turned : IsTurned before after
  pub finds : IsPortTurned more before after nothing_found found
  pub served : IsPortServed before after

-- Nothing changed but the port at a place.
abbrev pub IsOutletSet : ℕ → LaneState → LaneState → Type 0
IsOutletSet o s t = t ≡ record s { outlets = set s.outlets o (outlet_at t o) }
