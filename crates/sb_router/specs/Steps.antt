-- What one direction of a router does, step by step, and for what the packets wait that it holds.
use Rattle.std.specs.Prelude.{◌≡◌, ◌<◌, ℕ, true, false, [], ◌∷◌, ◌++◌, length, All, Option, None, Some, set, ◌⊎◌, ◌+◌, List, flat_map, ⊤}
use Rattle.sb_packet.specs.Accesses.{accesses_of}
use Rattle.sb_packet.specs.Messages.{message_of}
use Rattle.sb_link.specs.Traffic.{MayFollow, MayPass, is_close}
use Rattle.sb_packet.specs.declared.packet.Packet.{Packet}
use Rattle.sb_packet.specs.declared.item.Item.{Item}
use Rattle.sb_port.specs.Ports.{IsFit, PortSide, offered_words, owes}
use Rattle.sb_node.specs.Kept.{IsKeptPort, IsKeptRing}
use Rattle.sb_node.specs.Sides.{has_rest, is_full}
use Rattle.sb_router.specs.Lanes.{InletState, LaneState, Route, inlet_at, next_place, outlet_at}
use Rattle.sb_node.specs.Steps.{IsDropped}
use Rattle.sb_link.specs.RingPlans.{RingPlan}
use Rattle.sb_packet.specs.declared.item.Item.TheVariants as items

-- the packet that an item is
abbrev pub held_of : Item → Option Packet
held_of (items.Packet p) = Some p
held_of items.Close = None

-- an item was received; where it is a packet, it is held
pub record IsTakenByInlet (before after : InletState) (item : Item) : Type 0 where
  pub open_before : before.ended ≡ false
  pub free : before.held ≡ None
  pub lawful : MayFollow before.ring.plan before.ring.received item
  pub received : after.ring.received ≡ before.ring.received ++ item ∷ []
  pub kept : IsKeptRing before.ring after.ring
  pub ended : after.ended ≡ is_close item
  pub held : after.held ≡ held_of item

-- no item was received
pub record IsUnmoved (before after : InletState) : Type 0 where
  pub received : after.ring.received ≡ before.ring.received
  pub kept : IsKeptRing before.ring after.ring
  pub ended : after.ended ≡ before.ended
  pub held : after.held ≡ before.held

-- what was held isn't any longer
abbrev pub emptied : InletState → InletState
emptied x = record x { held = None }

-- a port that owed nothing took a packet: it has something left to send now, which it owes, or holds for merging
pub record IsGiven (before after : PortSide) (p : Packet) : Type 0 where
  pub ready : owes before.state ≡ false
  pub rest : has_rest after ≡ true
  pub passes : MayPass before.plan (length (offered_words before)) (message_of p)
  pub words : offered_words after ≡ offered_words before ++ accesses_of p
  pub sent : after.state.sent ≡ before.state.sent
  pub kept : IsKeptPort before after
  pub fit : IsFit after.plan after.state
  pub untold : after.state.close_requested ≡ false

-- a port took its turn
pub record IsTurned (before after : PortSide) : Type 0 where
  pub words : offered_words after ≡ offered_words before
  pub kept : IsKeptPort before after
  pub fit : IsFit after.plan after.state
  pub told : after.state.close_requested ≡ before.state.close_requested

-- a port was told to close, or had been told before
pub record IsTold (before after : PortSide) : Type 0 where
  pub told : after ≡ record before { state = record before.state { close_requested = true } }
  pub fit : IsFit after.plan after.state

-- by a ring nothing more comes, and nothing is held of it
pub record IsSilent (x : InletState) : Type 0 where
  pub ended : x.ended ≡ true
  pub free : x.held ≡ None

-- a packet doesn't pass: there is no port to which it goes, or it may not be offered there
abbrev pub IsRefused : Route → LaneState → ℕ → Packet → Type 0
IsRefused route s i p = (o : ℕ) → next_place route (inlet_at s i).ring.plan p ≡ Some o →
    MayPass (outlet_at s o).plan (length (offered_words (outlet_at s o))) (message_of p) → ⊥

-- One step.
pub data Step (route : Route) : LaneState → LaneState → Type 0 where
  receives : {s : LaneState} (i : ℕ) (x : InletState) (item : Item) → i < length s.inlets → IsTakenByInlet (inlet_at s i) x item →
      Step route s (record s { inlets = set s.inlets i x })
  looks : {s : LaneState} (i : ℕ) (x : InletState) → i < length s.inlets → IsUnmoved (inlet_at s i) x →
      Step route s (record s { inlets = set s.inlets i x })
  drops : {s : LaneState} (i : ℕ) (p : Packet) → i < length s.inlets → (inlet_at s i).held ≡ Some p → IsRefused route s i p →
      Step route s (record s { inlets = set s.inlets i (emptied (inlet_at s i)) })
  offers : {s : LaneState} (i o : ℕ) (p : Packet) (y : PortSide) → i < length s.inlets → o < length s.outlets → (inlet_at s i).held ≡ Some p →
      next_place route (inlet_at s i).ring.plan p ≡ Some o → IsGiven (outlet_at s o) y p →
      Step route s (record { inlets = set s.inlets i (emptied (inlet_at s i)); outlets = set s.outlets o y })
  turns : {s : LaneState} (o : ℕ) (y : PortSide) → o < length s.outlets → IsTurned (outlet_at s o) y →
      Step route s (record s { outlets = set s.outlets o y })
  tells : {s : LaneState} (o : ℕ) (y : PortSide) → o < length s.outlets → All IsSilent s.inlets → IsTold (outlet_at s o) y →
      Step route s (record s { outlets = set s.outlets o y })

-- One step after another.
pub data Steps (route : Route) : LaneState → LaneState → Type 0 where
  none : {s : LaneState} → Steps route s s
  further : {s t u : LaneState} → Steps route s t → Step route t u → Steps route s u

-- runs of steps, one after another
pub steps_then : {route : Route} {s t u : LaneState} → Steps route s t → Steps route t u → Steps route s u
steps_then before none = before
steps_then before (further more step) = further (steps_then before more) step

-- What becomes of a packet that is handed to a port.

-- It was offered where it passes, and dropped elsewhere.
abbrev pub IsHandedTo : PortSide → PortSide → Packet → Type 0
IsHandedTo before after p = IsGiven before after p ⊎ IsDropped before after p

-- A packet was handed to the port at a place.
pub record IsHandedAt (o : ℕ) (s t : LaneState) (p : Packet) : Type 0 where
  pub port : PortSide
  pub handed : IsHandedTo (outlet_at s o) port p
  pub state : t ≡ record s { outlets = set s.outlets o port }

-- For what a packet that a router holds waits: for the port to which it goes.

-- a packet goes to a port that owes an item, and whose ring is full
pub record AwaitsFullPort (route : Route) (s : LaneState) (i : ℕ) (p : Packet) : Type 0 where
  pub place : ℕ
  pub within : place < length s.outlets
  pub next : next_place route (inlet_at s i).ring.plan p ≡ Some place
  pub owing : owes (outlet_at s place).state ≡ true
  pub full : is_full (outlet_at s place) ≡ true

-- packets may be handed on over a ring one after another, behind so many words
abbrev pub MayPassEach : RingPlan → ℕ → List Packet → Type 0
MayPassEach plan words [] = ⊤
MayPassEach plan words (p ∷ others) = MayPass plan words (message_of p) × MayPassEach plan (words + length (accesses_of p)) others

-- a port was offered a packet in a turn, and maybe others behind it, each of which passed
pub record WasOffered (before after : PortSide) : Type 0 where
  pub packet : Packet
  pub others : List Packet
  pub pass : MayPassEach before.plan (length (offered_words before)) (packet ∷ others)
  pub words : offered_words after ≡ offered_words before ++ flat_map accesses_of (packet ∷ others)

-- A port was busy in a turn: it owed an item before, or was offered a packet.
abbrev pub WasBusy : PortSide → PortSide → Type 0
WasBusy before after = (owes before.state ≡ true) ⊎ WasOffered before after

-- the next place is that of a port that was busy
pub record AwaitsBusyPort (s t : LaneState) (next : Option ℕ) : Type 0 where
  pub place : ℕ
  pub within : place < length t.outlets
  pub is_next : next ≡ Some place
  pub busy : WasBusy (outlet_at s place) (outlet_at t place)

-- Each packet that is held after a turn is for a port that was busy in it: whatever could be handed on was.
abbrev pub HeldAwaitsBusy : Route → LaneState → LaneState → Type 0
HeldAwaitsBusy route s t = (i : ℕ) (p : Packet) → i < length t.inlets → (inlet_at t i).held ≡ Some p
    → AwaitsBusyPort s t (next_place route (inlet_at t i).ring.plan p)
