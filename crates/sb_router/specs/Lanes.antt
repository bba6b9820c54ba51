-- One direction of a router as plain data: the rings that come in, and the rings that go out.
use Rattle.std.specs.Prelude.{ℕ, Bool, false, List, [], Option, None, Some, slice_index_or, ◌≡◌}
use Rattle.std.specs.Option.{option_and_then}
use Rattle.sb_packet.specs.Accesses.{Access, accesses_of}
use Rattle.sb_packet.specs.Messages.{message_of}
use Rattle.sb_link.specs.RingPlans.{NetFlow, RingPlan, message_flow}
use Rattle.sb_packet.specs.declared.packet.Packet.{Packet}
use Rattle.sb_port.specs.Waiting.{nothing_waits}
use Rattle.sb_port.specs.Ports.{PortSide, offered_words}
use Rattle.sb_node.specs.Sides.{RingSide, received_words}
use Rattle.sb_link.specs.declared.ends.RxEnd as rx
use Rattle.sb_link.specs.declared.ends.TxEnd as tx

-- a ring that comes into a router, and the packet that came by it and waits to be handed on
pub record InletState : Type 0 where
  pub ring : RingSide
  -- the ring gave its Close
  pub ended : Bool
  pub held : Option Packet

-- one direction of a router: the rings that come in, and the ports by which it sends
pub record LaneState : Type 0 where
  pub inlets : List InletState
  pub outlets : List PortSide

-- a ring of which nothing is known
abbrev pub no_plan : RingPlan
no_plan = record { ring = 0; up = false; width = 0; capacity = 0; budget = 0; flows = record { devices = 0; ranges = []; through = [] } }

abbrev pub no_ring : RingSide
no_ring = record { plan = no_plan; mark = record { plan = no_plan; table = None; handed = []; told = 0 }; received = []; known = 0 }

abbrev pub no_port : PortSide
no_port = record {
  plan = no_plan;
  mark = record { plan = no_plan; table = None; handed = []; told = 0 };
  published = [];
  taken = 0;
  state = record { sent = []; waiting = nothing_waits 0; close_requested = false; close_sent = false; words_offered = 0 };
}

abbrev pub no_inlet : InletState
no_inlet = record { ring = no_ring; ended = false; held = None }

-- the ring that comes in at a place
abbrev pub inlet_at : LaneState → ℕ → InletState
inlet_at s i = slice_index_or s.inlets i no_inlet

-- the port at a place
abbrev pub outlet_at : LaneState → ℕ → PortSide
outlet_at s o = slice_index_or s.outlets o no_port

-- the words of a packet that is held
abbrev pub held_words : Option Packet → List Access
held_words None = []
held_words (Some p) = accesses_of p

-- the words that came by a ring, those that are held of it, and those that were offered to a port
abbrev pub came_at : LaneState → ℕ → List Access
came_at s i = received_words (inlet_at s i).ring

abbrev pub held_words_at : LaneState → ℕ → List Access
held_words_at s i = held_words (inlet_at s i).held

abbrev pub offered_at : LaneState → ℕ → List Access
offered_at s o = offered_words (outlet_at s o)

-- what the places of rings mean: that to which each flow goes, none where it doesn't pass the router
abbrev pub Route : Type 0
Route = NetFlow → Option ℕ

-- the place to which a packet goes that came by a ring of that plan
abbrev pub next_place : Route → RingPlan → Packet → Option ℕ
next_place route plan p = option_and_then route (message_flow plan.flows (message_of p))

-- Rings at which nothing happened yet, as a router begins with them.

-- a ring that comes in, at whose end nothing was received
abbrev pub fresh_inlet : {U : Type 0} → rx.Ghosts U → U → InletState
fresh_inlet receiving end = record {
  ring = record { plan = receiving.planned end; mark = receiving.mark end; received = []; known = receiving.known end };
  ended = false;
  held = None;
}

-- nothing was sent over a ring, and nothing received over the other one
pub record IsFreshPair {T U : Type 0} (sending : tx.Ghosts T) (receiving : rx.Ghosts U) (to : T) (from : U) : Type 0 where
  pub unsent : sending.sent to ≡ []
  pub unreceived : receiving.received from ≡ []
