-- When a direction of a router is whole, and what the layers above use of a router, of each flow that passes it.
use Rattle.std.specs.Prelude.{◌≡◌, ◌<◌, ℕ, true, List, [], ◌∷◌, ◌++◌, length, All, Some, ◌≤◌, ◌⊎◌, ◌+◌, Bool, filter, sum_by}
use Rattle.sb_packet.specs.Messages.{message_of}
use Rattle.sb_link.specs.Traffic.{IsCarriable, IsPlanned, has_close, item_messages}
use Rattle.sb_packet.specs.declared.packet.Packet.{Packet}
use Rattle.sb_packet.specs.declared.item.Item.{Item}
use Rattle.sb_port.specs.Ports.{IsFit, PortSide}
use Rattle.sb_router.specs.Lanes.{InletState, LaneState, Route, came_at, held_words, held_words_at, inlet_at, next_place, offered_at, outlet_at}
use Rattle.sb_router.specs.Steps.{IsSilent}
use Rattle.sb_packet.specs.Accesses.{Access, accesses_of}
use Rattle.sb_link.specs.RingPlans.{NetFlow, goes_through, message_flow}
use Rattle.sb_link.specs.Prefixes.{IsSubsequence}
use Rattle.sb_packet.specs.Cuts.{IsSound}
use Rattle.sb_node.specs.Sides.{received_words}
use Rattle.sb_packet.specs.declared.item.Item.TheVariants as items

-- When a direction of a router is whole: it knows the truth about its rings.

-- the last item that came is this packet
pub record IsLast (p : Packet) (received : List Item) : Type 0 where
  pub before : List Item
  pub joined : received ≡ before ++ items.Packet p ∷ []

-- what is known of an incoming ring is true, and what is held is what came last
pub record IsWholeInlet (x : InletState) : Type 0 where
  pub ended : x.ended ≡ has_close x.ring.received
  pub last : (p : Packet) → x.held ≡ Some p → IsLast p x.ring.received
  pub carriable : (p : Packet) → x.held ≡ Some p → IsCarriable x.ring.plan (message_of p)

-- the port of an outgoing ring is fit
pub record IsWholeOutlet (y : PortSide) : Type 0 where
  pub fit : IsFit y.plan y.state

-- A direction is whole. No port was told to close but where nothing more comes.
pub record IsWholeLane (route : Route) (s : LaneState) : Type 0 where
  pub inlets : All IsWholeInlet s.inlets
  pub outlets : All IsWholeOutlet s.outlets
  pub silent : (o : ℕ) → o < length s.outlets → (outlet_at s o).state.close_requested ≡ true → All IsSilent s.inlets
  pub routed : (f : _) (o : ℕ) → route f ≡ Some o → o < length s.outlets

-- The words of a direction: which are of a flow, and which go on to a place.
pub record Words : Type 0 where
  pub is_of : NetFlow → Access → Bool
  pub goes_to : ℕ → Access → Bool

-- a flow's part of a list of words
abbrev pub part : Words → NetFlow → List Access → List Access
part words f list = filter (words.is_of f) list

-- how many of the words that came by a ring go on to a place, and how many of those that are held
abbrev pub came_for : Words → ℕ → InletState → ℕ
came_for words o x = length (filter (words.goes_to o) (received_words x.ring))

abbrev pub held_for : Words → ℕ → InletState → ℕ
held_for words o x = length (filter (words.goes_to o) (held_words x.held))

-- how many words were popped that go on to a place
abbrev pub popped_for : Words → LaneState → ℕ → ℕ
popped_for words s o = sum_by (came_for words o) s.inlets

-- each packet that was popped is sound
abbrev pub HasSoundInlets : LaneState → Type 0
HasSoundInlets s = All (λ x. All IsSound (item_messages x.ring.received)) s.inlets

-- A flow comes by the ring at one place, and goes on to another.
pub record Passes (route : Route) (s : LaneState) (f : NetFlow) (i o : ℕ) : Type 0 where
  pub inlet : i < length s.inlets
  pub outlet : o < length s.outlets
  pub through : goes_through (inlet_at s i).ring.plan.flows f ≡ true
  pub route_to : route f ≡ Some o

-- Of a flow that passes, what was offered is always what came, less some; and it is what came but for what is held, where each packet that was popped is sound, and the words that were popped for that ring are within its budget.
pub record HasForwarded (words : Words) (s : LaneState) (f : NetFlow) (i o : ℕ) : Type 0 where
  pub in_order : IsSubsequence (part words f (offered_at s o)) (part words f (came_at s i))
  pub whole : HasSoundInlets s → popped_for words s o ≤ (outlet_at s o).plan.budget
      → part words f (came_at s i) ≡ part words f (offered_at s o) ++ part words f (held_words_at s i)

-- All words of a packet of one flow are of this flow, and go on to its place.
pub record IsOneFlow (words : Words) (route : Route) (g : NetFlow) (list : List Access) : Type 0 where
  pub no_other : (f : NetFlow) → (f ≡ g) ⊎ (part words f list ≡ [])
  pub together : (o : ℕ) → route g ≡ Some o → filter (words.goes_to o) list ≡ list

-- How the rings of a direction belong together.
pub record IsLaid (words : Words) (route : Route) (s : LaneState) : Type 0 where
  -- what comes by a ring is of one flow, packet by packet
  pub one_flow : (i : ℕ) (p : Packet) (g : NetFlow) → i < length s.inlets
      → message_flow (inlet_at s i).ring.plan.flows (message_of p) ≡ Some g → IsOneFlow words route g (accesses_of p)
  -- a flow comes by one ring
  pub apart : (f : NetFlow) (i j : ℕ) → i < length s.inlets → j < length s.inlets
      → goes_through (inlet_at s i).ring.plan.flows f ≡ true → goes_through (inlet_at s j).ring.plan.flows f ≡ true → i ≡ j
  -- the ring to which it goes is made for what comes
  pub leads_on : (i o : ℕ) (p : Packet) → i < length s.inlets → IsPlanned (inlet_at s i).ring.plan (message_of p)
      → next_place route (inlet_at s i).ring.plan p ≡ Some o → IsPlanned (outlet_at s o).plan (message_of p)

-- Of each port's words at least as many were popped as were offered or are held. Of each flow that passes, what was offered and then what is held is what came, less some; and nothing is missing where all is sound and within the budget.
pub record Forwards (words : Words) (route : Route) (s : LaneState) : Type 0 where
  pub few : (o : ℕ) → length (offered_at s o) + sum_by (held_for words o) s.inlets ≤ popped_for words s o
  pub picks : (f : NetFlow) (i o : ℕ) → Passes route s f i o
      → IsSubsequence (part words f (offered_at s o) ++ part words f (held_words_at s i)) (part words f (came_at s i))
  pub whole : (f : NetFlow) (i o : ℕ) → Passes route s f i o → HasSoundInlets s → popped_for words s o ≤ (outlet_at s o).plan.budget
      → part words f (came_at s i) ≡ part words f (offered_at s o) ++ part words f (held_words_at s i)
