-- What one turn of a port, or one pop, does to a node's side of it, and what the node finds by it.
use Rattle.std.specs.Prelude.{ℕ, ◌≡◌, ◌≤◌, ◌<◌, ◌+◌, ◌⊎◌, Bool, true, false, ◌∷◌, [], ◌++◌, length, Option, None, Some}
use Rattle.sb_link.specs.declared.answers.Cause.TheVariants as causes
use Rattle.sb_packet.specs.Accesses.{accesses_of}
use Rattle.sb_packet.specs.Messages.{message_of}
use Rattle.sb_link.specs.Traffic.{MayFollow, MayPass}
use Rattle.sb_packet.specs.declared.packet.Packet.{Packet}
use Rattle.sb_packet.specs.declared.item.Item.{Item}
use Rattle.sb_port.specs.Ports.{PortSide, offered_words, owes}
use Rattle.sb_node.specs.Sides.{RingSide, has_rest, is_full, is_drained, port_moves}
use Rattle.sb_node.specs.Found.{or_else}
use Rattle.sb_node.specs.declared.findings.Findings.{Findings}

-- how many items a turn takes of a ring at most, and sends by a port
abbrev pub items_a_turn : ℕ
items_a_turn = 1

-- a port sent an item, or let go what it held: the node moved
pub record HasPortMoved (before after : PortSide) (found found_then : Findings) : Type 0 where
  pub more : port_moves before < port_moves after
  pub found_move : found_then ≡ record found { moved = true }

-- a port that has something left to send found its ring full
pub record IsPortFull (before after : PortSide) (found found_then : Findings) : Type 0 where
  pub same : after.state ≡ before.state
  pub rest : has_rest after ≡ true
  pub full : is_full after ≡ true
  pub found_full : found_then ≡ record found { full = or_else found.full (causes.Full after.plan.ring (length after.state.sent) after.taken) }

-- a port owes an item, and its ring is full
pub record IsBlockedPort (port : PortSide) : Type 0 where
  pub owing : owes port.state ≡ true
  pub full : is_full port ≡ true

-- a port had nothing to send: nothing at all, or what it holds waits for more
pub record IsPortClear (more : Bool) (before after : PortSide) (found found_then : Findings) : Type 0 where
  pub same : after.state ≡ before.state
  pub ready : owes after.state ≡ false
  pub rest : more ≡ false → has_rest after ≡ false
  pub found_nothing : found_then ≡ found

-- A port took its turn.
abbrev pub IsPortTurned : Bool → PortSide → PortSide → Findings → Findings → Type 0
IsPortTurned more before after found found_then =
    HasPortMoved before after found found_then ⊎ (IsPortFull before after found found_then ⊎ IsPortClear more before after found found_then)

-- A port was served: it sent at most so many items as a turn sends, and just as many unless it owes nothing then or its ring is full.
pub record IsPortServed (before after : PortSide) : Type 0 where
  pub few : length after.state.sent ≤ length before.state.sent + items_a_turn
  pub served : (length after.state.sent ≡ length before.state.sent + items_a_turn) ⊎ ((owes after.state ≡ false) ⊎ (is_full after ≡ true))

-- an item was popped
pub record IsItemPopped (before after : RingSide) (item : Item) (found found_then : Findings) : Type 0 where
  pub lawful : MayFollow before.plan before.received item
  pub received : after.received ≡ before.received ++ item ∷ []
  pub found_move : found_then ≡ record found { moved = true }

-- an item was popped, whichever it was: the node moved
pub record HasPopped (before after : RingSide) (found found_then : Findings) : Type 0 where
  pub one : length after.received ≡ length before.received + 1
  pub found_move : found_then ≡ record found { moved = true }

-- a ring was found empty
pub record IsRingEmpty (before after : RingSide) (found found_then : Findings) : Type 0 where
  pub same : after.received ≡ before.received
  pub drained : is_drained after ≡ true
  pub found_empty : found_then ≡ record found { empty = or_else found.empty (causes.Empty after.plan.ring (length after.received) after.known) }

-- At most so many items came by a ring as a turn takes.
abbrev pub HasFewMore : RingSide → RingSide → Type 0
HasFewMore before after = length after.received ≤ length before.received + items_a_turn

-- A ring was served: it gave just so many items as a turn takes, or was found empty.
abbrev pub IsRingServed : RingSide → RingSide → Type 0
IsRingServed before after = (length after.received ≡ length before.received + items_a_turn) ⊎ (is_drained after ≡ true)

-- A ring was popped.
abbrev pub IsRingPopped : RingSide → RingSide → Option Item → Findings → Findings → Type 0
IsRingPopped before after (Some item) found found_then = IsItemPopped before after item found found_then
IsRingPopped before after None found found_then = IsRingEmpty before after found found_then

-- a packet passed, and a port was offered it: it has something left to send now, which it owes, or holds for merging
pub record IsOffered (before after : PortSide) (packet : Packet) : Type 0 where
  pub passes : MayPass before.plan (length (offered_words before)) (message_of packet)
  pub words : offered_words after ≡ offered_words before ++ accesses_of packet
  pub sent : after.state.sent ≡ before.state.sent
  pub rest : has_rest after ≡ true

-- a packet didn't pass, and was dropped
pub record IsDropped (before after : PortSide) (packet : Packet) : Type 0 where
  pub fails : MayPass before.plan (length (offered_words before)) (message_of packet) → ⊥
  pub same : after ≡ before

-- A packet was handed on to a port: it was offered where it passes, and dropped elsewhere.
abbrev pub IsHandedOn : PortSide → PortSide → Packet → Type 0
IsHandedOn before after packet = IsOffered before after packet ⊎ IsDropped before after packet
