-- What a turn of a port does.
use Rattle.std.specs.Prelude.{◌≡◌, ◌≢◌, ℕ, ◌+◌, ◌⊎◌, Bool, true, false, [], ◌∷◌, ◌++◌, length, drop, None}
use Rattle.sb_packet.specs.Messages.{message_of}
use Rattle.sb_packet.specs.declared.packet.Packet.{Packet}
use Rattle.sb_packet.specs.declared.item.Item.TheVariants as items
use Rattle.sb_port.specs.Waiting.{released}
use Rattle.sb_port.specs.Ports.{PortSide, PortState, owes}
use Rattle.sb_port.specs.declared.port_turn.PortTurn.{PortTurn}
use Rattle.sb_port.specs.declared.port_turn.PortTurn.TheVariants as turns

-- the first message that was owed is sent, and no other changes
pub record SendsFirst (before after : PortState) : Type 0 where
  pub packet : Packet
  pub first : before.waiting.owed ≡ message_of packet ∷ drop 1 before.waiting.owed
  pub state : after ≡ record before { sent = before.sent ++ items.Packet packet ∷ []; waiting = record before.waiting { owed = drop 1 before.waiting.owed } }

-- the Close that the port was told to send is sent, behind all else
pub record SendsClose (before after : PortState) : Type 0 where
  pub none_owed : before.waiting.owed ≡ []
  pub none_held : before.waiting.held ≡ None
  pub told : before.close_requested ≡ true
  pub unsent : before.close_sent ≡ false
  pub state : after ≡ record before { sent = before.sent ++ items.Close ∷ []; close_sent = true }

-- what was held is owed from now on, since the ring is full by the count of taken items that the port's end knows
pub record IsReleased (before after : PortSide) : Type 0 where
  pub state : after.state ≡ record before.state { waiting = released before.state.waiting }
  pub full : length before.state.sent ≡ after.taken + before.plan.capacity

-- nothing was owed, and what was held is sent, or owed from now on where the ring is full: no more was announced, or the port was told to close
pub record LetsGo (more : Bool) (before after : PortSide) : Type 0 where
  pub none_owed : before.state.waiting.owed ≡ []
  pub some_held : before.state.waiting.held ≢ None
  pub cause : (more ≡ false) ⊎ (before.state.close_requested ≡ true)
  pub state : IsReleased before after ⊎ SendsFirst (record before.state { waiting = released before.state.waiting }) after.state

-- an item was owed, the ring is full by the count of taken items that the port's end knows, and nothing changes
pub record IsBlocked (before after : PortSide) (told_sent told_taken : ℕ) : Type 0 where
  pub owed : owes before.state ≡ true
  pub sent : told_sent ≡ length before.state.sent
  pub taken : told_taken ≡ after.taken
  pub full : told_sent ≡ told_taken + before.plan.capacity
  pub state : after.state ≡ before.state

-- nothing was owed, and nothing held is due; nothing changes
pub record IsAtRest (more : Bool) (before after : PortState) : Type 0 where
  pub none_owed : owes before ≡ false
  pub not_due : (before.waiting.held ≡ None) ⊎ ((more ≡ true) × (before.close_requested ≡ false))
  pub state : after ≡ before

-- What a turn answers, from the port before it to the port after it.
abbrev pub Turned : Bool → PortSide → PortSide → PortTurn → Type 0
Turned more before after turns.Moved = SendsFirst before.state after.state ⊎ (LetsGo more before after ⊎ SendsClose before.state after.state)
Turned more before after (turns.Full told_sent told_taken) = IsBlocked before after told_sent told_taken
Turned more before after turns.Clear = IsAtRest more before.state after.state

-- what a try to send the first message does
abbrev pub TriesFirst : PortSide → PortSide → PortTurn → Type 0
TriesFirst before after turns.Moved = SendsFirst before.state after.state
TriesFirst before after (turns.Full told_sent told_taken) = IsBlocked before after told_sent told_taken
TriesFirst before after turns.Clear = ⊥

-- what a try to send the Close does
abbrev pub TriesClose : PortSide → PortSide → PortTurn → Type 0
TriesClose before after turns.Moved = SendsClose before.state after.state
TriesClose before after (turns.Full told_sent told_taken) = IsBlocked before after told_sent told_taken
TriesClose before after turns.Clear = (owes before.state ≡ false) × (after.state ≡ before.state)
