-- What a port is to contracts, and when it is fit: what it says of itself is true of its end.
use Rattle.std.specs.Prelude.{◌≡◌, ℕ, ◌≤◌, Bool, true, false, not, ◌&&◌, ◌||◌, List, [], ◌++◌, length, flat_map, All, None}
use Rattle.sb_packet.specs.Accesses.{Access, message_accesses}
use Rattle.sb_packet.specs.Messages.{Message}
use Rattle.sb_link.specs.RingPlans.{RingPlan, AreApart, device_ranges}
use Rattle.sb_link.specs.Plans.{AreWholePages}
use Rattle.sb_link.specs.Traffic.{AreInTurn, IsPlanned, has_close, item_messages}
use Rattle.sb_packet.specs.Cuts.{IsSound, IsFine}
use Rattle.sb_packet.specs.declared.item.Item.{Item}
use Rattle.sb_link.specs.Ends.{Mark}
use Rattle.sb_link.specs.declared.ends.TxEnd as tx
use Rattle.sb_cut.specs.Folds.{listed}
use Rattle.sb_port.specs.Waiting.{Waiting, IsWidth, nothing_waits, some_owed}

-- what a port goes by
pub record PortState : Type 0 where
  -- what was sent over its ring
  pub sent : List Item
  -- what it has to send
  pub waiting : Waiting
  -- it was told to close
  pub close_requested : Bool
  -- it sent the Close
  pub close_sent : Bool
  -- how many words it was offered in all
  pub words_offered : ℕ

-- A port, with what its end knows.
pub record PortSide : Type 0 where
  pub plan : RingPlan
  pub mark : Mark
  -- the items that are published: the other end of the ring can learn of them
  pub published : List Item
  -- how many items it has learnt to have been taken
  pub taken : ℕ
  -- what was sent, what is to be sent, and whether it was told to close
  pub state : PortState

-- a port over an end at which nothing was sent
abbrev pub fresh_port : {T : Type 0} → tx.Ghosts T → T → PortSide
fresh_port sending end = record {
  plan = sending.planned end;
  mark = sending.mark end;
  published = sending.published end;
  taken = sending.taken end;
  state = record { sent = []; waiting = nothing_waits (sending.planned end).width; close_requested = false; close_sent = false; words_offered = 0 };
}

-- the same port over this end, which has met the other one
abbrev pub with_end : {T : Type 0} → tx.Ghosts T → PortSide → T → PortSide
with_end sending port end = record {
  plan = sending.planned end;
  mark = sending.mark end;
  published = sending.published end;
  taken = sending.taken end;
  state = record port.state { sent = sending.sent end };
}

-- the messages that were sent, then those that are owed, then the one that is held
abbrev pub port_messages : PortState → List Message
port_messages s = item_messages s.sent ++ (s.waiting.owed ++ listed s.waiting.held)

-- The words that a port was offered, in order: those sent, then those owed, then those held.
abbrev pub port_accesses : PortState → List Access
port_accesses s = flat_map message_accesses (port_messages s)

-- the words that a port was offered so far
abbrev pub offered_words : PortSide → List Access
offered_words port = port_accesses port.state

-- the messages that were let go: sent, or to be sent next
abbrev pub let_go : PortState → List Message
let_go s = item_messages s.sent ++ s.waiting.owed

-- The port owes an item: a message, or the Close that it was told to send.
abbrev pub owes : PortState → Bool
owes s = some_owed s.waiting || (s.close_requested && not s.close_sent)

-- a message that this port may send
pub record IsSendable (plan : RingPlan) (m : Message) : Type 0 where
  pub fine : IsFine plan.width m
  pub planned : IsPlanned plan m

-- What a port says of itself is true of its end, and all that it has to send can be sent, in order.
pub record IsFit (plan : RingPlan) (s : PortState) : Type 0 where
  pub width : s.waiting.width ≡ plan.width
  pub wide : IsWidth plan.width
  pub limit : plan.budget ≤ 262144
  -- the ring's plan has ranges of devices that are whole pages, apart from one another
  pub apart : AreApart (device_ranges plan.flows)
  pub paged : AreWholePages (device_ranges plan.flows)
  -- it knows whether it sent the Close, which it sends when it was told to and has nothing else to send
  pub close : s.close_sent ≡ has_close s.sent
  pub told : s.close_sent ≡ true → s.close_requested ≡ true
  pub none_owed : s.close_sent ≡ true → s.waiting.owed ≡ []
  pub none_held : s.close_sent ≡ true → s.waiting.held ≡ None
  -- what was sent may go over the ring in this order; all of it was sound, and all that waits may be sent
  pub in_turn : AreInTurn plan s.sent
  pub sound : All IsSound (item_messages s.sent)
  pub owed : All (IsSendable plan) s.waiting.owed
  pub held : All (IsSendable plan) (listed s.waiting.held)
  -- the words in all are counted, and within the ring's budget
  pub counted : s.words_offered ≡ length (port_accesses s)
  pub room : s.words_offered ≤ plan.budget
