-- Which items may go over a ring, one after another. This project's own.
use Rattle.std.specs.Prelude.{◌≡◌, ℕ, ◌+◌, ◌≤◌, Bool, true, false, not, ◌||◌, List, [], ◌∷◌, ◌++◌, length, flat_map}
use Rattle.std.proofs.Common.{List, ◌∷◌, ◌++◌, ap, ◌∙◌, append_assoc}
use Rattle.sb_packet.specs.Messages.{Message, message_of, message_span}
use Rattle.sb_packet.specs.Accesses.{Access, accesses_of_item}
use Rattle.sb_packet.specs.Journals.{is_request}
use Rattle.sb_packet.specs.Cuts.{IsSound}
use Rattle.sb_link.specs.RingPlans.{RingPlan, is_allowed}
use Rattle.sb_packet.specs.declared.packet.Packet.{Packet}
use Rattle.sb_packet.specs.declared.item.Item.{Item}
use Rattle.sb_packet.specs.declared.item.Item.TheVariants as items

-- the words of items, in order; a Close has none
abbrev pub item_accesses : List Item → List Access
item_accesses list = flat_map accesses_of_item list

-- an item ends a ring's traffic
abbrev pub is_close : Item → Bool
is_close (items.Packet p) = false
is_close items.Close = true

-- a Close stands among the items
abbrev pub has_close : List Item → Bool
has_close [] = false
has_close (item ∷ rest) = is_close item || has_close rest

-- the messages of items, in order; a Close says nothing
abbrev pub item_messages : List Item → List Message
item_messages [] = []
item_messages (items.Packet p ∷ rest) = message_of p ∷ item_messages rest
item_messages (items.Close ∷ rest) = item_messages rest

-- a ring is made for such a message: it goes the ring's way, and is of one of the ring's flows
pub record IsPlanned (plan : RingPlan) (m : Message) : Type 0 where
  pub direction : is_request m.op ≡ not plan.up
  pub allowed : is_allowed plan.flows m ≡ true

-- a ring can carry such a message: it is narrow enough besides, and an exclusive access is to one word
pub record IsCarriable (plan : RingPlan) (m : Message) : Type 0 where
  pub planned : IsPlanned plan m
  pub narrow : message_span m ≤ plan.width
  pub single : m.ex ≡ true → m.count ≡ 1

-- An item may follow those that were sent: none of them is a Close, the ring can carry it where it is a packet, and the words in all are within the budget.
pub record MayFollow (plan : RingPlan) (sent : List Item) (item : Item) : Type 0 where
  pub unclosed : has_close sent ≡ false
  pub fit : (p : Packet) → item ≡ items.Packet p → IsCarriable plan (message_of p)
  pub room : length (item_accesses sent) + length (accesses_of_item item) ≤ plan.budget

-- Each of the items may follow those before it.
abbrev pub AreInTurn : RingPlan → List Item → Type 0
AreInTurn plan list = (before after : List Item) (item : Item) → list ≡ before ++ item ∷ after → MayFollow plan before item

-- A message may be handed on over a ring, behind so many words: it is sound, the ring is made for it, and the words are within the budget.
pub record MayPass (plan : RingPlan) (words : ℕ) (m : Message) : Type 0 where
  pub sound : IsSound m
  pub planned : IsPlanned plan m
  pub room : words + m.count ≤ plan.budget

-- That a list is in turn holds of its front, too.

-- of a list in turn the front is in turn
pub front_in_turn : {plan : RingPlan} (front rest : List Item) → AreInTurn plan (front ++ rest) → AreInTurn plan front
front_in_turn front rest in_turn before after item cut =
    in_turn before (after ++ rest) item (ap (λ (list : List Item). list ++ rest) cut ∙ append_assoc before (item ∷ after) rest)
