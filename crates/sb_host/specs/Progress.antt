-- A host's transactions: what it asks for, how far it has come with its packets, and what was answered.
use Rattle.std.specs.Prelude.{ℕ, ◌≡◌, ◌≤◌, ◌<◌, ◌++◌, List, drop, length, flat_map, All, false, slice_index_or, Bool, true}
use Rattle.sb_packet.specs.Accesses.{Access, message_accesses}
use Rattle.sb_packet.specs.Messages.{Message}
use Rattle.sb_link.specs.RingPlans.{RingPlan}
use Rattle.sb_link.specs.Traffic.{IsPlanned}
use Rattle.sb_host.specs.declared.transaction_plan.TransactionPlan.{TransactionPlan}
use Rattle.sb_host.specs.Asked.{Asked, asked_accesses, asked_packets, packets_from, sent_packets}
use Rattle.sb_host.specs.declared.answer_row.AnswerRow.{AnswerRow}

-- How far a host has come with its packets.

-- the packets that are left to be offered: those of transaction `next` from packet `part` on, and those of all behind it
abbrev pub packets_left : Asked → ℕ → ℕ → List Message
packets_left asked next part = drop part (packets_from asked next (drop next asked.lines))

-- a host has come to packet `part` of transaction `next`, or to the end of its script
pub record HasComeTo (asked : Asked) (next part : ℕ) : Type 0 where
  pub within : next ≤ length asked.lines
  pub begun : 0 < part → (d : TransactionPlan)
      → (next < length asked.lines) × (part < length (sent_packets asked next (slice_index_or asked.lines next d)))

-- a host has passed over transactions that are aimed at no device
pub record HasPassedOver (asked : Asked) (before after : ℕ) : Type 0 where
  pub onward : before ≤ after
  pub within : after ≤ length asked.lines
  pub unaimed : (i : ℕ) (d : TransactionPlan) → before ≤ i → i < after → (slice_index_or asked.lines i d).aimed ≡ false

-- A host has offered these words: with those of the packets that are left, they are all its words.
abbrev pub HasOffered : Asked → ℕ → ℕ → List Access → Type 0
HasOffered asked next part offered = offered ++ flat_map message_accesses (packets_left asked next part) ≡ asked_accesses asked

-- A ring is made for a host: for each of its packets, and for all its words.
pub record IsMadeFor (plan : RingPlan) (asked : Asked) : Type 0 where
  pub planned : All (IsPlanned plan) (asked_packets asked)
  pub room : length (asked_accesses asked) ≤ plan.budget

-- a host's transactions, as rounds see them
pub record TransactionsSide : Type 0 where
  pub asked : Asked
  -- the answers that are kept, a row for each transaction
  pub rows : List AnswerRow
  -- the packet that is offered next: its transaction, and its place there
  pub next : ℕ
  pub part : ℕ
  -- the ring of answers gave Close
  pub ended : Bool

-- The packets that are left to be offered, in order.
abbrev pub left_of : TransactionsSide → List Message
left_of t = packets_left t.asked t.next t.part

-- The next transaction, where one is left, is aimed at a device: those that are aimed at none were passed over.
abbrev pub IsNextAimed : TransactionsSide → Type 0
IsNextAimed t = (d : TransactionPlan) → t.next < length t.asked.lines → (slice_index_or t.asked.lines t.next d).aimed ≡ true
