-- The ports and rings of the example meet all that the laws of ports and rings ask for, fresh, halfway and at the end.
use Rattle.std.proofs.Common.{◌≡◌, ◌≤◌, ◌<◌, ◌%◌, inr, lit≤, lit<, ℕ, zero, suc, true, false, [], ◌∷◌, length, refl, sym, ap, ◌∙◌, subst, arith, append-nil}
use Rattle.std.specs.Prelude.{flat_map, not}
use Rattle.std.proofs.lemmas.List.Elements.{All-nil}
use Rattle.sb_link.specs.Ends.{HaveMet}
use Rattle.sb_link.proofs.InTurn.{appended_in_turn, nothing_in_turn}
use Rattle.sb_packet.specs.Accesses.{accesses_of, message_accesses}
use Rattle.sb_packet.specs.Journals.{is_request}
use Rattle.sb_packet.specs.Messages.{message_of, message_span}
use Rattle.sb_link.specs.Plans.{AreWholePages}
use Rattle.sb_link.specs.RingPlans.{AddressRange, AreApart, RingPlan, device_ranges, is_allowed}
use Rattle.sb_link.specs.Prefixes.{IsPrefix}
use Rattle.sb_flow.specs.Rings.{ring_plan}
use Rattle.sb_packet.specs.Cuts.{IsSound}
use Rattle.sb_link.specs.Traffic.{AreInTurn, IsCarriable, item_accesses, item_messages}
use Rattle.sb_packet.specs.declared.item.Item.{Item}
use Rattle.sb_packet.specs.declared.item.Item.TheVariants as items
use Rattle.sb_packet.specs.declared.packet.Packet.{Packet}
use Rattle.sb_port.specs.Ports.{IsFit, IsSendable, offered_words}
use Rattle.sb_port.proofs.Items.{item_accesses-messages}
use Rattle.sb_node.proofs.Answering.{one_of}
use Rattle.sb_device.specs.Served.{AreSound}
use Rattle.sb_laws.specs.Moments.{Moment}
use Rattle.sb_laws.specs.NodeSides.{HasPort, HasRing}
use Rattle.sb_laws.proofs.InTurn.{begins_in_turn, turn_words_are_few}
use Rattle.sb_laws.proofs.Prefixes.{same_prefix}
use Rattle.sb_laws.proofs.ExampleNetwork.{small, asking, answering, write, posted, read, written, read_back}
use Rattle.sb_laws.proofs.ExampleRun.{the_end, end_of_small}
use Rattle.sb_laws.proofs.ExampleHalfway.{halfway, half_of_small}
use Rattle.sb_laws.proofs.ExampleNodes.{fresh, port_in, ring_in}

-- a ring can carry the packets that go there, or those that go back
pub record CarriesRequests (plan : RingPlan) : Type 0 where
  pub write : IsCarriable plan (message_of write)
  pub posted : IsCarriable plan (message_of posted)
  pub read : IsCarriable plan (message_of read)
  pub room : 3 ≤ plan.budget

pub record CarriesAnswers (plan : RingPlan) : Type 0 where
  pub written : IsCarriable plan (message_of written)
  pub read_back : IsCarriable plan (message_of read_back)
  pub room : 2 ≤ plan.budget

plainly : (plan : RingPlan) (p : Packet) → is_request p.cmd.op ≡ not plan.up → is_allowed plan.flows (message_of p) ≡ true → message_span (message_of p) ≤ plan.width → p.cmd.ex ≡ false → IsCarriable plan (message_of p)
plainly plan p direction allowed narrow plain = record { planned = record { direction = direction; allowed = allowed }; narrow = narrow; single = λ e. absurd (let never : true ≡ false = sym e ∙ plain in cc) }

pub from_host : CarriesRequests (ring_plan small 0)
from_host = record {
  write = plainly (ring_plan small 0) write refl refl (lit≤ tt) refl;
  posted = plainly (ring_plan small 0) posted refl refl (lit≤ tt) refl;
  read = plainly (ring_plan small 0) read refl refl (lit≤ tt) refl;
  room = lit≤ tt;
}

to_device : CarriesRequests (ring_plan small 2)
to_device = record {
  write = plainly (ring_plan small 2) write refl refl (lit≤ tt) refl;
  posted = plainly (ring_plan small 2) posted refl refl (lit≤ tt) refl;
  read = plainly (ring_plan small 2) read refl refl (lit≤ tt) refl;
  room = lit≤ tt;
}

from_device : CarriesAnswers (ring_plan small 3)
from_device = record {
  written = plainly (ring_plan small 3) written refl refl (lit≤ tt) refl;
  read_back = plainly (ring_plan small 3) read_back refl refl (lit≤ tt) refl;
  room = lit≤ tt;
}

to_host : CarriesAnswers (ring_plan small 1)
to_host = record {
  written = plainly (ring_plan small 1) written refl refl (lit≤ tt) refl;
  read_back = plainly (ring_plan small 1) read_back refl refl (lit≤ tt) refl;
  room = lit≤ tt;
}

carried_packet : (plan : RingPlan) (q : Packet) → IsCarriable plan (message_of q) → (p : Packet) → items.Packet q ≡ items.Packet p → IsCarriable plan (message_of p)
carried_packet plan q is p e = let same : q ≡ p = cc in subst (λ (x : Packet). IsCarriable plan (message_of x)) same is

-- a ring that is made for a packet of one word may carry it first
pub one_packet : (plan : RingPlan) (p : Packet) → is_request p.cmd.op ≡ not plan.up → is_allowed plan.flows (message_of p) ≡ true → message_span (message_of p) ≤ plan.width → p.cmd.ex ≡ false
    → length (accesses_of p) ≤ plan.budget → AreInTurn plan (items.Packet p ∷ [])
one_packet plan p direction allowed narrow plain room =
    appended_in_turn [] (items.Packet p) nothing_in_turn (record { unclosed = refl; fit = carried_packet plan p (plainly plan p direction allowed narrow plain); room = omega (arith, room) })

one_request : (plan : RingPlan) → CarriesRequests plan → AreInTurn plan (items.Packet write ∷ [])
one_request plan carries = let room = carries.room in appended_in_turn [] (items.Packet write) nothing_in_turn (record { unclosed = refl; fit = carried_packet plan write carries.write; room = omega arith })

all_requests : (plan : RingPlan) → CarriesRequests plan → AreInTurn plan asking
all_requests plan carries =
    let room = carries.room in
    appended_in_turn (items.Packet write ∷ items.Packet posted ∷ items.Packet read ∷ []) items.Close
    (appended_in_turn (items.Packet write ∷ items.Packet posted ∷ []) (items.Packet read)
    (appended_in_turn (items.Packet write ∷ []) (items.Packet posted) (one_request plan carries) (record { unclosed = refl; fit = carried_packet plan posted carries.posted; room = omega arith }))
    (record { unclosed = refl; fit = carried_packet plan read carries.read; room = omega arith }))
    (record { unclosed = refl; fit = λ p e. absurd (cc); room = omega arith })

one_answer : (plan : RingPlan) → CarriesAnswers plan → AreInTurn plan (items.Packet written ∷ [])
one_answer plan carries = let room = carries.room in appended_in_turn [] (items.Packet written) nothing_in_turn (record { unclosed = refl; fit = carried_packet plan written carries.written; room = omega arith })

all_answers : (plan : RingPlan) → CarriesAnswers plan → AreInTurn plan answering
all_answers plan carries =
    let room = carries.room in
    appended_in_turn (items.Packet written ∷ items.Packet read_back ∷ []) items.Close
    (appended_in_turn (items.Packet written ∷ []) (items.Packet read_back) (one_answer plan carries) (record { unclosed = refl; fit = carried_packet plan read_back carries.read_back; room = omega arith }))
    (record { unclosed = refl; fit = λ p e. absurd (cc); room = omega arith })

-- A moment at which each port has sent all that it was offered, with lists that are in turn.
pub record IsSettled (m : Moment) : Type 0 where
  pub offered : (r : ℕ) → m.offered r ≡ item_accesses (m.sent r)
  pub in_order : (r : ℕ) → IsPrefix (m.received r) (m.sent r)
  pub sound : (r : ℕ) → AreSound (m.sent r)
  pub turn : (r : ℕ) → r < 4 → AreInTurn (ring_plan small r) (m.sent r)

pub fresh_is_settled : IsSettled fresh
fresh_is_settled = record { offered = λ r. refl; in_order = λ r. same_prefix refl; sound = λ r. All-nil IsSound; turn = λ r here. nothing_in_turn }

half_turn : (r : ℕ) → r < 4 → AreInTurn (ring_plan small r) (halfway.sent r)
half_turn zero here = all_requests (ring_plan small 0) from_host
half_turn (suc zero) here = nothing_in_turn
half_turn (suc (suc zero)) here = one_request (ring_plan small 2) to_device
half_turn (suc (suc (suc zero))) here = one_answer (ring_plan small 3) from_device
half_turn (suc (suc (suc (suc r)))) here = absurd (omega arith)

pub halfway_is_settled : IsSettled halfway
halfway_is_settled = record { offered = λ r. refl; in_order = λ r. (half_of_small.links r).in_order; sound = λ r. (half_of_small.ports r).sound; turn = half_turn }

end_turn : (r : ℕ) → r < 4 → AreInTurn (ring_plan small r) (the_end.sent r)
end_turn zero here = all_requests (ring_plan small 0) from_host
end_turn (suc zero) here = all_answers (ring_plan small 1) to_host
end_turn (suc (suc zero)) here = all_requests (ring_plan small 2) to_device
end_turn (suc (suc (suc zero))) here = all_answers (ring_plan small 3) from_device
end_turn (suc (suc (suc (suc r)))) here = absurd (omega arith)

pub end_is_settled : IsSettled the_end
end_is_settled = record { offered = λ r. refl; in_order = λ r. (end_of_small.links r).in_order; sound = λ r. (end_of_small.ports r).sound; turn = end_turn }

-- The rings are as wide as packets, have places, and no great budget.
pub record IsSmallRing (plan : RingPlan) : Type 0 where
  pub width : plan.width ≡ 32
  pub limit : plan.budget ≤ 262144
  pub places : 0 < plan.capacity

pub small_ring : (r : ℕ) → r < 4 → IsSmallRing (ring_plan small r)
small_ring zero here = record { width = refl; limit = lit≤ tt; places = lit< tt }
small_ring (suc zero) here = record { width = refl; limit = lit≤ tt; places = lit< tt }
small_ring (suc (suc zero)) here = record { width = refl; limit = lit≤ tt; places = lit< tt }
small_ring (suc (suc (suc zero))) here = record { width = refl; limit = lit≤ tt; places = lit< tt }
small_ring (suc (suc (suc (suc r)))) here = absurd (omega arith)

-- the one device lies in a page
pub small_apart : (r : ℕ) → AreApart (device_ranges (ring_plan small r).flows)
small_apart r i j none below high = let alone : j < 1 = high in absurd (omega (arith, below, alone))

pub small_paged : (r : ℕ) → AreWholePages (device_ranges (ring_plan small r).flows)
small_paged r = one_of (λ (range : AddressRange). (range.base % 4096 ≡ 0) × (range.bytes % 4096 ≡ 0)) (record { base = 65536; bytes = 4096 }) (refl, refl)

module _ (m : Moment) (settled : IsSettled m) (r : ℕ) where
  settled_words : item_accesses (m.sent r) ≡ offered_words (port_in m r)
  settled_words = item_accesses-messages (m.sent r) ∙ ap (flat_map message_accesses) (sym (append-nil (item_messages (m.sent r))))

  pub has_port : HasPort m r (port_in m r)
  has_port = record { sent = refl; offered = settled.offered r ∙ settled_words }

  pub has_ring : HasRing m r (ring_in m r)
  has_ring = record { received = refl }

  -- its two ends have met
  pub have_met : HaveMet (m.sent r) (length (m.received r)) (m.received r) (length (m.sent r))
  have_met = record { in_order = settled.in_order r; told_producer = omega arith; told_consumer = omega arith }

  module _ (here : r < 4) where
    -- and its port is fit
    pub is_fit : IsFit (ring_plan small r) (port_in m r).state
    is_fit = record {
      width = sym (small_ring r here).width;
      wide = inr (inr (small_ring r here).width);
      limit = (small_ring r here).limit;
      apart = small_apart r;
      paged = small_paged r;
      close = refl;
      told = λ e. e;
      none_owed = λ e. refl;
      none_held = λ e. refl;
      in_turn = settled.turn r here;
      sound = settled.sound r;
      owed = All-nil (IsSendable (ring_plan small r));
      held = All-nil (IsSendable (ring_plan small r));
      counted = ap length settled_words;
      room = turn_words_are_few (ring_plan small r) (m.sent r) (settled.turn r here);
    }

    pub received_in_turn : AreInTurn (ring_plan small r) (m.received r)
    received_in_turn = begins_in_turn (ring_plan small r) (m.received r) (m.sent r) (settled.in_order r) (settled.turn r here)
