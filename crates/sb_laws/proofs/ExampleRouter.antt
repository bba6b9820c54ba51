-- The example's router, fresh, halfway and at the end: each direction is built for the network, whole, and has forwarded what came.
use Rattle.std.proofs.Common.{◌≡◌, ◌≤◌, ◌<◌, ◌+◌, lit<, ℕ, zero, suc, Bool, true, false, true≢false, List, [], ◌∷◌, ◌++◌, length, refl, sym, ap, ◌∙◌, subst, arith, Some, None}
use Rattle.std.specs.Prelude.{All, Option, drop, slice_index_or, sum_by}
use Rattle.std.proofs.lemmas.List.Elements.{filter-append}
use Rattle.sb_packet.specs.Accesses.{Access}
use Rattle.sb_packet.specs.Messages.{message_of}
use Rattle.sb_link.specs.RingPlans.{NetFlow, goes_through}
use Rattle.sb_link.specs.Prefixes.{IsSubsequence}
use Rattle.sb_flow.specs.Rings.{flow_table, ring_plan, ring_ways}
use Rattle.sb_link.specs.Traffic.{IsCarriable, has_close}
use Rattle.sb_packet.specs.declared.item.Item.TheVariants as items
use Rattle.sb_packet.specs.declared.packet.Packet.{Packet}
use Rattle.sb_link.proofs.Truths.{none_set, none_in_row}
use Rattle.sb_port.specs.Ports.{offered_words}
use Rattle.sb_node.specs.Sides.{received_words}
use Rattle.sb_node.proofs.Subsequences.{same_subsequence}
use Rattle.sb_node.proofs.Answering.{one_of}
use Rattle.sb_router.specs.Forwarding.{Forwards, IsLast, IsWholeInlet, IsWholeOutlet, Passes, Words, held_for, part, popped_for}
use Rattle.sb_router.specs.Lanes.{InletState, came_at, held_words_at, held_words, offered_at, outlet_at}
use Rattle.sb_router.specs.Ways.{route_of}
use Rattle.sb_router.specs.Routers.{DirectionSide, IsWholeDirection}
use Rattle.sb_router.specs.Steps.{IsSilent}
use Rattle.sb_laws.specs.Moments.{Moment}
use Rattle.sb_laws.specs.RouterSides.{HasInlet, HasLane, IsBuiltFor, LeadsByPlans, answer_ins, answer_outs, request_ins, request_outs}
use Rattle.sb_laws.specs.NodeSides.{HasPort}
use Rattle.sb_laws.proofs.ExampleNetwork.{small, posted, write}
use Rattle.sb_laws.proofs.ExampleRun.{the_end}
use Rattle.sb_laws.proofs.ExampleHalfway.{halfway}
use Rattle.sb_laws.proofs.ExampleNodes.{fresh, port_in, ring_in}
use Rattle.sb_laws.proofs.ExamplePorts.{IsSettled, from_host, has_port, has_ring, is_fit}

-- both tables send the one flow to the one place
abbrev pub small_rows : List (List (Option ℕ))
small_rows = (Some 0 ∷ []) ∷ []

-- the end of a ring that comes in, with a packet of it that is held or none
abbrev pub inlet_in : Moment → ℕ → Option Packet → InletState
inlet_in m r held = record { ring = ring_in m r; ended = has_close (m.received r); held = held }

-- a direction at a moment, by the rings that come in and go out: 0 and 2 for requests, 3 and 1 for answers
abbrev pub direction_in : Moment → ℕ → ℕ → Option Packet → DirectionSide
direction_in m r q held = record { rows = small_rows; lane = record { inlets = inlet_in m r held ∷ []; outlets = port_in m q ∷ [] } }

-- only the one flow is led, to place 0
pub within : (f : NetFlow) (o : ℕ) → route_of small_rows f ≡ Some o → o < 1
within f o e = by_place f.host f.device e
  where
    by_place : (h d : ℕ) → slice_index_or (slice_index_or small_rows h []) d None ≡ Some o → o < 1
    by_place zero zero p = let same : 0 ≡ o = cc in omega arith
    by_place zero (suc d) p = absurd (cc)
    by_place (suc h) d p = absurd (cc)

-- which flows go over the rings: over each the one flow
abbrev pub small_table : List (List Bool)
small_table = flow_table (ring_ways small 2)

led_on : (h d : ℕ) → slice_index_or (slice_index_or small_table h []) d false ≡ true → slice_index_or (slice_index_or small_rows h []) d None ≡ Some 0
led_on zero zero e = refl
led_on zero (suc d) e = absurd (true≢false (sym e ∙ none_set (drop 1 (slice_index_or small_table 0 [])) d refl))
led_on (suc h) d e = absurd (true≢false (sym e ∙ none_set (slice_index_or (drop 1 small_table) h []) d (none_in_row (drop 1 small_table) h refl)))

leads_on : (h d o : ℕ) → slice_index_or (slice_index_or small_rows h []) d None ≡ Some o → (o ≡ 0) × (slice_index_or (slice_index_or small_table h []) d false ≡ true)
leads_on zero zero o e = (let same : 0 ≡ o = cc in sym same, refl)
leads_on zero (suc d) o e = absurd (cc)
leads_on (suc h) d o e = absurd (cc)

requests_are_led : (m : Moment) (held : Option Packet) → LeadsByPlans (direction_in m 0 2 held)
requests_are_led m held = record { within = within; leads = λ f o host device e. leads f o (leads_on f.host f.device o e); led = λ f o inside through. led f o inside through }
  where
    leads : (f : NetFlow) (o : ℕ) → (o ≡ 0) × (slice_index_or (slice_index_or small_table f.host []) f.device false ≡ true) → goes_through (outlet_at (direction_in m 0 2 held).lane o).plan.flows f ≡ true
    leads f zero found = found.1
    leads f (suc o) found = absurd (cc)

    led : (f : NetFlow) (o : ℕ) → o < 1 → goes_through (outlet_at (direction_in m 0 2 held).lane o).plan.flows f ≡ true → route_of small_rows f ≡ Some o
    led f zero inside through = led_on f.host f.device through
    led f (suc o) inside through = absurd (omega arith)

answers_are_led : (m : Moment) (held : Option Packet) → LeadsByPlans (direction_in m 3 1 held)
answers_are_led m held = record { within = within; leads = λ f o host device e. leads f o (leads_on f.host f.device o e); led = λ f o inside through. led f o inside through }
  where
    leads : (f : NetFlow) (o : ℕ) → (o ≡ 0) × (slice_index_or (slice_index_or small_table f.host []) f.device false ≡ true) → goes_through (outlet_at (direction_in m 3 1 held).lane o).plan.flows f ≡ true
    leads f zero found = found.1
    leads f (suc o) found = absurd (cc)

    led : (f : NetFlow) (o : ℕ) → o < 1 → goes_through (outlet_at (direction_in m 3 1 held).lane o).plan.flows f ≡ true → route_of small_rows f ≡ Some o
    led f zero inside through = led_on f.host f.device through
    led f (suc o) inside through = absurd (omega arith)

-- Each direction is built for the network, whatever it has done.
pub requests_are_built : (m : Moment) (held : Option Packet) → IsBuiltFor small (request_ins small 0) (request_outs small 0) (direction_in m 0 2 held)
requests_are_built m held = record {
  comes_by = refl;
  sends_by = refl;
  in_plans = one_of (λ x. x.ring.plan ≡ ring_plan small x.ring.plan.ring) (inlet_in m 0 held) refl;
  out_plans = one_of (λ y. y.plan ≡ ring_plan small y.plan.ring) (port_in m 2) refl;
  table = requests_are_led m held;
}

pub answers_are_built : (m : Moment) (held : Option Packet) → IsBuiltFor small (answer_ins small 0) (answer_outs small 0) (direction_in m 3 1 held)
answers_are_built m held = record {
  comes_by = refl;
  sends_by = refl;
  in_plans = one_of (λ x. x.ring.plan ≡ ring_plan small x.ring.plan.ring) (inlet_in m 3 held) refl;
  out_plans = one_of (λ y. y.plan ≡ ring_plan small y.plan.ring) (port_in m 1) refl;
  table = answers_are_led m held;
}

-- All that came by ring r went on to ring q, but for what is held: the last packet that came, or none. The Close went on last.
pub record HasPassed (m : Moment) (r q : ℕ) (held : Option Packet) : Type 0 where
  pub came_in : r < 4
  pub goes_on : q < 4
  pub keeps : m.held r ≡ held_words held
  pub last : (p : Packet) → held ≡ Some p → IsLast p (m.received r)
  pub carriable : (p : Packet) → held ≡ Some p → IsCarriable (ring_plan small r) (message_of p)
  pub closed : has_close (m.sent q) ≡ true → IsSilent (inlet_in m r held)
  pub all : received_words (ring_in m r) ≡ offered_words (port_in m q) ++ held_words held

module _ (m : Moment) (settled : IsSettled m) (r q : ℕ) (held : Option Packet) (passed : HasPassed m r q held) where
  pub direction_is_whole : IsWholeDirection (direction_in m r q held)
  direction_is_whole = record {
    inlets = one_of IsWholeInlet (inlet_in m r held) (record { ended = refl; last = passed.last; carriable = passed.carriable });
    outlets = one_of IsWholeOutlet (port_in m q) (record { fit = is_fit m settled q passed.goes_on });
    silent = silent;
    routed = within;
  }
    where
      silent : (o : ℕ) → o < 1 → (outlet_at (direction_in m r q held).lane o).state.close_requested ≡ true → All IsSilent (inlet_in m r held ∷ [])
      silent zero inside told = one_of IsSilent (inlet_in m r held) (passed.closed told)
      silent (suc o) inside told = absurd (omega arith)

  pub has_lane : HasLane m (direction_in m r q held).lane
  has_lane = record {
    inlets = one_of (HasInlet m) (inlet_in m r held) (record { ring = has_ring m settled r; held = passed.keeps });
    outlets = one_of (λ y. HasPort m y.plan.ring y) (port_in m q) (has_port m settled q);
  }

  -- of each flow all is there, whichever words are the flow's
  pub all_parts : (words : Words) (f : NetFlow) (i o : ℕ) → Passes (route_of small_rows) (direction_in m r q held).lane f i o
      → part words f (came_at (direction_in m r q held).lane i) ≡ part words f (offered_at (direction_in m r q held).lane o) ++ part words f (held_words_at (direction_in m r q held).lane i)
  all_parts words f zero zero passes = ap (part words f) passed.all ∙ filter-append (words.is_of f) (offered_words (port_in m q)) (held_words held)
  all_parts words f zero (suc o) passes = absurd (let inside = passes.outlet in omega arith)
  all_parts words f (suc i) o passes = absurd (let inside = passes.inlet in omega arith)

  pub direction_forwards : (words : Words)
      → ((o : ℕ) → length (offered_at (direction_in m r q held).lane o) + sum_by (held_for words o) (inlet_in m r held ∷ []) ≤ popped_for words (direction_in m r q held).lane o)
      → Forwards words (route_of small_rows) (direction_in m r q held).lane
  direction_forwards words few = record {
    few = few;
    picks = λ f i o passes. subst (λ (l : List Access). IsSubsequence l (part words f (came_at (direction_in m r q held).lane i))) (all_parts words f i o passes) (same_subsequence (part words f (came_at (direction_in m r q held).lane i)));
    whole = λ f i o passes sound room. all_parts words f i o passes;
  }

-- nothing came, or two requests of which the second is held, or all
pub fresh_requests : HasPassed fresh 0 2 None
fresh_requests = record { came_in = lit< tt; goes_on = lit< tt; keeps = refl; last = λ p e. absurd (cc); carriable = λ p e. absurd (cc); closed = λ e. absurd (cc); all = refl }

pub fresh_answers : HasPassed fresh 3 1 None
fresh_answers = record { came_in = lit< tt; goes_on = lit< tt; keeps = refl; last = λ p e. absurd (cc); carriable = λ p e. absurd (cc); closed = λ e. absurd (cc); all = refl }

pub halfway_requests : HasPassed halfway 0 2 (Some posted)
halfway_requests = record {
  came_in = lit< tt;
  goes_on = lit< tt;
  keeps = refl;
  last = λ p e. (let same : posted ≡ p = cc in subst (λ (x : Packet). IsLast x (halfway.received 0)) same (record { before = items.Packet write ∷ []; joined = refl }));
  carriable = λ p e. (let same : posted ≡ p = cc in subst (λ (x : Packet). IsCarriable (ring_plan small 0) (message_of x)) same from_host.posted);
  closed = λ e. absurd (cc);
  all = refl;
}

pub halfway_answers : HasPassed halfway 3 1 None
halfway_answers = record { came_in = lit< tt; goes_on = lit< tt; keeps = refl; last = λ p e. absurd (cc); carriable = λ p e. absurd (cc); closed = λ e. absurd (cc); all = refl }

pub end_requests : HasPassed the_end 0 2 None
end_requests = record { came_in = lit< tt; goes_on = lit< tt; keeps = refl; last = λ p e. absurd (cc); carriable = λ p e. absurd (cc); closed = λ e. record { ended = refl; free = refl }; all = refl }

pub end_answers : HasPassed the_end 3 1 None
end_answers = record { came_in = lit< tt; goes_on = lit< tt; keeps = refl; last = λ p e. absurd (cc); carriable = λ p e. absurd (cc); closed = λ e. record { ended = refl; free = refl }; all = refl }
