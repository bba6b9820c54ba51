-- The words of a direction, step by step.
use Rattle.std.proofs.Common.{◌≡◌, ℕ, ◌<◌, List, [], ◌++◌, length, set, get_or, Option, sym, ap, ◌∙◌, subst, arith}
use Rattle.std.specs.Prelude.{filter, sum_by}
use Rattle.std.proofs.lemmas.List.{append-nil}
use Rattle.std.proofs.lemmas.List.Elements.{All-get_or}
use Rattle.std.proofs.lemmas.List.Sums.{sum_by-set}
use Rattle.sb_packet.specs.Accesses.{Access}
use Rattle.sb_packet.specs.Messages.{message_of}
use Rattle.sb_link.specs.RingPlans.{RingPlan, goes_through, message_flow}
use Rattle.sb_link.specs.Prefixes.{IsSubsequence}
use Rattle.sb_link.specs.Traffic.{IsPlanned, item_accesses}
use Rattle.sb_packet.specs.declared.packet.Packet.{Packet}
use Rattle.sb_packet.specs.declared.item.Item.{Item}
use Rattle.sb_port.specs.Ports.{PortSide, offered_words}
use Rattle.sb_node.specs.Sides.{received_words}
use Rattle.sb_router.specs.Lanes.{InletState, LaneState, Route, came_at, held_words_at, held_words, inlet_at, no_inlet, no_port, offered_at, outlet_at, next_place}
use Rattle.sb_router.specs.Steps.{Step, Steps, receives, looks, drops, offers, turns, tells, none, further}
use Rattle.sb_router.specs.Forwarding.{Forwards, IsLaid, IsWholeInlet, IsWholeLane, Words, came_for, held_for, part, popped_for}
use Rattle.sb_router.proofs.Places.{same_at_each}
use Rattle.sb_router.proofs.Shapes.{SameShape, inlets_shape, outlets_shape, passed_before, step_shape}
use Rattle.sb_router.proofs.Forwards.{receiving, sound_before}
use Rattle.sb_router.proofs.Handling.{dropping, offering}
use Rattle.sb_router.proofs.WholeSteps.{whole_steps}

-- rings belong together as before
pub laid_then : {words : Words} {route : Route} {s t : LaneState} → SameShape s t → IsLaid words route s → IsLaid words route t
laid_then {words} {route} {s} {t} shape laid = record {
  one_flow = λ i p g lt e. laid.one_flow i p g (omega (arith, lt, shape.inlets)) (sym (ap (λ (plan : RingPlan). message_flow plan.flows (message_of p)) (shape.in_plans i)) ∙ e);
  apart = λ f i j lt lt' a b. laid.apart f i j (omega (arith, lt, shape.inlets)) (omega (arith, lt', shape.inlets))
      (sym (ap (λ (plan : RingPlan). goes_through plan.flows f) (shape.in_plans i)) ∙ a) (sym (ap (λ (plan : RingPlan). goes_through plan.flows f) (shape.in_plans j)) ∙ b);
  leads_on = λ i o p lt planned next.
      let there : IsPlanned (outlet_at s o).plan (message_of p) = laid.leads_on i o p (omega (arith, lt, shape.inlets)) (subst (λ (plan : RingPlan). IsPlanned plan (message_of p)) (shape.in_plans i) planned)
      (sym (ap (λ (plan : RingPlan). next_place route plan p) (shape.in_plans i)) ∙ next) in
      subst (λ (plan : RingPlan). IsPlanned plan (message_of p)) (sym (shape.out_plans o)) there;
}

-- what was offered at the place of a list in which one was set that was offered nothing more
offered_same : (s : LaneState) (o : ℕ) (y : PortSide) → o < length s.outlets → offered_words y ≡ offered_at s o → (q : ℕ) → offered_words (get_or (set s.outlets o y) q no_port) ≡ offered_at s q
offered_same s o y lt e = same_at_each s.outlets o y no_port lt (λ (z : PortSide). offered_words z) e

module _ {words : Words} {route : Route} (s : LaneState) (h : Forwards words route s) where
  -- a port did something, but was offered nothing
  pub acting : (o : ℕ) (y : PortSide) → o < length s.outlets → y.plan ≡ (outlet_at s o).plan → offered_words y ≡ offered_at s o → Forwards words route (record s { outlets = set s.outlets o y })
  acting o y lt plan e =
      let shape : SameShape s (record s { outlets = set s.outlets o y }) = outlets_shape s o y lt plan in
      record {
        few = λ q. let old = h.few q in let same : length (offered_words (get_or (set s.outlets o y) q no_port)) ≡ length (offered_at s q) = ap length (offered_same s o y lt e q) in omega (arith, old, same);
        picks = λ f i q passes. subst (λ (l : List Access). IsSubsequence (part words f l ++ part words f (held_words_at s i)) (part words f (came_at s i))) (sym (offered_same s o y lt e q)) (h.picks f i q (passed_before shape passes));
        whole = λ f i q passes sound room.
            let budget : (get_or (set s.outlets o y) q no_port).plan.budget ≡ (outlet_at s q).plan.budget = ap (λ (plan : RingPlan). plan.budget) (shape.out_plans q) in
            subst (λ (l : List Access). part words f (came_at s i) ≡ part words f l ++ part words f (held_words_at s i)) (sym (offered_same s o y lt e q)) (h.whole f i q (passed_before shape passes) sound (omega (arith, room, budget)));
      }

  -- a ring was looked at, but nothing came
  module _ (i : ℕ) (x : InletState) (lt : i < length s.inlets) (same_plan : x.ring.plan ≡ (inlet_at s i).ring.plan) (same_received : x.ring.received ≡ (inlet_at s i).ring.received) (same_held : x.held ≡ (inlet_at s i).held) where
    abbrev pub looked : LaneState
    looked = record s { inlets = set s.inlets i x }

    came_same : (j : ℕ) → came_at looked j ≡ came_at s j
    came_same = same_at_each s.inlets i x no_inlet lt (λ (z : InletState). received_words z.ring) (ap item_accesses same_received)

    held_same : (j : ℕ) → held_words_at looked j ≡ held_words_at s j
    held_same = same_at_each s.inlets i x no_inlet lt (λ (z : InletState). held_words z.held) (ap held_words same_held)

    came_sum : (o : ℕ) → popped_for words looked o ≡ popped_for words s o
    came_sum o = let sum = sum_by-set (came_for words o) s.inlets i x no_inlet lt in
        let same : came_for words o x ≡ came_for words o (inlet_at s i) = ap (λ (l : List Item). length (filter (words.goes_to o) (item_accesses l))) same_received in omega (arith, sum, same)

    held_sum : (o : ℕ) → sum_by (held_for words o) (set s.inlets i x) ≡ sum_by (held_for words o) s.inlets
    held_sum o = let sum = sum_by-set (held_for words o) s.inlets i x no_inlet lt in
        let same : held_for words o x ≡ held_for words o (inlet_at s i) = ap (λ (l : Option Packet). length (filter (words.goes_to o) (held_words l))) same_held in omega (arith, sum, same)

    pub looking : Forwards words route looked
    looking = record {
      few = λ o. let old = h.few o in omega (arith, old, came_sum o, held_sum o);
      picks = λ f j o passes. let old = h.picks f j o (passed_before (inlets_shape s i x lt same_plan) passes) in
          subst (λ (l : List Access). IsSubsequence (part words f (offered_at s o) ++ part words f (held_words_at looked j)) (part words f l)) (sym (came_same j))
          (subst (λ (l : List Access). IsSubsequence (part words f (offered_at s o) ++ part words f l) (part words f (came_at s j))) (sym (held_same j)) old);
      whole = λ f j o passes sound room.
          ap (part words f) (came_same j)
          ∙ h.whole f j o (passed_before (inlets_shape s i x lt same_plan) passes) (sound_before s i x [] lt (same_received ∙ sym (append-nil (inlet_at s i).ring.received)) sound) (omega (arith, room, came_sum o))
          ∙ ap (λ (l : List Access). part words f (offered_at s o) ++ part words f l) (sym (held_same j));
    }

pub forwards_step : {words : Words} {route : Route} {s t : LaneState} → IsLaid words route s → IsWholeLane route s → Forwards words route s → Step route s t → Forwards words route t
forwards_step {words} {route} {s} laid w h (receives i x item lt is) = receiving s h i x item lt is
forwards_step {words} {route} {s} laid w h (looks i x lt is) = looking s h i x lt is.kept.plan is.received is.held
forwards_step {words} {route} {s} laid w h (drops i p lt held refused) = dropping s laid h i p lt held (All-get_or IsWholeInlet s.inlets i no_inlet lt w.inlets) refused
forwards_step {words} {route} {s} laid w h (offers i o p y lt within held next is) = offering s laid h i p lt held (All-get_or IsWholeInlet s.inlets i no_inlet lt w.inlets) o y within next is
forwards_step {words} {route} {s} laid w h (turns o y within is) = acting s h o y within is.kept.plan is.words
forwards_step {words} {route} {s} laid w h (tells o y within silent is) = acting s h o y within (ap (λ (port : PortSide). port.plan) is.told) (ap offered_words is.told)

pub laid_steps : {words : Words} {route : Route} {s t : LaneState} → IsLaid words route s → Steps route s t → IsLaid words route t
laid_steps laid none = laid
laid_steps laid (further before step) = laid_then (step_shape step) (laid_steps laid before)

-- What holds of the words of a direction holds after all steps.
pub forwards_steps : {words : Words} {route : Route} {s t : LaneState} → IsLaid words route s → IsWholeLane route s → Forwards words route s → Steps route s t → Forwards words route t
forwards_steps laid w h none = h
forwards_steps laid w h (further before step) = forwards_step (laid_steps laid before) (whole_steps w before) (forwards_steps laid w h before) step
