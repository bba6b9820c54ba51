-- Popping one ring after another.
use Rattle.std.proofs.Common.{◌≡◌, ◌≢◌, ◌⊎◌, inl, inr, ℕ, ◌<◌, ◌≤◌, ◌+◌, ◌||◌, Bool, true, false, cond, is_some, List, [], ◌∷◌, length, map, take, set, Option, Some, None, refl, sym, ap, ◌∙◌, subst, arith, length-append}
use Rattle.std.proofs.lemmas.List.{get_or_default, take_all}
use Rattle.std.proofs.lemmas.Bool.{or_parts}
use Rattle.sb_packet.specs.declared.packet.Packet.{Packet}
use Rattle.sb_node.specs.declared.findings.Findings.{Findings}
use Rattle.sb_node.specs.Kept.{kept_ring_same}
use Rattle.sb_router.specs.Lanes.{InletState, LaneState, Route, inlet_at, no_inlet}
use Rattle.sb_router.specs.Steps.{IsUnmoved, Step, Steps, receives, looks, none, further}
use Rattle.sb_router.specs.Popping.{FindsBesides, IsPopped, IsPoppedAt, found_in_both, lowest, nothing_found}
use Rattle.sb_router.specs.Rested.{IsRestedInlet, IsRestedLane, IsToldMoved, rested_lane_same, rested_lane_then}
use Rattle.sb_node.specs.Sides.{RingSide}
use Rattle.sb_router.specs.Turning.{HasPoppedEach, IsSeen, FewItemsEach, pop_cause, IsServed}
use Rattle.sb_router.proofs.RestedSteps.{rested_inlets, rested_unmoved}
use Rattle.sb_router.proofs.Shapes.{steps_shape}
use Rattle.sb_router.proofs.Places.{ahead_same, at_each, so_far}
use Rattle.sb_router.proofs.Lowest.{lowest_next, neither_found}
use Rattle.sb_router.proofs.MoveSteps.{inlet_more, inlet_received, inlet_same, inlet_unmoved, moved_none, moved_then}
use Rattle.sb_link.specs.declared.answers.Cause.TheVariants as causes

-- What one pop shows of a ring, by what was found.
pub record IsOnePop (route : Route) (s t : LaneState) (i : ℕ) (x : InletState) (one : Findings) : Type 0 where
  pub step : Step route s t
  pub moved : IsToldMoved s t one.moved
  pub seen : one.moved ≡ false → IsSeen x
  pub cause : one.moved ≡ false → one.empty ≡ pop_cause x
  pub few_items : length x.ring.received ≤ length (inlet_at s i).ring.received + 1
  pub served : IsServed (inlet_at s i) x.ring
  pub rests : one.moved ≡ false → IsRestedInlet (inlet_at s i) x
  pub full : one.full ≡ None
  pub waits : one.waits ≡ None

unmoved_same : (x : InletState) → IsUnmoved x x
unmoved_same x = record { received = refl; kept = kept_ring_same x.ring; ended = refl; held = refl }

-- a ring that was left has no cause
left_none : (ended : Bool) (held : Option Packet) → (ended ≡ true) ⊎ (held ≢ None) → (ended || is_some held) ≡ true
left_none true held cause = refl
left_none false (Some p) cause = refl
left_none false None (inl e) = let no_way : ⊥ = cc in absurd no_way
left_none false None (inr held) = absurd (held refl)

-- such a ring wasn't to be popped
left_not : (x : InletState) (ring : RingSide) → (x.ended ≡ true) ⊎ (x.held ≢ None) → IsServed x ring
left_not x ring (inl ended) = λ unended free. let no_way : ⊥ = cc in absurd no_way
left_not x ring (inr held) = λ unended free. absurd (held free)

seen_left : (x : InletState) → (x.ended ≡ true) ⊎ (x.held ≢ None) → IsSeen x
seen_left x (inl e) = inl e
seen_left x (inr held) = inr (inl held)

one_pop : {route : Route} (s : LaneState) (i : ℕ) (x : InletState) (one : Findings) → i < length s.inlets → IsPopped (inlet_at s i) x one → IsOnePop route s (record s { inlets = set s.inlets i x }) i x one
one_pop {route} s i x one lt (inl left) =
    let is : IsUnmoved (inlet_at s i) x = subst (λ (y : InletState). IsUnmoved (inlet_at s i) y) (sym left.same) (unmoved_same (inlet_at s i)) in
    let cause : (x.ended ≡ true) ⊎ (x.held ≢ None) = subst (λ (y : InletState). (y.ended ≡ true) ⊎ (y.held ≢ None)) (sym left.same) left.cause in
    record {
      step = looks i x lt is;
      moved = subst (λ (b : Bool). IsToldMoved s (record s { inlets = set s.inlets i x }) b) (sym (ap (λ (f : Findings). f.moved) left.found_nothing)) (inlet_same s i x lt (inlet_unmoved (inlet_at s i) x is));
      seen = λ _. seen_left x cause;
      cause = λ _. ap (λ (f : Findings). f.empty) left.found_nothing
          ∙ sym (ap (λ (b : Bool). cond b None (Some (causes.Empty x.ring.plan.ring (length x.ring.received) x.ring.known))) (left_none x.ended x.held cause));
      few_items = let same = ap length is.received in omega (arith, same);
      served = left_not (inlet_at s i) x.ring left.cause;
      rests = λ _. rested_unmoved is;
      full = ap (λ (f : Findings). f.full) left.found_nothing;
      waits = ap (λ (f : Findings). f.waits) left.found_nothing;
    }
one_pop {route} s i x one lt (inr (inl taken)) =
    let moved : one.moved ≡ true = ap (λ (f : Findings). f.moved) taken.found_move in
    record {
      step = receives i x taken.item lt taken.received;
      moved = subst (λ (b : Bool). IsToldMoved s (record s { inlets = set s.inlets i x }) b) (sym moved) (inlet_more s i x lt (inlet_received (inlet_at s i) x taken.item taken.received));
      seen = λ e. let no_way : ⊥ = cc in absurd no_way;
      cause = λ e. let no_way : ⊥ = cc in absurd no_way;
      few_items = let long = ap length taken.received.received ∙ length-append (inlet_at s i).ring.received (taken.item ∷ []) in omega (arith, long);
      served = λ unended free. inl (ap length taken.received.received ∙ length-append (inlet_at s i).ring.received (taken.item ∷ []));
      rests = λ e. let no_way : ⊥ = cc in absurd no_way;
      full = ap (λ (f : Findings). f.full) taken.found_move;
      waits = ap (λ (f : Findings). f.waits) taken.found_move;
    }
one_pop {route} s i x one lt (inr (inr empty)) =
    record {
      step = looks i x lt empty.same;
      moved = subst (λ (b : Bool). IsToldMoved s (record s { inlets = set s.inlets i x }) b) (sym (ap (λ (f : Findings). f.moved) empty.found_empty)) (inlet_same s i x lt (inlet_unmoved (inlet_at s i) x empty.same));
      seen = λ _. inr (inr empty.drained);
      cause = λ _. ap (λ (f : Findings). f.empty) empty.found_empty
          ∙ sym (ap (λ (b : Bool). cond (b || is_some x.held) None (Some (causes.Empty x.ring.plan.ring (length x.ring.received) x.ring.known))) empty.open_after
          ∙ ap (λ (h : Option Packet). cond (is_some h) None (Some (causes.Empty x.ring.plan.ring (length x.ring.received) x.ring.known))) empty.free);
      few_items = let same = ap length empty.same.received in omega (arith, same);
      served = λ unended free. inr empty.drained;
      rests = λ _. rested_unmoved empty.same;
      full = ap (λ (f : Findings). f.full) empty.found_empty;
      waits = ap (λ (f : Findings). f.waits) empty.found_empty;
    }

-- The rings before a place were popped, and no other ones.
pub record PopsSoFar (route : Route) (s now : LaneState) (found : Findings) (place : ℕ) : Type 0 where
  pub steps : Steps route s now
  pub rests : found.moved ≡ false → IsRestedLane s now
  pub outlets : now.outlets ≡ s.outlets
  pub moved : IsToldMoved s now found.moved
  pub few_items : FewItemsEach s now
  pub served : (j : ℕ) → j < place → IsServed (inlet_at s j) (inlet_at now j).ring
  pub ahead : (j : ℕ) → place ≤ j → inlet_at now j ≡ inlet_at s j
  pub seen : found.moved ≡ false → (j : ℕ) → j < place → IsSeen (inlet_at now j)
  pub empty : found.moved ≡ false → found.empty ≡ lowest (map pop_cause (take place now.inlets))
  pub full : found.full ≡ None
  pub waits : found.waits ≡ None

pub pops_none : (route : Route) (s : LaneState) {found : Findings} → found ≡ nothing_found → PopsSoFar route s s found 0
pops_none route s nothing = subst (λ (f : Findings). PopsSoFar route s s f 0) (sym nothing) (record {
  steps = none;
  rests = λ _. rested_lane_same s;
  outlets = refl;
  moved = moved_none s;
  few_items = λ i. omega arith;
  served = λ j lt. absurd (omega arith);
  ahead = λ j le. refl;
  seen = λ e j lt. absurd (omega arith);
  empty = λ e. refl;
  full = refl;
  waits = refl;
})

pub pops_more : {route : Route} {s now then : LaneState} {found found_then : Findings} {place : ℕ} → PopsSoFar route s now found place → place < length now.inlets → FindsBesides (IsPoppedAt place now then) found found_then
    → PopsSoFar route s then found_then (place + 1)
pops_more {route} {s} {now} {then} {found} {found_then} {place} h lt more =
    subst (λ (f : Findings). PopsSoFar route s then f (place + 1)) (sym more.both) (subst (λ (t : LaneState). PopsSoFar route s t (found_in_both found one) (place + 1)) (sym at.state) popped_more)
  where
    one : Findings
    one = more.one

    at : IsPoppedAt place now then one
    at = more.has

    x : InletState
    x = at.inlet

    t : LaneState
    t = record now { inlets = set now.inlets place x }

    popped : IsOnePop route now t place x one
    popped = one_pop now place x one lt at.popped

    popped_more : PopsSoFar route s t (found_in_both found one) (place + 1)
    popped_more = record {
      steps = further h.steps popped.step;
      rests = λ e. let two = or_parts found.moved one.moved e in rested_lane_then (h.rests two.0) (rested_inlets now place x lt (popped.rests two.1));
      outlets = h.outlets;
      moved = moved_then found.moved one.moved h.moved popped.moved;
      few_items = at_each now.inlets place x no_inlet lt (λ j y. length y.ring.received ≤ length (inlet_at s j).ring.received + 1)
          (subst (λ (y : InletState). length x.ring.received ≤ length y.ring.received + 1) (h.ahead place (omega arith)) popped.few_items) h.few_items;
      served = so_far now.inlets place x no_inlet lt (λ j y. IsServed (inlet_at s j) y.ring)
          (subst (λ (y : InletState). IsServed y x.ring) (h.ahead place (omega arith)) popped.served) h.served;
      ahead = ahead_same now.inlets place x no_inlet lt (inlet_at s) h.ahead;
      seen = λ e. let two = or_parts found.moved one.moved e in so_far now.inlets place x no_inlet lt (λ _ y. IsSeen y) (popped.seen two.1) (h.seen two.0);
      empty = λ e. let two = or_parts found.moved one.moved e in lowest_next pop_cause now.inlets place x found.empty one.empty lt (h.empty two.0) (popped.cause two.1);
      full = neither_found h.full popped.full;
      waits = neither_found h.waits popped.waits;
    }

pub pops_all : {route : Route} {s now : LaneState} {found : Findings} {place : ℕ} → PopsSoFar route s now found place → length now.inlets ≤ place → HasPoppedEach route s now found
pops_all {route} {s} {now} {found} {place} h over = record {
  steps = h.steps;
  rests = h.rests;
  outlets = h.outlets;
  moved = h.moved;
  few_items = h.few_items;
  served = λ j lt. h.served j (omega (arith, lt, over, (steps_shape h.steps).inlets));
  seen = λ e k d lt. subst IsSeen (get_or_default now.inlets k no_inlet d lt) (h.seen e k (omega (arith, over, lt)));
  empty = λ e. h.empty e ∙ ap (λ (l : List InletState). lowest (map pop_cause l)) (take_all place now.inlets over);
  full = h.full;
  waits = h.waits;
}
