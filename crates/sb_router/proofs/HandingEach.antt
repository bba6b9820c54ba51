-- Handing on what is held of one ring after another.
use Rattle.std.proofs.Common.{◌≡◌, inl, inr, ℕ, ◌<◌, ◌≤◌, ◌+◌, ◌||◌, Bool, true, false, length, set, get_or, refl, sym, ◌∙◌, subst, arith}
use Rattle.std.proofs.lemmas.Bool.{or_parts}
use Rattle.sb_router.specs.Lanes.{InletState, LaneState, Route, inlet_at, no_inlet, no_port}
use Rattle.sb_port.specs.Ports.{PortSide}
use Rattle.sb_router.specs.Steps.{Step, Steps, drops, offers, none, further, emptied}
use Rattle.sb_router.specs.Popping.{Drops, IsHanded, IsWaiting, Offers}
use Rattle.sb_router.specs.Rested.{IsToldMoved}
use Rattle.sb_router.specs.Turning.{HasHanded, SendsNothing}
use Rattle.sb_router.specs.Forwarding.{IsWholeLane}
use Rattle.sb_router.proofs.BusyPorts.{BusySoFar, busy_all, busy_drop, busy_none, busy_offer, busy_wait}
use Rattle.sb_router.proofs.Cases.{le_cases}
use Rattle.sb_router.proofs.NextPlaces.{next_within}
use Rattle.sb_router.proofs.Places.{same_at_each}
use Rattle.sb_router.proofs.MoveSteps.{both_more, inlet_emptied, inlet_more, moved_none, moved_then}

-- What was held of a ring, and isn't any longer, changes no ring.
pub emptied_ring : (s : LaneState) (i : ℕ) → i < length s.inlets → (j : ℕ) → (get_or (set s.inlets i (emptied (inlet_at s i))) j no_inlet).ring ≡ (inlet_at s j).ring
emptied_ring s i lt = same_at_each s.inlets i (emptied (inlet_at s i)) no_inlet lt (λ (x : InletState). x.ring) refl

-- a packet was handed on, or dropped
record IsOneHanding (route : Route) (s t : LaneState) : Type 0 where
  step : Step route s t
  moved : IsToldMoved s t true
  rings : (j : ℕ) → (inlet_at t j).ring ≡ (inlet_at s j).ring
  unsent : SendsNothing s t

one_offer : {route : Route} (s t : LaneState) (i : ℕ) → IsWholeLane route s → i < length s.inlets → Offers route i s t → IsOneHanding route s t
one_offer {route} s t i w lt offer =
    let within = next_within route (inlet_at s i).ring.plan offer.packet offer.place (length s.outlets) w.routed offer.next in
    let at : IsOneHanding route s (record { inlets = set s.inlets i (emptied (inlet_at s i)); outlets = set s.outlets offer.place offer.port }) = record {
      step = offers i offer.place offer.packet offer.port lt within offer.held offer.next offer.given;
      moved = both_more s i offer.place offer.packet offer.port lt within offer.held offer.given.kept;
      rings = emptied_ring s i lt;
      unsent = same_at_each s.outlets offer.place offer.port no_port within (λ (y : PortSide). y.state.sent) offer.given.sent;
    } in subst (λ (u : LaneState). IsOneHanding route s u) (sym offer.state) at

one_drop : {route : Route} (s t : LaneState) (i : ℕ) → i < length s.inlets → Drops route i s t → IsOneHanding route s t
one_drop {route} s t i lt drop' =
    let at : IsOneHanding route s (record s { inlets = set s.inlets i (emptied (inlet_at s i)) }) = record {
      step = drops i drop'.packet lt drop'.held drop'.refused;
      moved = inlet_more s i (emptied (inlet_at s i)) lt (inlet_emptied (inlet_at s i) drop'.packet drop'.held);
      rings = emptied_ring s i lt;
      unsent = λ o. refl;
    } in subst (λ (u : LaneState). IsOneHanding route s u) (sym drop'.state) at

one_handing : {route : Route} (s t : LaneState) (i : ℕ) → IsWholeLane route s → i < length s.inlets → IsHanded route i s t true → IsOneHanding route s t
one_handing s t i w lt (inl offer) = one_offer s t i w lt offer
one_handing s t i w lt (inr drop') = one_drop s t i lt drop'

-- What is held of the rings before a place was handed on, where it could be.
pub record HandsSoFar (route : Route) (s now : LaneState) (moved : Bool) (place : ℕ) : Type 0 where
  pub steps : Steps route s now
  pub moved_is : IsToldMoved s now moved
  pub rings : (j : ℕ) → (inlet_at now j).ring ≡ (inlet_at s j).ring
  pub unsent : SendsNothing s now
  pub still : moved ≡ false → now ≡ s
  pub waiting : moved ≡ false → (i : ℕ) → i < place → IsWaiting route i now
  pub busy : BusySoFar route s now place

pub hands_none : (route : Route) (s : LaneState) → HandsSoFar route s s false 0
hands_none route s = record { steps = none; moved_is = moved_none s; rings = λ j. refl; unsent = λ o. refl; still = λ e. refl; waiting = λ e i lt. absurd (omega arith); busy = busy_none route s }

pub hands_more : {route : Route} {s now then : LaneState} (moved handed : Bool) {place : ℕ} → HandsSoFar route s now moved place → IsWholeLane route now → place < length now.inlets
    → IsHanded route place now then handed → HandsSoFar route s then (moved || handed) (place + 1)
hands_more {route} {s} {now} {then} moved true {place} h w lt is =
    let one = one_handing now then place w lt is in
    record {
      steps = further h.steps one.step;
      moved_is = moved_then moved true h.moved_is one.moved;
      rings = λ j. one.rings j ∙ h.rings j;
      unsent = λ o. one.unsent o ∙ h.unsent o;
      still = λ e. let two = or_parts moved true e in let two' = two.1 in let no_way : ⊥ = cc in absurd no_way;
      waiting = λ e. let two = or_parts moved true e in let two' = two.1 in let no_way : ⊥ = cc in absurd no_way;
      busy = busy_more is;
    }
  where
    busy_more : IsHanded route place now then true → BusySoFar route s then (place + 1)
    busy_more (inl offer) = busy_offer h.busy lt w offer
    busy_more (inr drop') = busy_drop h.busy lt drop'
hands_more {route} {s} {now} {then} moved false {place} h w lt is =
    subst (λ (t : LaneState). HandsSoFar route s t (moved || false) (place + 1)) (sym is.0) (record {
      steps = h.steps;
      moved_is = moved_then moved false h.moved_is (moved_none now);
      rings = h.rings;
      unsent = h.unsent;
      still = λ e. h.still (or_parts moved false e).0;
      waiting = λ e i below. elim (le_cases i place below) [
        | inl before ↦ h.waiting (or_parts moved false e).0 i before
        | inr same ↦ subst (λ (k : ℕ). IsWaiting route k now) (sym same) is.1
      ];
      busy = busy_wait h.busy lt w is.1;
    })

pub hands_all : {route : Route} {s now : LaneState} {moved : Bool} {place : ℕ} → HandsSoFar route s now moved place → length now.inlets ≤ place → HasHanded route s now moved
hands_all {route} {s} {now} {moved} {place} h over = record {
  steps = h.steps;
  moved_is = h.moved_is;
  rings = h.rings;
  unsent = h.unsent;
  still = h.still;
  waiting = λ e i lt. h.waiting e i (omega (arith, over, lt));
  held_awaits_busy = busy_all h.busy over;
}
