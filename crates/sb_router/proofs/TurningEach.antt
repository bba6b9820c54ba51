-- Turning one port after another.
use Rattle.std.proofs.Common.{◌≡◌, inl, inr, ℕ, ◌<◌, ◌≤◌, ◌+◌, Bool, true, false, cond, List, length, map, take, set, Some, None, refl, sym, ap, ◌∙◌, subst, arith}
use Rattle.std.proofs.lemmas.List.{take_all}
use Rattle.std.proofs.lemmas.Bool.{or_parts}
use Rattle.sb_port.specs.Ports.{PortSide, offered_words}
use Rattle.sb_node.specs.declared.findings.Findings.{Findings}
use Rattle.sb_node.specs.Sides.{has_rest}
use Rattle.sb_node.specs.Steps.{IsPortServed, IsPortTurned}
use Rattle.sb_node.specs.Turns.{full_cause}
use Rattle.sb_node.proofs.Answering.{same_moves}
use Rattle.sb_router.specs.Lanes.{LaneState, Route, no_port, outlet_at}
use Rattle.sb_router.specs.Steps.{Steps, turns, none, further}
use Rattle.sb_router.specs.Popping.{FindsBesides, IsOutletSet, IsOutletTurned, found_in_both, lowest, nothing_found}
use Rattle.sb_node.specs.Kept.{IsKeptPort}
use Rattle.sb_node.specs.Rested.{IsRestedPort}
use Rattle.sb_router.specs.Rested.{IsRestedLane, IsToldMoved, rested_lane_same, rested_lane_then}
use Rattle.sb_router.specs.Turning.{HasTurned, IsPortIdle, OffersNothing}
use Rattle.sb_router.proofs.RestedSteps.{rested_outlets, rested_state}
use Rattle.sb_router.proofs.Places.{ahead_same, at_each, so_far}
use Rattle.sb_router.proofs.Shapes.{steps_shape}
use Rattle.sb_router.proofs.Lowest.{found_nothing_more, found_then_more, lowest_next, neither_found}
use Rattle.sb_router.proofs.MoveSteps.{moved_none, moved_then, outlet_more, outlet_same}
use Rattle.sb_link.specs.declared.answers.Cause.TheVariants as causes

-- what one turn of a port shows
record IsOneTurn (more : Bool) (s t : LaneState) (before after : PortSide) (one : Findings) : Type 0 where
  moved : IsToldMoved s t one.moved
  idle : one.moved ≡ false → more ≡ false → IsPortIdle before after
  cause : one.moved ≡ false → more ≡ false → one.full ≡ full_cause after
  rests : one.moved ≡ false → IsRestedPort before after
  waits : one.waits ≡ None
  empty : one.empty ≡ None

one_turn : (more : Bool) (s : LaneState) (o : ℕ) (y : PortSide) (one : Findings) → o < length s.outlets → IsKeptPort (outlet_at s o) y → IsPortTurned more (outlet_at s o) y nothing_found one
    → IsOneTurn more s (record s { outlets = set s.outlets o y }) (outlet_at s o) y one
one_turn more s o y one lt kept (inl went) =
    let moved : one.moved ≡ true = ap (λ (f : Findings). f.moved) went.found_move in
    record {
      moved = subst (λ (b : Bool). IsToldMoved s (record s { outlets = set s.outlets o y }) b) (sym moved) (outlet_more s o y lt went.more);
      idle = λ e m. let no_way : ⊥ = cc in absurd no_way;
      cause = λ e m. let no_way : ⊥ = cc in absurd no_way;
      rests = λ e. let no_way : ⊥ = cc in absurd no_way;
      waits = ap (λ (f : Findings). f.waits) went.found_move;
      empty = ap (λ (f : Findings). f.empty) went.found_move;
    }
one_turn more s o y one lt kept (inr (inl full)) =
    let moved : one.moved ≡ false = ap (λ (f : Findings). f.moved) full.found_full in
    record {
      moved = subst (λ (b : Bool). IsToldMoved s (record s { outlets = set s.outlets o y }) b) (sym moved) (outlet_same s o y lt (same_moves (outlet_at s o) y full.same));
      idle = λ e m. record { same = full.same; rest = λ _. full.full };
      cause = λ e m. ap (λ (f : Findings). f.full) full.found_full
          ∙ sym (ap (λ (b : Bool). cond b (Some (causes.Full y.plan.ring (length y.state.sent) y.taken)) None) full.rest);
      rests = λ _. rested_state kept full.same;
      waits = ap (λ (f : Findings). f.waits) full.found_full;
      empty = ap (λ (f : Findings). f.empty) full.found_full;
    }
one_turn more s o y one lt kept (inr (inr clear)) =
    let moved : one.moved ≡ false = ap (λ (f : Findings). f.moved) clear.found_nothing in
    record {
      moved = subst (λ (b : Bool). IsToldMoved s (record s { outlets = set s.outlets o y }) b) (sym moved) (outlet_same s o y lt (same_moves (outlet_at s o) y clear.same));
      idle = λ e m. record { same = clear.same; rest = λ some. let none' : has_rest y ≡ false = clear.rest m in let no_way : ⊥ = cc in absurd no_way };
      cause = λ e m. ap (λ (f : Findings). f.full) clear.found_nothing
          ∙ sym (ap (λ (b : Bool). cond b (Some (causes.Full y.plan.ring (length y.state.sent) y.taken)) None) (clear.rest m));
      rests = λ _. rested_state kept clear.same;
      waits = ap (λ (f : Findings). f.waits) clear.found_nothing;
      empty = ap (λ (f : Findings). f.empty) clear.found_nothing;
    }

-- The ports before a place took their turns, and no other ones.
pub record TurnsSoFar (more : Bool) (s now : LaneState) (place : ℕ) (found : Findings) : Type 0 where
  pub steps : (route : Route) → Steps route s now
  pub rests : found.moved ≡ false → IsRestedLane s now
  pub inlets : now.inlets ≡ s.inlets
  pub moved : IsToldMoved s now found.moved
  pub told : (o : ℕ) → (outlet_at now o).state.close_requested ≡ (outlet_at s o).state.close_requested
  pub words : OffersNothing s now
  pub served : (o : ℕ) → o < place → IsPortServed (outlet_at s o) (outlet_at now o)
  pub ahead : (o : ℕ) → place ≤ o → outlet_at now o ≡ outlet_at s o
  pub idle : found.moved ≡ false → more ≡ false → (o : ℕ) → o < place → IsPortIdle (outlet_at s o) (outlet_at now o)
  pub full : found.moved ≡ false → more ≡ false → found.full ≡ lowest (map full_cause (take place now.outlets))
  pub waits : found.waits ≡ None
  pub empty : found.empty ≡ None

-- whatever was found before
pub turns_none : (more : Bool) (s : LaneState) (found : Findings) → FindsBesides (TurnsSoFar more s s 0) found found
turns_none more s found = record {
  one = nothing_found;
  has = record {
    steps = λ route. none;
    rests = λ _. rested_lane_same s;
    inlets = refl;
    moved = moved_none s;
    told = λ o. refl;
    words = λ o. refl;
    served = λ o lt. absurd (omega arith);
    ahead = λ o le. refl;
    idle = λ e m o lt. absurd (omega arith);
    full = λ e m. refl;
    waits = refl;
    empty = refl;
  };
  both = sym (found_nothing_more found);
}

module _ {more : Bool} {s now : LaneState} {place : ℕ} (y : PortSide) (lt : place < length now.outlets) where
  one_more : {all one : Findings} → TurnsSoFar more s now place all → IsOutletTurned more (outlet_at now place) y one → TurnsSoFar more s (record now { outlets = set now.outlets place y }) (place + 1) (found_in_both all one)
  one_more {all} {one} h at = record {
    steps = λ route. further (h.steps route) (turns place y lt at.turned);
    rests = λ e. let two = or_parts all.moved one.moved e in rested_lane_then (h.rests two.0) (rested_outlets now place y lt (turned.rests two.1));
    inlets = h.inlets;
    moved = moved_then all.moved one.moved h.moved turned.moved;
    told = at_each now.outlets place y no_port lt (λ o z. z.state.close_requested ≡ (outlet_at s o).state.close_requested) (at.turned.told ∙ h.told place) h.told;
    words = at_each now.outlets place y no_port lt (λ o z. offered_words z ≡ offered_words (outlet_at s o)) (at.turned.words ∙ h.words place) h.words;
    served = so_far now.outlets place y no_port lt (λ o z. IsPortServed (outlet_at s o) z)
        (subst (λ (z : PortSide). IsPortServed z y) (h.ahead place (omega arith)) at.served) h.served;
    ahead = ahead_same now.outlets place y no_port lt (outlet_at s) h.ahead;
    idle = λ e m. let two = or_parts all.moved one.moved e in so_far now.outlets place y no_port lt (λ o z. IsPortIdle (outlet_at s o) z) (idle_here two.1 m) (h.idle two.0 m);
    full = λ e m. let two = or_parts all.moved one.moved e in lowest_next full_cause now.outlets place y all.full one.full lt (h.full two.0 m) (turned.cause two.1 m);
    waits = neither_found h.waits turned.waits;
    empty = neither_found h.empty turned.empty;
  }
    where
      turned : IsOneTurn more now (record now { outlets = set now.outlets place y }) (outlet_at now place) y one
      turned = one_turn more now place y one lt at.turned.kept at.finds

      idle_here : one.moved ≡ false → more ≡ false → IsPortIdle (outlet_at s place) y
      idle_here e m = subst (λ (z : PortSide). IsPortIdle z y) (h.ahead place (omega arith)) (turned.idle e m)

-- one more port took its turn
pub turns_more : {more : Bool} {s now then : LaneState} {place : ℕ} {before found found_then : Findings} → place < length now.outlets → IsOutletSet place now then
    → FindsBesides (TurnsSoFar more s now place) before found → FindsBesides (IsOutletTurned more (outlet_at now place) (outlet_at then place)) found found_then → FindsBesides (TurnsSoFar more s then (place + 1)) before found_then
turns_more {more} {s} {now} {then} {place} {before} lt is h at = record {
  one = found_in_both h.one at.one;
  has = subst (λ (u : LaneState). TurnsSoFar more s u (place + 1) (found_in_both h.one at.one)) (sym is) (one_more (outlet_at then place) lt h.has at.has);
  both = at.both ∙ ap (λ (f : Findings). found_in_both f at.one) h.both ∙ found_then_more before h.one at.one;
}

no_route : Route
no_route f = None

pub turns_all : {more : Bool} {s now : LaneState} {place : ℕ} {before found : Findings} → FindsBesides (TurnsSoFar more s now place) before found → length now.outlets ≤ place → FindsBesides (HasTurned more s now) before found
turns_all {more} {s} {now} {place} {before} {found} all over = record { one = all.one; has = has all.has; both = all.both }
  where
    has : TurnsSoFar more s now place all.one → HasTurned more s now all.one
    has h = record {
      steps = h.steps;
      rests = h.rests;
      inlets = h.inlets;
      moved = h.moved;
      told = h.told;
      words = h.words;
      served = λ o lt. h.served o (omega (arith, over, lt, (steps_shape (h.steps no_route)).outlets));
      idle = λ e m o lt. h.idle e m o (omega (arith, over, lt));
      full = λ e m. h.full e m ∙ ap (λ (l : List PortSide). lowest (map full_cause l)) (take_all place now.outlets over);
      waits = h.waits;
      empty = h.empty;
    }
