-- Telling one port after another to close.
use Rattle.std.proofs.Common.{◌≡◌, ℕ, ◌<◌, ◌≤◌, ◌+◌, true, false, List, length, set, All, refl, sym, ap, ◌∙◌, subst, arith}
use Rattle.sb_port.specs.Ports.{PortSide, offered_words}
use Rattle.sb_node.specs.Sides.{port_moves}
use Rattle.sb_router.specs.Lanes.{InletState, LaneState, Route, no_port, outlet_at}
use Rattle.sb_router.specs.Steps.{IsSilent, Steps, tells, none, further}
use Rattle.sb_router.specs.Rested.{IsRestedLane, IsToldMoved, rested_lane_same, rested_lane_then}
use Rattle.sb_router.specs.Popping.{IsToldAt}
use Rattle.sb_router.specs.Turning.{HasClosed, OffersNothing, SendsNothing}
use Rattle.sb_router.proofs.RestedSteps.{rested_outlets, rested_told}
use Rattle.sb_router.proofs.Places.{same_at_each, so_far}
use Rattle.sb_router.proofs.MoveSteps.{moved_none, moved_then, outlet_same}

-- The ports before a place were told.
pub record TellsSoFar (route : Route) (s now : LaneState) (place : ℕ) : Type 0 where
  pub steps : Steps route s now
  pub rests : IsRestedLane s now
  pub inlets : now.inlets ≡ s.inlets
  pub moved : IsToldMoved s now false
  pub unsent : SendsNothing s now
  pub words : OffersNothing s now
  pub told : (o : ℕ) → o < place → (outlet_at now o).state.close_requested ≡ true

pub tells_none : (route : Route) (s : LaneState) → TellsSoFar route s s 0
tells_none route s = record { steps = none; rests = rested_lane_same s; inlets = refl; moved = moved_none s; unsent = λ o. refl; words = λ o. refl; told = λ o lt. absurd (omega arith) }

pub tells_more : {route : Route} {s now then : LaneState} {place : ℕ} → TellsSoFar route s now place → All IsSilent s.inlets → place < length now.outlets → IsToldAt place now then → TellsSoFar route s then (place + 1)
tells_more {route} {s} {now} {then} {place} h silent lt at = subst (λ (t : LaneState). TellsSoFar route s t (place + 1)) (sym at.state) told_more
  where
    y : PortSide
    y = at.port

    close_requested : y.state.close_requested ≡ true
    close_requested = ap (λ (port : PortSide). port.state.close_requested) at.told.told

    same_moves : port_moves y ≡ port_moves (outlet_at now place)
    same_moves = ap port_moves at.told.told

    told_more : TellsSoFar route s (record now { outlets = set now.outlets place y }) (place + 1)
    told_more = record {
      steps = further h.steps (tells place y lt (subst (λ (l : List InletState). All IsSilent l) (sym h.inlets) silent) at.told);
      rests = rested_lane_then h.rests (rested_outlets now place y lt (rested_told at.told));
      inlets = h.inlets;
      moved = moved_then false false h.moved (outlet_same now place y lt same_moves);
      unsent = λ o. same_at_each now.outlets place y no_port lt (λ (z : PortSide). z.state.sent) (ap (λ (port : PortSide). port.state.sent) at.told.told) o ∙ h.unsent o;
      words = λ o. same_at_each now.outlets place y no_port lt offered_words (ap offered_words at.told.told) o ∙ h.words o;
      told = so_far now.outlets place y no_port lt (λ _ z. z.state.close_requested ≡ true) close_requested h.told;
    }

pub tells_all : {route : Route} {s now : LaneState} {place : ℕ} → TellsSoFar route s now place → All IsSilent s.inlets → length now.outlets ≤ place → HasClosed route s now
tells_all {route} {s} {now} {place} h silent over = record {
  steps = h.steps;
  rests = h.rests;
  inlets = h.inlets;
  moved = h.moved;
  unsent = h.unsent;
  words = h.words;
  told = λ _ o lt. h.told o (omega (arith, over, lt));
  untold = λ loud. absurd (loud silent);
}

-- nothing is closed while something may come
pub tells_not : {route : Route} {s : LaneState} → (All IsSilent s.inlets → ⊥) → HasClosed route s s
tells_not {route} {s} loud = record { steps = none; rests = rested_lane_same s; inlets = refl; moved = moved_none s; unsent = λ o. refl; words = λ o. refl; told = λ silent. absurd (loud silent); untold = λ _. refl }
