-- One turn of a router, of the turns of its two directions.
use Rattle.std.proofs.Common.{◌≡◌, ◌≢◌, ℕ, ◌<◌, ◌+◌, ◌||◌, ◌&&◌, not, Bool, true, false, cond, is_some, List, [], ◌∷◌, ◌++◌, length, map, get_or, All, Option, Some, None, refl, sym, ap, ◌∙◌, subst, arith, nat_le, zero, suc}
use Rattle.std.specs.List.{AllByRecursion, list_all}
use Rattle.std.proofs.lemmas.List.{get_or_default, map-append}
use Rattle.std.proofs.lemmas.List.Elements.{All-get_or, recursion_from_All}
use Rattle.std.proofs.lemmas.List.Folds.{list_all-append, list_all-map}
use Rattle.std.proofs.lemmas.Bool.{or_parts}
use Rattle.sb_link.specs.declared.answers.Cause.{Cause}
use Rattle.sb_link.specs.declared.answers.Turn.{Turn}
use Rattle.sb_link.specs.declared.answers.Turn.TheVariants.{Moved, Idle, Done}
use Rattle.sb_packet.specs.declared.packet.Packet.{Packet}
use Rattle.sb_port.specs.Waiting.{some_owed}
use Rattle.sb_node.specs.declared.findings.Findings.{Findings}
use Rattle.sb_node.specs.Found.{IsTurnOf}
use Rattle.sb_port.specs.Ports.{PortSide}
use Rattle.sb_node.specs.Sides.{has_ended, has_rest, is_done}
use Rattle.sb_node.specs.Turns.{IsAnswered, empty_cause, first_cause, full_cause}
use Rattle.sb_router.specs.Lanes.{InletState, LaneState, Route, inlet_at, no_inlet, no_port, outlet_at}
use Rattle.sb_router.specs.Steps.{IsSilent}
use Rattle.sb_router.specs.Popping.{found_in_both, lower, lowest, ring_of_cause}
use Rattle.sb_router.specs.Rested.{lane_moves}
use Rattle.sb_router.specs.Turning.{IsIdleLane, IsLaneTurn}
use Rattle.sb_router.specs.Forwarding.{IsWholeInlet, IsWholeLane}
use Rattle.sb_router.specs.Ways.{route_of}
use Rattle.sb_router.specs.Routers.{IsKeptDirection, IsRestedRouter, IsRouterTurn, RouterSide, router_moves, router_ports, router_rings}
use Rattle.sb_router.proofs.ForwardSteps.{forwards_steps, laid_steps}
use Rattle.sb_router.proofs.KeptSteps.{kept_steps}
use Rattle.sb_router.proofs.Lowest.{lowest_append}
use Rattle.sb_router.proofs.WholeSteps.{whole_steps}
use Rattle.sb_link.specs.declared.answers.Cause.TheVariants as causes

-- where two have no cause, neither has
none_lower : (a b : Option Cause) → lower a b ≡ None → (a ≡ None) × (b ≡ None)
none_lower None b e = (refl, e)
none_lower (Some a) None e = let no_way : ⊥ = cc in absurd no_way
none_lower (Some a) (Some b) e = by_test (nat_le (ring_of_cause a) (ring_of_cause b)) e
  where
    by_test : (x : Bool) → cond x (Some a) (Some b) ≡ None → (Some a ≡ None) × (Some b ≡ None)
    by_test true q = let no_way : ⊥ = cc in absurd no_way
    by_test false q = let no_way : ⊥ = cc in absurd no_way

none_lowest : {X : Type 0} (f : X → Option Cause) (xs : List X) (i : ℕ) (d : X) → lowest (map f xs) ≡ None → i < length xs → f (get_or xs i d) ≡ None
none_lowest f [] i d e lt = absurd (omega arith)
none_lowest f (x ∷ xs) zero d e lt = (none_lower (f x) (lowest (map f xs)) e).0
none_lowest f (x ∷ xs) (suc i) d e lt = none_lowest f xs i d (none_lower (f x) (lowest (map f xs)) e).1 (omega (arith, lt))

-- what holds at each place is found of all
all_found : {X : Type 0} (test : X → Bool) (xs : List X) → AllByRecursion (λ x. test x ≡ true) xs → list_all test xs ≡ true
all_found test [] h = refl
all_found test (x ∷ xs) h = ap (λ (b : Bool). b && list_all test xs) h.0 ∙ all_found test xs h.1

-- a direction in which nothing moved, and no port is a cause
module _ {route : Route} (t : LaneState) (whole : IsWholeLane route t) (idle : IsIdleLane route t)
    (closed : All IsSilent t.inlets → (o : ℕ) → o < length t.outlets → (outlet_at t o).state.close_requested ≡ true)
    (no_full : lowest (map full_cause t.outlets) ≡ None) where
  full_none : (o : ℕ) → o < length t.outlets → full_cause (outlet_at t o) ≡ None
  full_none o lt = none_lowest full_cause t.outlets o no_port no_full lt

  no_rest : (o : ℕ) → o < length t.outlets → has_rest (outlet_at t o) ≡ false
  no_rest o lt = by_test (has_rest (outlet_at t o)) (full_none o lt)
    where
      by_test : (b : Bool) → cond b (Some (causes.Full (outlet_at t o).plan.ring (length (outlet_at t o).state.sent) (outlet_at t o).taken)) None ≡ None → b ≡ false
      by_test true e = let no_way : ⊥ = cc in absurd no_way
      by_test false e = refl

  nothing_held_at : (i : ℕ) → i < length t.inlets → (h : Option Packet) → (inlet_at t i).held ≡ h → h ≡ None
  nothing_held_at i lt None e = refl
  nothing_held_at i lt (Some p) e =
      let waits = idle.held_awaits_full i p lt e in
      let rest : has_rest (outlet_at t waits.place) ≡ true = ap (λ (b : Bool). b || is_some (outlet_at t waits.place).state.waiting.held) waits.owing in
      let none = no_rest waits.place waits.within in let no_way : ⊥ = cc in absurd no_way

  pub nothing_held : All (λ x. x.held ≡ None) t.inlets
  nothing_held k d lt = subst (λ (x : InletState). x.held ≡ None) (get_or_default t.inlets k no_inlet d lt) (nothing_held_at k lt (inlet_at t k).held refl)

  module _ (no_empty : lowest (map (λ x. empty_cause x.ring) t.inlets) ≡ None) where
    ended_at : (i : ℕ) → i < length t.inlets → (inlet_at t i).ended ≡ true
    ended_at i lt = (All-get_or IsWholeInlet t.inlets i no_inlet lt whole.inlets).ended
        ∙ by_test (has_ended (inlet_at t i).ring) (none_lowest (λ (x : InletState). empty_cause x.ring) t.inlets i no_inlet no_empty lt)
      where
        by_test : (b : Bool) → cond b None (Some (causes.Empty (inlet_at t i).ring.plan.ring (length (inlet_at t i).ring.received) (inlet_at t i).ring.known)) ≡ None → b ≡ true
        by_test true e = refl
        by_test false e = let no_way : ⊥ = cc in absurd no_way

    silent : All IsSilent t.inlets
    silent k d lt = subst IsSilent (get_or_default t.inlets k no_inlet d lt) (record { ended = ended_at k lt; free = nothing_held_at k lt (inlet_at t k).held refl })

    shut_at : (o : ℕ) → o < length t.outlets → (outlet_at t o).state.close_sent ≡ true
    shut_at o lt = by_tests (some_owed (outlet_at t o).state.waiting) (outlet_at t o).state.close_requested (outlet_at t o).state.close_sent (is_some (outlet_at t o).state.waiting.held)
        (closed silent o lt) (no_rest o lt)
      where
        by_tests : (owed close_requested close_sent held : Bool) → close_requested ≡ true → ((owed || (close_requested && not close_sent)) || held) ≡ false → close_sent ≡ true
        by_tests owed close_requested true held c e = refl
        by_tests true close_requested false held c e = let no_way : ⊥ = cc in absurd no_way
        by_tests false true false held c e = let no_way : ⊥ = cc in absurd no_way
        by_tests false false false held c e = let no_way : ⊥ = cc in absurd no_way

    pub all_done : (list_all (λ y. y.state.close_sent) t.outlets && list_all (λ x. x.ended) t.inlets) ≡ true
    all_done = ap (λ (b : Bool). b && list_all (λ x. x.ended) t.inlets)
        (all_found (λ (y : PortSide). y.state.close_sent) t.outlets
        (recursion_from_All (λ (y : PortSide). y.state.close_sent ≡ true) t.outlets (λ k d lt. subst (λ (y : PortSide). y.state.close_sent ≡ true) (get_or_default t.outlets k no_port d lt) (shut_at k lt))))
        ∙ all_found (λ (x : InletState). x.ended) t.inlets
        (recursion_from_All (λ (x : InletState). x.ended ≡ true) t.inlets (λ k d lt. subst (λ (x : InletState). x.ended ≡ true) (get_or_default t.inlets k no_inlet d lt) (ended_at k lt)))

-- rings that gave their Close
ended_same : (xs : List InletState) → AllByRecursion IsWholeInlet xs → list_all (λ x. x.ended) xs ≡ list_all (λ x. has_ended x.ring) xs
ended_same [] h = refl
ended_same (x ∷ xs) h = ap (λ (b : Bool). b && list_all (λ x. x.ended) xs) h.0.ended ∙ ap (λ (b : Bool). has_ended x.ring && b) (ended_same xs h.1)

four : (a b c d : Bool) → ((a && c) && (b && d)) ≡ ((a && b) && (c && d))
four true true c d = refl
four true false true d = refl
four true false false d = refl
four false b c d = refl

-- a router is done where both directions are
pub done_both : (p q : LaneState) → All IsWholeInlet p.inlets → All IsWholeInlet q.inlets
    → ((list_all (λ y. y.state.close_sent) p.outlets && list_all (λ x. x.ended) p.inlets) && (list_all (λ y. y.state.close_sent) q.outlets && list_all (λ x. x.ended) q.inlets))
    ≡ is_done (p.outlets ++ q.outlets) (map (λ x. x.ring) p.inlets ++ map (λ x. x.ring) q.inlets)
done_both p q w v =
    let close_sent : PortSide → Bool = λ port. port.state.close_sent in
    let ports : list_all close_sent (p.outlets ++ q.outlets) ≡ (list_all (λ y. y.state.close_sent) p.outlets && list_all (λ y. y.state.close_sent) q.outlets) = list_all-append close_sent p.outlets q.outlets in
    let rings : list_all has_ended (map (λ x. x.ring) p.inlets ++ map (λ x. x.ring) q.inlets) ≡ (list_all (λ x. x.ended) p.inlets && list_all (λ x. x.ended) q.inlets) =
    list_all-append has_ended (map (λ x. x.ring) p.inlets) (map (λ x. x.ring) q.inlets)
    ∙ ap (λ (b : Bool). b && list_all has_ended (map (λ x. x.ring) q.inlets)) (list_all-map has_ended (λ (x : InletState). x.ring) p.inlets ∙ sym (ended_same p.inlets (recursion_from_All IsWholeInlet p.inlets w)))
    ∙ ap (λ (b : Bool). list_all (λ x. x.ended) p.inlets && b) (list_all-map has_ended (λ (x : InletState). x.ring) q.inlets ∙ sym (ended_same q.inlets (recursion_from_All IsWholeInlet q.inlets v))) in
    four (list_all (λ y. y.state.close_sent) p.outlets) (list_all (λ y. y.state.close_sent) q.outlets) (list_all (λ x. x.ended) p.inlets) (list_all (λ x. x.ended) q.inlets)
    ∙ sym (ap (λ (b : Bool). b && list_all has_ended (map (λ x. x.ring) p.inlets ++ map (λ x. x.ring) q.inlets)) ports
    ∙ ap (λ (b : Bool). (list_all (λ y. y.state.close_sent) p.outlets && list_all (λ y. y.state.close_sent) q.outlets) && b) rings)

-- the lowest cause of two lists of rings
mapped : {X Y : Type 0} (c : Y → Option Cause) (f : X → Y) (xs ys : List X) → map c (map f xs ++ map f ys) ≡ map (λ x. c (f x)) xs ++ map (λ x. c (f x)) ys
mapped c f [] [] = refl
mapped c f [] (y ∷ ys) = ap (λ (l : List (Option Cause)). c (f y) ∷ l) (mapped c f [] ys)
mapped c f (x ∷ xs) ys = ap (λ (l : List (Option Cause)). c (f x) ∷ l) (mapped c f xs ys)

lowest_both : {X Y : Type 0} (c : Y → Option Cause) (f : X → Y) (xs ys : List X) → lowest (map c (map f xs ++ map f ys)) ≡ lower (lowest (map (λ x. c (f x)) xs)) (lowest (map (λ x. c (f x)) ys))
lowest_both c f xs ys = ap lowest (mapped c f xs ys) ∙ lowest_append (map (λ x. c (f x)) xs) (map (λ x. c (f x)) ys)

lowest_of_both : {X : Type 0} (c : X → Option Cause) (xs ys : List X) → lowest (map c (xs ++ ys)) ≡ lower (lowest (map c xs)) (lowest (map c ys))
lowest_of_both c xs ys = ap lowest (map-append c xs ys) ∙ lowest_append (map c xs) (map c ys)

-- more went through one of two directions
moved_both : (a b c d : ℕ) (x y : Bool) → (x ≡ true → a < b) → (x ≡ false → b ≡ a) → (y ≡ true → c < d) → (y ≡ false → d ≡ c) → ((x || y) ≡ true → a + c < b + d) × ((x || y) ≡ false → b + d ≡ a + c)
moved_both a b c d true true p q r s = (λ _. let u = p refl in let v = r refl in omega (arith, u, v), λ e. let no_way : ⊥ = cc in absurd no_way)
moved_both a b c d true false p q r s = (λ _. let u = p refl in let v = s refl in omega (arith, u, v), λ e. let no_way : ⊥ = cc in absurd no_way)
moved_both a b c d false true p q r s = (λ _. let u = q refl in let v = r refl in omega (arith, u, v), λ e. let no_way : ⊥ = cc in absurd no_way)
moved_both a b c d false false p q r s = (λ e. let no_way : ⊥ = cc in absurd no_way, λ _. let u = q refl in let v = s refl in omega (arith, u, v))

-- a direction goes on as it was
pub kept_direction : {rows : List (List (Option ℕ))} {s t : LaneState} {found : Findings} → IsLaneTurn (route_of rows) s t found
    → IsKeptDirection (record { rows = rows; lane = s }) (record { rows = rows; lane = t })
kept_direction {rows} {s} {t} turn = record {
  rows = refl;
  lane = kept_steps turn.steps;
  steps = turn.steps;
  forwards = λ words w h. record { laid = laid_steps h.laid turn.steps; forwards = forwards_steps h.laid w h.forwards turn.steps };
  whole = λ w. whole_steps w turn.steps;
}

module _ (down up : List (List (Option ℕ))) {p q p' q' : LaneState} {a b : Findings} (turn_p : IsLaneTurn (route_of down) p p' a) (turn_q : IsLaneTurn (route_of up) q q' b)
    (whole_p : IsWholeLane (route_of down) p') (whole_q : IsWholeLane (route_of up) q') where
  abbrev pub before : RouterSide
  before = record { requests = record { rows = down; lane = p }; answers = record { rows = up; lane = q } }

  abbrev pub after : RouterSide
  after = record { requests = record { rows = down; lane = p' }; answers = record { rows = up; lane = q' } }

  abbrev pub all_found_in : Findings
  all_found_in = found_in_both a b

  abbrev pub done : Bool
  done = is_done (router_ports after) (router_rings after)

  moves : ((a.moved || b.moved) ≡ true → router_moves before < router_moves after) × ((a.moved || b.moved) ≡ false → router_moves after ≡ router_moves before)
  moves = moved_both (lane_moves p) (lane_moves p') (lane_moves q) (lane_moves q') a.moved b.moved turn_p.moved.more turn_p.moved.none turn_q.moved.more turn_q.moved.none

  fulls : (a.moved || b.moved) ≡ false → lower a.full b.full ≡ lowest (map full_cause (router_ports after))
  fulls e = let two = or_parts a.moved b.moved e in
      ap (λ (c : Option Cause). lower c b.full) (turn_p.full two.0) ∙ ap (lower (lowest (map full_cause p'.outlets))) (turn_q.full two.1)
      ∙ sym (lowest_of_both full_cause p'.outlets q'.outlets)

  waits_none : lower a.waits b.waits ≡ None
  waits_none = ap (λ (c : Option Cause). lower c b.waits) turn_p.waits ∙ turn_q.waits

  -- where no port is a cause, the rings that are empty are
  module _ (e : (a.moved || b.moved) ≡ false) (none : lower a.full b.full ≡ None) where
    neither : (a.full ≡ None) × (b.full ≡ None)
    neither = none_lower a.full b.full none

    still : (a.moved ≡ false) × (b.moved ≡ false)
    still = or_parts a.moved b.moved e

    none_p : lowest (map full_cause p'.outlets) ≡ None
    none_p = sym (turn_p.full still.0) ∙ neither.0

    none_q : lowest (map full_cause q'.outlets) ≡ None
    none_q = sym (turn_q.full still.1) ∙ neither.1

    empty_p : a.empty ≡ lowest (map (λ x. empty_cause x.ring) p'.inlets)
    empty_p = turn_p.empty still.0 (nothing_held p' whole_p (turn_p.idle still.0) turn_p.closed none_p)

    empty_q : b.empty ≡ lowest (map (λ x. empty_cause x.ring) q'.inlets)
    empty_q = turn_q.empty still.1 (nothing_held q' whole_q (turn_q.idle still.1) turn_q.closed none_q)

    empties : lower a.empty b.empty ≡ lowest (map empty_cause (router_rings after))
    empties = ap (λ (c : Option Cause). lower c b.empty) empty_p ∙ ap (lower (lowest (map (λ x. empty_cause x.ring) p'.inlets))) empty_q
        ∙ sym (lowest_both empty_cause (λ (x : InletState). x.ring) p'.inlets q'.inlets)

    -- where they aren't either, all is done
    none_done : lower a.empty b.empty ≡ None → done ≡ true
    none_done none_empty = let two = none_lower a.empty b.empty none_empty in
        sym (done_both p' q' whole_p.inlets whole_q.inlets)
        ∙ ap (λ (x : Bool). x && (list_all (λ y. y.state.close_sent) q'.outlets && list_all (λ x. x.ended) q'.inlets)) (all_done p' whole_p (turn_p.idle still.0) turn_p.closed none_p (sym empty_p ∙ two.0))
        ∙ all_done q' whole_q (turn_q.idle still.1) turn_q.closed none_q (sym empty_q ∙ two.1)

  first_of : (full empty : Option Cause) → first_cause (full ∷ None ∷ empty ∷ []) ≡ first_cause (full ∷ empty ∷ [])
  first_of (Some c) empty = refl
  first_of None empty = refl

  -- some cause is found where nothing moved and not all is done
  pub has_cause : (a.moved || b.moved) ≡ false → done ≡ false → first_cause (lower a.full b.full ∷ lower a.waits b.waits ∷ lower a.empty b.empty ∷ []) ≢ None
  has_cause e undone none = by_full (lower a.full b.full) (lower a.empty b.empty) refl refl
      (sym (first_of (lower a.full b.full) (lower a.empty b.empty)) ∙ sym (ap (λ (c : Option Cause). first_cause (lower a.full b.full ∷ c ∷ lower a.empty b.empty ∷ [])) waits_none) ∙ none)
    where
      by_full : (full empty : Option Cause) → lower a.full b.full ≡ full → lower a.empty b.empty ≡ empty → first_cause (full ∷ empty ∷ []) ≡ None → ⊥
      by_full (Some c) empty x y z = let no_way : ⊥ = cc in no_way
      by_full None (Some c) x y z = let no_way : ⊥ = cc in no_way
      by_full None None x y z = let all = none_done e x y in let no_way : ⊥ = cc in no_way

  -- the first cause that was found is the first of the router's
  first_found : (a.moved || b.moved) ≡ false → (cause : Cause) → first_cause (lower a.full b.full ∷ lower a.waits b.waits ∷ lower a.empty b.empty ∷ []) ≡ Some cause
      → first_cause (lowest (map full_cause (router_ports after)) ∷ lowest (map empty_cause (router_rings after)) ∷ []) ≡ Some cause
  first_found e cause is = ap (λ (c : Option Cause). first_cause (c ∷ lowest (map empty_cause (router_rings after)) ∷ [])) (sym (fulls e)) ∙ by_full (lower a.full b.full) refl
      (sym (first_of (lower a.full b.full) (lower a.empty b.empty)) ∙ sym (ap (λ (c : Option Cause). first_cause (lower a.full b.full ∷ c ∷ lower a.empty b.empty ∷ [])) waits_none) ∙ is)
    where
      by_full : (full : Option Cause) → lower a.full b.full ≡ full → first_cause (full ∷ lower a.empty b.empty ∷ []) ≡ Some cause → first_cause (full ∷ lowest (map empty_cause (router_rings after)) ∷ []) ≡ Some cause
      by_full (Some c) x z = z
      by_full None x z = ap (λ (c : Option Cause). first_cause (None ∷ c ∷ [])) (sym (empties e x)) ∙ z

  answered : (answer : Turn) → IsTurnOf all_found_in done answer
      → IsAnswered (router_moves before) (router_moves after) done (lowest (map full_cause (router_ports after)) ∷ lowest (map empty_cause (router_rings after)) ∷ []) answer
  answered Moved is = moves.0 is
  answered Done is = (moves.1 is.0, is.1)
  answered (Idle cause) is = (moves.1 is.0, is.1, first_found is.0 cause is.2)

  unmoved : (answer : Turn) → IsTurnOf all_found_in done answer → answer ≢ Moved → (a.moved || b.moved) ≡ false
  unmoved Moved is other = absurd (other refl)
  unmoved Done is other = is.0
  unmoved (Idle cause) is other = is.0

  -- nothing moved in either direction
  pub router_rests : (answer : Turn) → IsTurnOf all_found_in done answer → answer ≢ Moved → IsRestedRouter before after
  router_rests answer is other = let still = or_parts a.moved b.moved (unmoved answer is other) in record {
    requests = record { rows = refl; lane = turn_p.rests still.0 };
    answers = record { rows = refl; lane = turn_q.rests still.1 };
  }

  pub router_turn : (answer : Turn) → IsTurnOf all_found_in done answer → IsRouterTurn before answer after
  router_turn answer is = record {
    answered = answered answer is;
    idle_requests = λ other. turn_p.idle (or_parts a.moved b.moved (unmoved answer is other)).0;
    idle_answers = λ other. turn_q.idle (or_parts a.moved b.moved (unmoved answer is other)).1;
    closed_requests = turn_p.closed;
    closed_answers = turn_q.closed;
    few_requests = turn_p.few_items;
    few_answers = turn_q.few_items;
    served_requests = turn_p.served;
    served_answers = turn_q.served;
    held_requests = turn_p.held_awaits_busy;
    held_answers = turn_q.held_awaits_busy;
    sent_requests = turn_p.served_ports;
    sent_answers = turn_q.served_ports;
  }
