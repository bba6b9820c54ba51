-- One turn of a direction, of its parts.
use Rattle.std.proofs.Common.{◌≡◌, inl, inr, ℕ, ◌<◌, ◌||◌, Bool, true, false, cond, is_some, List, [], ◌∷◌, length, map, get_or, All, Option, Some, None, refl, sym, ap, ◌∙◌, subst, arith}
use Rattle.std.specs.List.{AllByRecursion}
use Rattle.std.proofs.lemmas.List.{get_or_default}
use Rattle.std.proofs.lemmas.List.Elements.{recursion_from_All}
use Rattle.std.proofs.lemmas.Bool.{or_parts}
use Rattle.sb_link.specs.declared.answers.Cause.{Cause}
use Rattle.sb_packet.specs.declared.packet.Packet.{Packet}
use Rattle.sb_port.specs.Ports.{owes, PortSide}
use Rattle.sb_node.specs.declared.findings.Findings.{Findings}
use Rattle.sb_node.specs.Sides.{has_rest, is_full}
use Rattle.sb_node.specs.Turns.{empty_cause}
use Rattle.sb_node.proofs.Serving.{served_since}
use Rattle.sb_router.specs.Lanes.{InletState, LaneState, Route, inlet_at, next_place, no_inlet, no_port, outlet_at}
use Rattle.sb_router.specs.Steps.{AwaitsFullPort, HeldAwaitsBusy, IsSilent, Steps, WasBusy, WasOffered, steps_then}
use Rattle.sb_router.specs.Popping.{found_in_both, lower, lowest}
use Rattle.sb_router.specs.Rested.{IsRestedLane, IsToldMoved, rested_lane_then}
use Rattle.sb_router.specs.Turning.{HasClosed, HasHanded, HasPoppedEach, HasTurned, IsIdleLane, IsLaneTurn, IsSeen, IsServed, SendsNothing, pop_cause}
use Rattle.sb_router.specs.Forwarding.{IsWholeInlet, IsWholeLane}
use Rattle.sb_router.proofs.Lowest.{lower_none, neither_found}
use Rattle.sb_router.proofs.MoveSteps.{moved_then}
use Rattle.sb_router.proofs.NextPlaces.{next_within}
use Rattle.sb_router.proofs.Shapes.{steps_shape}
use Rattle.sb_router.proofs.WholeSteps.{not_silent, whole_steps}
use Rattle.sb_link.specs.declared.answers.Cause.TheVariants as causes

or_none : (a : Bool) → (a || false) ≡ a
or_none true = refl
or_none false = refl

-- where nothing is held, a ring that didn't give its Close is a cause
same_cause : (x : InletState) → IsWholeInlet x → x.held ≡ None → pop_cause x ≡ empty_cause x.ring
same_cause x w free = ap (λ (b : Bool). cond b None (Some (causes.Empty x.ring.plan.ring (length x.ring.received) x.ring.known)))
    (ap (λ (h : Option Packet). x.ended || is_some h) free ∙ or_none x.ended ∙ w.ended)

same_causes : (xs : List InletState) → AllByRecursion IsWholeInlet xs → AllByRecursion (λ x. x.held ≡ None) xs → map pop_cause xs ≡ map (λ x. empty_cause x.ring) xs
same_causes [] w free = refl
same_causes (x ∷ xs) w free = ap (λ (c : Option Cause). c ∷ map pop_cause xs) (same_cause x w.0 free.0) ∙ ap (λ (l : List (Option Cause)). empty_cause x.ring ∷ l) (same_causes xs w.1 free.1)

module _ {route : Route} {s a b d t : LaneState} {popped turned : Findings} {handed : Bool} (whole : IsWholeLane route s)
    (pops : HasPoppedEach route s a popped) (hands : HasHanded route a b handed) (closes : HasClosed route b d) (turns : HasTurned (popped.moved || handed) d t turned) where
  all_steps : Steps route s t
  all_steps = steps_then (steps_then (steps_then pops.steps hands.steps) closes.steps) (turns.steps route)

  -- no part changes the rings that come in but the first two
  same_inlets : t.inlets ≡ b.inlets
  same_inlets = turns.inlets ∙ closes.inlets

  inlet_same : (i : ℕ) → inlet_at t i ≡ inlet_at b i
  inlet_same i = ap (λ (l : List InletState). get_or l i no_inlet) same_inlets

  abbrev pub found : Findings
  found = found_in_both (record popped { moved = popped.moved || handed }) turned

  none_moved : ((popped.moved || handed) || turned.moved) ≡ false → (popped.moved ≡ false) × (handed ≡ false) × (turned.moved ≡ false)
  none_moved e = let two = or_parts (popped.moved || handed) turned.moved e in let one = or_parts popped.moved handed two.0 in (one.0, one.1, two.1)

  -- nothing was popped or handed on
  none_came : popped.moved ≡ false → handed ≡ false → (popped.moved || handed) ≡ false
  none_came p h = ap (λ (b : Bool). b || handed) p ∙ h

  -- no port sent anything before it was turned
  unsent : SendsNothing s d
  unsent o = closes.unsent o ∙ hands.unsent o ∙ ap (λ (l : List PortSide). (get_or l o no_port).state.sent) pops.outlets

  count_same : length t.outlets ≡ length s.outlets
  count_same = (steps_shape all_steps).outlets

  -- what is held is for a port whose ring is full
  held_waits : popped.moved ≡ false → handed ≡ false → turned.moved ≡ false → (i : ℕ) (p : Packet) → i < length t.inlets → (inlet_at t i).held ≡ Some p
      → AwaitsFullPort route t i p
  held_waits e h m i p lt held =
      let inside : i < length b.inlets = omega (arith, lt, ap length same_inlets) in
      let held_before : (inlet_at b i).held ≡ Some p = sym (ap (λ (x : InletState). x.held) (inlet_same i)) ∙ held in
      let waits = (hands.waiting h i inside).owing p held_before in
      let o = waits.0 in
      let whole_b = whole_steps whole (steps_then pops.steps hands.steps) in
      let within = next_within route (inlet_at b i).ring.plan p o (length b.outlets) whole_b.routed waits.1 in
      let unclosed : d ≡ b = closes.untold (not_silent b i p inside held_before) in
      let within_t : o < length t.outlets = omega (arith, within, (steps_shape closes.steps).outlets, (steps_shape (turns.steps route)).outlets) in
      let idle = turns.idle m (none_came e h) o within_t in
      let owing : owes (outlet_at t o).state ≡ true = ap owes idle.same ∙ ap (λ (x : LaneState). owes (outlet_at x o).state) unclosed ∙ waits.2 in
      let rest : has_rest (outlet_at t o) ≡ true = ap (λ (y : Bool). y || is_some (outlet_at t o).state.waiting.held) owing in
      record { place = o; within = within_t; next = ap (λ (x : InletState). next_place route x.ring.plan p) (inlet_same i) ∙ waits.1; owing = owing; full = idle.rest rest }

  seen : popped.moved ≡ false → handed ≡ false → All IsSeen t.inlets
  seen p h = subst (λ (l : List InletState). All IsSeen l) (sym (same_inlets ∙ ap (λ (x : LaneState). x.inlets) (hands.still h))) (pops.seen p)

  is_idle : popped.moved ≡ false → handed ≡ false → turned.moved ≡ false → IsIdleLane route t
  is_idle p h m = record {
    held_awaits_full = held_waits p h m;
    owing_are_full = λ k none lt. subst (λ (y : PortSide). has_rest y ≡ true → is_full y ≡ true) (get_or_default t.outlets k no_port none lt) (turns.idle m (none_came p h) k lt).rest;
    open_are_seen = seen p h;
  }

  empty_found : popped.moved ≡ false → handed ≡ false → All (λ x. x.held ≡ None) t.inlets → popped.empty ≡ lowest (map (λ x. empty_cause x.ring) t.inlets)
  empty_found p h free = pops.empty p ∙ ap (λ (l : List InletState). lowest (map pop_cause l)) (sym (same_inlets ∙ ap (λ (x : LaneState). x.inlets) (hands.still h)))
      ∙ ap lowest (same_causes t.inlets (recursion_from_All IsWholeInlet t.inlets (whole_steps whole all_steps).inlets) (recursion_from_All (λ x. x.held ≡ None) t.inlets free))

  -- a port that was busy in the handing on was busy in the turn
  busy_since : (o : ℕ) → WasBusy (outlet_at a o) (outlet_at b o) → WasBusy (outlet_at s o) (outlet_at t o)
  busy_since o (inl owed) = inl (ap (λ (l : List PortSide). owes (get_or l o no_port).state) (sym pops.outlets) ∙ owed)
  busy_since o (inr offered) = inr (subst (λ (y : PortSide). WasOffered y (outlet_at t o)) (ap (λ (l : List PortSide). get_or l o no_port) pops.outlets)
      (record { packet = offered.packet; others = offered.others; pass = offered.pass; words = turns.words o ∙ closes.words o ∙ offered.words }))

  busy_still : HeldAwaitsBusy route s t
  busy_still i p lt held =
      let held_before : (inlet_at b i).held ≡ Some p = sym (ap (λ (x : InletState). x.held) (inlet_same i)) ∙ held in
      let awaits = hands.held_awaits_busy i p (omega (arith, lt, ap length same_inlets)) held_before in
      record {
        place = awaits.place;
        within = omega (arith, awaits.within, (steps_shape closes.steps).outlets, (steps_shape (turns.steps route)).outlets);
        is_next = ap (λ (x : InletState). next_place route x.ring.plan p) (inlet_same i) ∙ awaits.is_next;
        busy = busy_since awaits.place awaits.busy;
      }

  pub lane_turn : IsLaneTurn route s t found
  lane_turn = record {
    steps = all_steps;
    rests = λ e. let none = none_moved e in rested_lane_then (rested_lane_then (subst (λ (x : LaneState). IsRestedLane s x) (sym (hands.still none.1)) (pops.rests none.0)) closes.rests) (turns.rests none.2);
    moved = moved_then (popped.moved || handed) turned.moved
        (subst (λ (x : Bool). IsToldMoved s d x) (or_none (popped.moved || handed)) (moved_then (popped.moved || handed) false (moved_then popped.moved handed pops.moved hands.moved_is) closes.moved)) turns.moved;
    few_items = λ i. let one = pops.few_items i in let first = ap (λ (x : InletState). length x.ring.received) (inlet_same i) in let second = ap (λ ring. length ring.received) (hands.rings i) in omega (arith, one, first, second);
    held_awaits_busy = busy_still;
    served = λ i lt. subst (λ ring. IsServed (inlet_at s i) ring) (sym (ap (λ (x : InletState). x.ring) (inlet_same i) ∙ hands.rings i)) (pops.served i lt);
    served_ports = λ o lt. served_since (outlet_at s o) (outlet_at d o) (outlet_at t o) (unsent o) (turns.served o (omega (arith, lt, count_same, (steps_shape (turns.steps route)).outlets)));
    closed = λ silent o lt. turns.told o ∙ closes.told (subst (λ (l : List InletState). All IsSilent l) same_inlets silent) o (omega (arith, lt, (steps_shape (turns.steps route)).outlets));
    idle = λ e. let none = none_moved e in is_idle none.0 none.1 none.2;
    full = λ e. let none = none_moved e in ap (λ (c : Option Cause). lower c turned.full) pops.full ∙ turns.full none.2 (none_came none.0 none.1);
    waits = neither_found pops.waits turns.waits;
    empty = λ e free. let none = none_moved e in ap (lower popped.empty) turns.empty ∙ lower_none popped.empty ∙ empty_found none.0 none.1 free;
  }

  pub lane_whole : IsWholeLane route t
  lane_whole = whole_steps whole all_steps
