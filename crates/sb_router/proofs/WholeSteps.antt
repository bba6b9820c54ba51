-- A direction stays whole, step by step.
use Rattle.std.proofs.Common.{◌≡◌, ℕ, ◌<◌, true, false, List, [], ◌∷◌, ◌++◌, length, set, get_or, All, Some, sym, ap, ◌∙◌, subst, arith}
use Rattle.std.proofs.lemmas.List.{length-set}
use Rattle.std.proofs.lemmas.List.Elements.{All-get_or, All-set}
use Rattle.sb_packet.specs.Messages.{message_of}
use Rattle.sb_link.specs.RingPlans.{RingPlan}
use Rattle.sb_link.specs.Traffic.{IsCarriable, has_close, is_close}
use Rattle.sb_packet.specs.declared.packet.Packet.{Packet}
use Rattle.sb_packet.specs.declared.item.Item.{Item}
use Rattle.sb_port.proofs.Items.{has_close-close, has_close-packet}
use Rattle.sb_port.specs.Ports.{PortSide}
use Rattle.sb_router.specs.Lanes.{InletState, LaneState, Route, inlet_at, no_inlet, no_port, outlet_at}
use Rattle.sb_router.specs.Steps.{IsTakenByInlet, IsSilent, IsUnmoved, Step, Steps, receives, looks, drops, offers, turns, tells, none, further, emptied, held_of}
use Rattle.sb_router.specs.Ways.{route_of}
use Rattle.sb_router.specs.declared.routes.Routes.{Routes}
use Rattle.sb_router.specs.Forwarding.{IsWholeInlet, IsWholeLane, IsWholeOutlet}
use Rattle.sb_router.proofs.Places.{at_each}
use Rattle.sb_packet.specs.declared.item.Item.TheVariants as items

-- the last item says whether a Close was given, where none was before
closes : (list : List Item) (item : Item) → has_close list ≡ false → has_close (list ++ item ∷ []) ≡ is_close item
closes list (items.Packet p) e = has_close-packet list p ∙ e
closes list items.Close e = has_close-close list

-- the packet that is held is the item
holds_item : (item : Item) (p : Packet) → held_of item ≡ Some p → item ≡ items.Packet p
holds_item (items.Packet q) p e = let same : q ≡ p = cc in ap (λ (r : Packet). items.Packet r) same
holds_item items.Close p e = let no_way : ⊥ = cc in absurd no_way

whole_received : (before after : InletState) (item : Item) → IsWholeInlet before → IsTakenByInlet before after item → IsWholeInlet after
whole_received before after item w is = record {
  ended = is.ended ∙ sym (ap has_close is.received ∙ closes before.ring.received item (sym w.ended ∙ is.open_before));
  last = λ p e. let is_p = holds_item item p (sym is.held ∙ e) in record { before = before.ring.received; joined = is.received ∙ ap (λ (i : Item). before.ring.received ++ i ∷ []) is_p };
  carriable = λ p e. subst (λ (plan : RingPlan). IsCarriable plan (message_of p)) (sym is.kept.plan) (is.lawful.fit p (holds_item item p (sym is.held ∙ e)));
}

whole_unmoved : (before after : InletState) → IsWholeInlet before → IsUnmoved before after → IsWholeInlet after
whole_unmoved before after w is = record {
  ended = is.ended ∙ w.ended ∙ sym (ap has_close is.received);
  last = λ p e. let last = w.last p (sym is.held ∙ e) in record { before = last.before; joined = is.received ∙ last.joined };
  carriable = λ p e. subst (λ (plan : RingPlan). IsCarriable plan (message_of p)) (sym is.kept.plan) (w.carriable p (sym is.held ∙ e));
}

whole_emptied : (before : InletState) → IsWholeInlet before → IsWholeInlet (emptied before)
whole_emptied before w = record {
  ended = w.ended;
  last = λ p e. let no_way : ⊥ = cc in absurd no_way;
  carriable = λ p e. let no_way : ⊥ = cc in absurd no_way;
}

-- where something is held not all is silent
pub not_silent : (s : LaneState) (i : ℕ) (p : Packet) → i < length s.inlets → (inlet_at s i).held ≡ Some p → All IsSilent s.inlets → ⊥
not_silent s i p lt held silent = let at = All-get_or IsSilent s.inlets i no_inlet lt silent in let none = at.free in cc

-- nor where a ring is open
not_ended : (s : LaneState) (i : ℕ) → i < length s.inlets → (inlet_at s i).ended ≡ false → All IsSilent s.inlets → ⊥
not_ended s i lt open' silent = let at = All-get_or IsSilent s.inlets i no_inlet lt silent in let ended = at.ended in cc

-- a port of a list in which one was set was told, where that one wasn't
pub told_before : (s : LaneState) (o q : ℕ) (y : PortSide) → o < length s.outlets → (y.state.close_requested ≡ true → (outlet_at s o).state.close_requested ≡ true)
    → (get_or (set s.outlets o y) q no_port).state.close_requested ≡ true → (outlet_at s q).state.close_requested ≡ true
told_before s o q y lt same = at_each s.outlets o y no_port lt (λ q z. z.state.close_requested ≡ true → (outlet_at s q).state.close_requested ≡ true) same (λ q e. e) q

pub whole_step : {route : Route} {s t : LaneState} → IsWholeLane route s → Step route s t → IsWholeLane route t
whole_step {route} {s} w (receives i x item lt is) = record {
  inlets = All-set IsWholeInlet s.inlets i x (whole_received (inlet_at s i) x item (All-get_or IsWholeInlet s.inlets i no_inlet lt w.inlets) is) w.inlets;
  outlets = w.outlets;
  silent = λ o within told. absurd (not_ended s i lt is.open_before (w.silent o within told));
  routed = w.routed;
}
whole_step {route} {s} w (looks i x lt is) = record {
  inlets = All-set IsWholeInlet s.inlets i x (whole_unmoved (inlet_at s i) x (All-get_or IsWholeInlet s.inlets i no_inlet lt w.inlets) is) w.inlets;
  outlets = w.outlets;
  silent = λ o within told. let silent = w.silent o within told in let at = All-get_or IsSilent s.inlets i no_inlet lt silent in
      All-set IsSilent s.inlets i x (record { ended = is.ended ∙ at.ended; free = is.held ∙ at.free }) silent;
  routed = w.routed;
}
whole_step {route} {s} w (drops i p lt held refused) = record {
  inlets = All-set IsWholeInlet s.inlets i (emptied (inlet_at s i)) (whole_emptied (inlet_at s i) (All-get_or IsWholeInlet s.inlets i no_inlet lt w.inlets)) w.inlets;
  outlets = w.outlets;
  silent = λ o within told. absurd (not_silent s i p lt held (w.silent o within told));
  routed = w.routed;
}
whole_step {route} {s} w (offers i o p y lt within held next is) =
    record {
      inlets = All-set IsWholeInlet s.inlets i (emptied (inlet_at s i)) (whole_emptied (inlet_at s i) (All-get_or IsWholeInlet s.inlets i no_inlet lt w.inlets)) w.inlets;
      outlets = All-set IsWholeOutlet s.outlets o y (record { fit = is.fit }) w.outlets;
      silent = λ q inside told.
          let untold = is.untold in
          let before = told_before s o q y within (λ e. let no_way : ⊥ = cc in absurd no_way) told in
          absurd (not_silent s i p lt held (w.silent q (omega (arith, inside, length-set s.outlets o y)) before));
      routed = λ f q e. let r = w.routed f q e in omega (arith, r, length-set s.outlets o y);
    }
whole_step {route} {s} w (turns o y within is) =
    record {
      inlets = w.inlets;
      outlets = All-set IsWholeOutlet s.outlets o y (record { fit = is.fit }) w.outlets;
      silent = λ q inside told. w.silent q (omega (arith, inside, length-set s.outlets o y)) (told_before s o q y within (λ e. sym is.told ∙ e) told);
      routed = λ f q e. let r = w.routed f q e in omega (arith, r, length-set s.outlets o y);
    }
whole_step {route} {s} w (tells o y within silent is) =
    record {
      inlets = w.inlets;
      outlets = All-set IsWholeOutlet s.outlets o y (record { fit = is.fit }) w.outlets;
      silent = λ q inside told. silent;
      routed = λ f q e. let r = w.routed f q e in omega (arith, r, length-set s.outlets o y);
    }

pub whole_steps : {route : Route} {s t : LaneState} → IsWholeLane route s → Steps route s t → IsWholeLane route t
whole_steps w none = w
whole_steps w (further before step) = whole_step (whole_steps w before) step

-- so it does by a table that is as it was
pub still_whole : {before after : Routes} {s t : LaneState} → after ≡ before → IsWholeLane (route_of before.rows.items) s → Steps (route_of before.rows.items) s t → IsWholeLane (route_of after.rows.items) t
still_whole {before} {after} {s} {t} same whole steps = subst (λ (routes : Routes). IsWholeLane (route_of routes.rows.items) t) (sym same) (whole_steps whole steps)
