-- What a router promises is not touched by a meeting of its ends.
use Rattle.std.proofs.Common.{◌≡◌, ◌<◌, ℕ, suc, List, [], ◌∷◌, ◌++◌, length, All, refl, sym, ap, ◌∙◌, arith, subst}
use Rattle.std.specs.Prelude.{filter, sum_by, Option, get_or}
use Rattle.std.proofs.lemmas.List.Elements.{All-from_get_or}
use Rattle.std.proofs.lemmas.List.Sums.{sum_by-cons}
use Rattle.sb_packet.specs.Accesses.{Access}
use Rattle.sb_packet.specs.Messages.{message_of}
use Rattle.sb_link.specs.RingPlans.{NetFlow, RingPlan, goes_through, message_flow}
use Rattle.sb_link.specs.Prefixes.{IsSubsequence}
use Rattle.sb_packet.specs.Cuts.{IsSound}
use Rattle.sb_link.specs.Traffic.{IsCarriable, IsPlanned, has_close, item_accesses, item_messages}
use Rattle.sb_packet.specs.declared.item.Item.{Item}
use Rattle.sb_packet.specs.declared.packet.Packet.{Packet}
use Rattle.sb_port.specs.Ports.{IsFit, PortState, port_accesses}
use Rattle.sb_router.specs.Forwarding.{Forwards, HasSoundInlets, IsLaid, IsLast, IsWholeInlet, IsWholeLane, IsWholeOutlet, Passes, Words, came_for, held_for, part, popped_for}
use Rattle.sb_router.specs.Lanes.{InletState, LaneState, Route, came_at, held_words_at, held_words, inlet_at, next_place, no_inlet, no_port, offered_at, outlet_at}
use Rattle.sb_router.specs.Ways.{route_of}
use Rattle.sb_router.specs.Routers.{DirectionSide, ForwardsAll, IsWholeDirection}
use Rattle.sb_router.specs.Steps.{IsSilent}
use Rattle.sb_laws.specs.RouterSides.{IsDirectionMet}

-- sums over lists that are alike at each place
sum_by_alike : (f : InletState → ℕ) (xs ys : List InletState) (d : InletState) → length xs ≡ length ys → ((i : ℕ) → i < length xs → f (get_or xs i d) ≡ f (get_or ys i d)) → sum_by f xs ≡ sum_by f ys
sum_by_alike f [] [] d long same = refl
sum_by_alike f [] (y ∷ ys) d long same = absurd (omega arith)
sum_by_alike f (x ∷ xs) [] d long same = absurd (omega arith)
sum_by_alike f (x ∷ xs) (y ∷ ys) d long same =
    let rest = sum_by_alike f xs ys d (omega arith) (λ i lt. same (suc i) (omega arith)) in
    let here : f x ≡ f y = same 0 (omega arith) in
    omega (arith, sum_by-cons f x xs, sum_by-cons f y ys)

module _ (before after : DirectionSide) (met : IsDirectionMet before after) where
  abbrev s : LaneState
  s = before.lane

  abbrev t : LaneState
  t = after.lane

  -- the plans of the rings stay
  plan_in : (i : ℕ) → (inlet_at t i).ring.plan ≡ (inlet_at s i).ring.plan
  plan_in i = (met.inlets i).ring.plan

  plan_out : (o : ℕ) → (outlet_at t o).plan ≡ (outlet_at s o).plan
  plan_out o = (met.outlets o).plan

  -- a flow that passes now passed before
  passed : (route : Route) (f : NetFlow) (i o : ℕ) → Passes route t f i o → Passes route s f i o
  passed route f i o passes = record {
    inlet = omega (arith, passes.inlet, met.inlet_count);
    outlet = omega (arith, passes.outlet, met.outlet_count);
    through = sym (ap (λ (plan : RingPlan). goes_through plan.flows f) (plan_in i)) ∙ passes.through;
    route_to = passes.route_to;
  }

  -- the rings belong together as before
  laid_again : (words : Words) (route : Route) → IsLaid words route s → IsLaid words route t
  laid_again words route laid = record {
    one_flow = λ i p g lt e. laid.one_flow i p g (omega (arith, lt, met.inlet_count)) (sym (ap (λ (plan : RingPlan). message_flow plan.flows (message_of p)) (plan_in i)) ∙ e);
    apart = λ f i j lt lt' a b. laid.apart f i j (omega (arith, lt, met.inlet_count)) (omega (arith, lt', met.inlet_count))
        (sym (ap (λ (plan : RingPlan). goes_through plan.flows f) (plan_in i)) ∙ a) (sym (ap (λ (plan : RingPlan). goes_through plan.flows f) (plan_in j)) ∙ b);
    leads_on = λ i o p lt planned next.
        let there : IsPlanned (outlet_at s o).plan (message_of p) = laid.leads_on i o p (omega (arith, lt, met.inlet_count)) (subst (λ (plan : RingPlan). IsPlanned plan (message_of p)) (plan_in i) planned)
        (sym (ap (λ (plan : RingPlan). next_place route plan p) (plan_in i)) ∙ next) in
        subst (λ (plan : RingPlan). IsPlanned plan (message_of p)) (sym (plan_out o)) there;
  }

  -- a direction with the table of before
  same_table : (P : Route → Type 0) → P (route_of before.rows) → P (route_of after.rows)
  same_table P h = subst (λ (rows : _). P (route_of rows)) (sym met.rows) h

  whole_inlet : (i : ℕ) → i < length s.inlets → All IsWholeInlet s.inlets → IsWholeInlet (inlet_at t i)
  whole_inlet i lt all =
      let r = met.inlets i in
      let w : IsWholeInlet (inlet_at s i) = all i no_inlet lt in
      record {
        ended = r.ended ∙ w.ended ∙ ap has_close (sym r.ring.received);
        last = λ p e. subst (IsLast p) (sym r.ring.received) (w.last p (sym r.held ∙ e));
        carriable = λ p e. subst (λ (plan : RingPlan). IsCarriable plan (message_of p)) (sym r.ring.plan) (w.carriable p (sym r.held ∙ e));
      }

  whole_outlet : (o : ℕ) → o < length s.outlets → All IsWholeOutlet s.outlets → IsWholeOutlet (outlet_at t o)
  whole_outlet o lt all =
      let r = met.outlets o in
      let w : IsWholeOutlet (outlet_at s o) = all o no_port lt in
      record {
        fit = subst (λ (plan : RingPlan). IsFit plan (outlet_at t o).state) (sym r.plan) (subst (IsFit (outlet_at s o).plan) (sym r.state) w.fit);
      }

  whole_lane : IsWholeLane (route_of before.rows) s → IsWholeLane (route_of before.rows) t
  whole_lane w = record {
    inlets = All-from_get_or IsWholeInlet t.inlets no_inlet (λ i lt. whole_inlet i (omega (arith, lt, met.inlet_count)) w.inlets);
    outlets = All-from_get_or IsWholeOutlet t.outlets no_port (λ o lt. whole_outlet o (omega (arith, lt, met.outlet_count)) w.outlets);
    silent = λ o lt told. All-from_get_or IsSilent t.inlets no_inlet (λ i within.
        let quiet = (w.silent o (omega (arith, lt, met.outlet_count)) (sym (ap (λ (p : PortState). p.close_requested) (met.outlets o).state) ∙ told)) i no_inlet (omega (arith, within, met.inlet_count)) in
        record { ended = (met.inlets i).ended ∙ quiet.ended; free = (met.inlets i).held ∙ quiet.free });
    routed = λ f o e. let within = w.routed f o e in omega (arith, within, met.outlet_count);
  }

  pub met_whole : IsWholeDirection before → IsWholeDirection after
  met_whole w = same_table (λ route. IsWholeLane route t) (whole_lane w)

  module _ (words : Words) where
    offered_same : (o : ℕ) → offered_at t o ≡ offered_at s o
    offered_same o = ap port_accesses (met.outlets o).state

    came_same : (i : ℕ) → came_at t i ≡ came_at s i
    came_same i = ap item_accesses (met.inlets i).ring.received

    held_same : (i : ℕ) → held_words_at t i ≡ held_words_at s i
    held_same i = ap held_words (met.inlets i).held

    popped_same : (o : ℕ) → popped_for words t o ≡ popped_for words s o
    popped_same o = sum_by_alike (came_for words o) t.inlets s.inlets no_inlet met.inlet_count (λ i lt. ap (λ (l : List Item). length (filter (words.goes_to o) (item_accesses l))) (met.inlets i).ring.received)

    waits_same : (o : ℕ) → sum_by (held_for words o) t.inlets ≡ sum_by (held_for words o) s.inlets
    waits_same o = sum_by_alike (held_for words o) t.inlets s.inlets no_inlet met.inlet_count (λ i lt. ap (λ (p : Option Packet). length (filter (words.goes_to o) (held_words p))) (met.inlets i).held)

    sound_before : HasSoundInlets t → HasSoundInlets s
    sound_before sound = All-from_get_or (λ (x : InletState). All IsSound (item_messages x.ring.received)) s.inlets no_inlet
        (λ i lt. subst (λ (l : List Item). All IsSound (item_messages l)) (met.inlets i).ring.received (sound i no_inlet (omega (arith, lt, met.inlet_count))))

    met_forwards : Forwards words (route_of before.rows) s → Forwards words (route_of before.rows) t
    met_forwards h = record {
      few = λ o. let old = h.few o in omega (arith, old, ap length (offered_same o), waits_same o, popped_same o);
      picks = λ f i o passes. subst (λ (l : List Access). IsSubsequence (part words f l ++ part words f (held_words_at t i)) (part words f (came_at t i))) (sym (offered_same o))
          (subst (λ (l : List Access). IsSubsequence (part words f (offered_at s o) ++ part words f l) (part words f (came_at t i))) (sym (held_same i))
          (subst (λ (l : List Access). IsSubsequence (part words f (offered_at s o) ++ part words f (held_words_at s i)) (part words f l)) (sym (came_same i)) (h.picks f i o (passed (route_of before.rows) f i o passes))));
      whole = λ f i o passes sound room.
          let budget : (outlet_at t o).plan.budget ≡ (outlet_at s o).plan.budget = ap (λ (plan : RingPlan). plan.budget) (met.outlets o).plan in
          ap (part words f) (came_same i) ∙ h.whole f i o (passed (route_of before.rows) f i o passes) (sound_before sound) (omega (arith, room, budget, popped_same o))
          ∙ ap (λ (l : List Access). part words f l ++ part words f (held_words_at s i)) (sym (offered_same o))
          ∙ ap (λ (l : List Access). part words f (offered_at t o) ++ part words f l) (sym (held_same i));
    }

    pub met_direction : ForwardsAll words before → ForwardsAll words after
    met_direction all = record {
      laid = same_table (λ route. IsLaid words route t) (laid_again words (route_of before.rows) all.laid);
      forwards = same_table (λ route. Forwards words route t) (met_forwards all.forwards);
    }
