-- Routers as they stand in a network keep the promises of whole runs.
use Rattle.std.proofs.Common.{◌≡◌, ◌≢◌, ◌<◌, ℕ, true, false, List, [], ◌∷◌, ◌++◌, length, All, refl, sym, ap, ◌∙◌, arith, subst, inl, inr}
use Rattle.std.specs.Prelude.{◌⊎◌, filter, map, sum_by, Option, Some, None, get_or, slice_index_or}
use Rattle.std.specs.Option.{option_and_then, option_map}
use Rattle.std.proofs.lemmas.List.{get_or-map, length-map}
use Rattle.std.proofs.lemmas.List.Elements.{All-from_get_or}
use Rattle.std.proofs.lemmas.List.Sums.{sum_by-cons}
use Rattle.sb_link.specs.declared.answers.Turn.{Turn}
use Rattle.sb_link.specs.declared.answers.Turn.TheVariants.{Moved}
use Rattle.sb_packet.specs.Accesses.{Access}
use Rattle.sb_packet.specs.Networks.{Network}
use Rattle.sb_link.specs.RingPlans.{NetFlow}
use Rattle.sb_link.specs.Prefixes.{IsSubsequence}
use Rattle.sb_link.specs.Traffic.{has_close, item_accesses}
use Rattle.sb_packet.specs.declared.packet.Packet.{Packet}
use Rattle.sb_node.specs.Sides.{is_drained, received_words}
use Rattle.sb_router.specs.Forwarding.{HasForwarded, IsWholeLane, Passes, popped_for}
use Rattle.sb_router.specs.Forwarding as router
use Rattle.sb_port.specs.Ports.{PortSide}
use Rattle.sb_router.specs.Lanes.{InletState, LaneState, Route, came_at, held_words_at, held_words, inlet_at, no_inlet, no_port, next_place, offered_at, outlet_at}
use Rattle.sb_router.specs.Ways.{route_of}
use Rattle.sb_router.specs.Routers.{IsRouterTurn, IsWholeRouter, RouterSide}
use Rattle.sb_router.specs.Steps.{AwaitsFullPort, IsSilent}
use Rattle.sb_router.specs.Turning.{IsIdleLane}
use Rattle.sb_laws.specs.Flows.{Course, came_for_ring, is_of_ring, words_of_flow}
use Rattle.sb_device.specs.Served.{AreSound}
use Rattle.sb_laws.specs.Moments.{Moment, arrived}
use Rattle.sb_laws.specs.Runs.{ForwardsFlow}
use Rattle.sb_laws.specs.RouterSides.{ComesInto, HasInlet, HasLane, IsAtStage, IsIdleAtRings, IsRouterOf, Leaves, ShowsInlet, ShowsLane, course_words, ring_ins, ring_next}
use Rattle.sb_laws.specs.NodeSides.{HasPort, ShowsPort}
use Rattle.sb_laws.specs.Standstills.{IsIdleReceiver, IsIdleSender, IsReceiverBlocked, RoundEnd, Stages}
use Rattle.sb_laws.proofs.SidePromises.{idle_port}
use Rattle.sb_laws.proofs.Sums.{sum_by_same}

-- a sum over the numbers of rings
sum_by_numbers : (g : ℕ → ℕ) (xs : List InletState) → sum_by g (map (λ x. x.ring.plan.ring) xs) ≡ sum_by (λ x. g x.ring.plan.ring) xs
sum_by_numbers g [] = refl
sum_by_numbers g (x ∷ xs) =
    let rest = sum_by_numbers g xs in
    omega (arith, sum_by-cons g x.ring.plan.ring (map (λ (y : InletState). y.ring.plan.ring) xs), sum_by-cons (λ (y : InletState). g y.ring.plan.ring) x xs)

module _ (network : Network) (c : Course) (m : Moment) (outs : List ℕ) (route : Route) (s : LaneState) (has : HasLane m s) (of : IsRouterOf c outs s) (whole : IsWholeLane route s) where
  -- the number of the ring at a place
  number_at : (o : ℕ) → o < length s.outlets → slice_index_or outs o 0 ≡ (outlet_at s o).plan.ring
  number_at o lt = ap (λ (l : List ℕ). slice_index_or l o 0) (sym of.sends_by) ∙ get_or-map (λ (y : PortSide). y.plan.ring) s.outlets o no_port 0 lt

  came_by : (x : InletState) → HasInlet m x → arrived m x.ring.plan.ring ≡ received_words x.ring
  came_by x inlet = ap item_accesses inlet.ring.received

  -- what came to the router for a ring is what was popped for it
  popped : (o : ℕ) → o < length s.outlets → came_for_ring network c m (outlet_at s o).plan.ring ≡ popped_for (course_words network c outs) s o
  popped o lt =
      let r = (outlet_at s o).plan.ring in
      let of_number : ℕ → ℕ = λ k. length (filter (is_of_ring network c r) (arrived m k)) in
      ap (sum_by of_number) (of.ins o no_port lt) ∙ sum_by_numbers of_number s.inlets
      ∙ sum_by_same (λ (x : InletState). of_number x.ring.plan.ring) (router.came_for (course_words network c outs) o) s.inlets
      (λ i d below. let x = get_or s.inlets i d in
      ap (λ (l : List Access). length (filter (is_of_ring network c r) l)) (came_by x (has.inlets i d below))
      ∙ ap (λ (k : ℕ). length (filter (is_of_ring network c k) (received_words x.ring))) (sym (number_at o lt)))

  -- and what was popped is sound
  all_sound : (o : ℕ) → o < length s.outlets → All (λ k. AreSound (m.received k)) (c.ins (outlet_at s o).plan.ring) → router.HasSoundInlets s
  all_sound o lt sound i d below =
      let numbers : All (λ k. AreSound (m.received k)) (ring_ins s) = subst (All (λ k. AreSound (m.received k))) (of.ins o no_port lt) sound in
      let there = numbers i 0 (omega (arith, below, length-map s.inlets (λ (x : InletState). x.ring.plan.ring))) in
      let at = subst (λ (k : ℕ). AreSound (m.received k)) (get_or-map (λ (x : InletState). x.ring.plan.ring) s.inlets i d 0 below) there in
      subst AreSound (has.inlets i d below).ring.received at

  module _ (f : NetFlow) (i o : ℕ) (passes : Passes route s f i o) (h : HasForwarded (course_words network c outs) s f i o) where
    inlet : HasInlet m (inlet_at s i)
    inlet = has.inlets i no_inlet passes.inlet

    port : HasPort m (outlet_at s o).plan.ring (outlet_at s o)
    port = has.outlets o no_port passes.outlet

    came : words_of_flow network f (arrived m (inlet_at s i).ring.plan.ring) ≡ words_of_flow network f (came_at s i)
    came = ap (words_of_flow network f) (came_by (inlet_at s i) inlet)

    offered : words_of_flow network f (m.offered (outlet_at s o).plan.ring) ≡ words_of_flow network f (offered_at s o)
    offered = ap (words_of_flow network f) port.offered

    held : words_of_flow network f (m.held (inlet_at s i).ring.plan.ring) ≡ words_of_flow network f (held_words_at s i)
    held = ap (words_of_flow network f) inlet.held

    pub router_promise : ForwardsFlow network c m f (inlet_at s i).ring.plan.ring (outlet_at s o).plan.ring
    router_promise = record {
      in_order = subst (λ (l : List Access). IsSubsequence l (words_of_flow network f (arrived m (inlet_at s i).ring.plan.ring))) (sym offered)
          (subst (IsSubsequence (words_of_flow network f (offered_at s o))) (sym came) h.in_order);
      whole = λ sound few.
          let budget = of.budgets o no_port passes.outlet in
          came ∙ h.whole (all_sound o passes.outlet sound) (omega (arith, few, budget, popped o passes.outlet))
          ∙ ap (λ (l : List Access). l ++ words_of_flow network f (held_words_at s i)) (sym offered)
          ∙ ap (λ (l : List Access). words_of_flow network f (m.offered (outlet_at s o).plan.ring) ++ l) (sym held);
      closed = λ close_sent.
          let fit = (whole.outlets o no_port passes.outlet).fit in
          let told = fit.told (fit.close ∙ ap has_close (sym port.sent) ∙ close_sent) in
          let silent = (whole.silent o passes.outlet told) i no_inlet passes.inlet in
          held ∙ ap (λ (p : Option Packet). words_of_flow network f (held_words p)) silent.free;
    }

module _ (stages : Stages) (e : RoundEnd) (stage : ℕ) (route : Route) (s : LaneState) (shows : ShowsLane e route s) (at : IsAtStage stages stage s) (whole : IsWholeLane route s) (idle : IsIdleLane route s) where
  -- what is held goes to a ring
  next_of : (i : ℕ) (p : Packet) → (inlet_at s i).held ≡ Some p → (a : AwaitsFullPort route s i p) → ring_next route s (inlet_at s i) ≡ Some (outlet_at s a.place).plan.ring
  next_of i p is a =
      ap (λ (h : Option Packet). option_map (λ o. (outlet_at s o).plan.ring) (option_and_then (next_place route (inlet_at s i).ring.plan) h)) is
      ∙ ap (option_map (λ o. (outlet_at s o).plan.ring)) a.next

  -- nothing is held, or it is for a ring
  none_next : (i : ℕ) → (inlet_at s i).held ≡ None → ring_next route s (inlet_at s i) ≡ None
  none_next i is = ap (λ (h : Option Packet). option_map (λ o. (outlet_at s o).plan.ring) (option_and_then (next_place route (inlet_at s i).ring.plan) h)) is

  -- where nothing is held for a ring nothing is held
  nothing_held : (i : ℕ) → i < length s.inlets → e.holds (inlet_at s i).ring.plan.ring ≡ None → (inlet_at s i).held ≡ None
  nothing_held i lt none = by_held (inlet_at s i).held refl
    where
      by_held : (h : Option Packet) → (inlet_at s i).held ≡ h → (inlet_at s i).held ≡ None
      by_held None is = is
      by_held (Some p) is =
          let next = next_of i p is (idle.held_awaits_full i p lt is) in
          let shown = (shows.inlets i no_inlet lt).holds in
          absurd (let never = sym none ∙ shown ∙ next in cc)

  idle_receiver : (i : ℕ) → i < length s.inlets → IsIdleReceiver stages e (inlet_at s i).ring.plan.ring
  idle_receiver i lt = record {
    held = λ p is. held_for p is (inlet_at s i).held refl;
    none_held = λ none. shown.lists.held ∙ ap held_words (nothing_held i lt none);
    drained = λ unended. by_cause unended (idle.open_are_seen i no_inlet lt);
  }
    where
      shown : ShowsInlet e route s (inlet_at s i)
      shown = shows.inlets i no_inlet lt

      comes : ComesInto stages stage (inlet_at s i).ring.plan.ring
      comes = at.ins i no_inlet lt

      held_for : (p : ℕ) → e.holds (inlet_at s i).ring.plan.ring ≡ Some p → (h : Option Packet) → (inlet_at s i).held ≡ h → (p < stages.rings) × (stages.from p ≡ stages.to (inlet_at s i).ring.plan.ring) × (e.full p ≡ true)
      held_for p is None none = absurd (let never : Some p ≡ None = sym is ∙ shown.holds ∙ none_next i none in cc)
      held_for p is (Some q) some =
          let a = idle.held_awaits_full i q lt some in
          let same : Some p ≡ Some (outlet_at s a.place).plan.ring = sym is ∙ shown.holds ∙ next_of i q some a in
          let number : (outlet_at s a.place).plan.ring ≡ p = cc in
          let leaves = at.outs a.place no_port a.within in
          subst (λ (k : ℕ). (k < stages.rings) × (stages.from k ≡ stages.to (inlet_at s i).ring.plan.ring) × (e.full k ≡ true)) number
          (leaves.is_ring, leaves.from ∙ sym comes.to, (shows.outlets a.place no_port a.within).full ∙ a.full)

      some_held : ((inlet_at s i).held ≡ None → ⊥) → (h : Option Packet) → (inlet_at s i).held ≡ h → (p : ℕ) × (e.holds (inlet_at s i).ring.plan.ring ≡ Some p)
      some_held some None is = absurd (some is)
      some_held some (Some q) is = let a = idle.held_awaits_full i q lt is in ((outlet_at s a.place).plan.ring, shown.holds ∙ next_of i q is a)

      by_cause : has_close (e.at.received (inlet_at s i).ring.plan.ring) ≡ false → ((inlet_at s i).ended ≡ true) ⊎ (((inlet_at s i).held ≡ None → ⊥) ⊎ (is_drained (inlet_at s i).ring ≡ true)) →
          (e.empty (inlet_at s i).ring.plan.ring ≡ true) ⊎ (((p : ℕ) × (e.holds (inlet_at s i).ring.plan.ring ≡ Some p)) ⊎ IsReceiverBlocked stages e (inlet_at s i).ring.plan.ring)
      by_cause unended (inl ended) = absurd (let never : true ≡ false = sym ended ∙ (whole.inlets i no_inlet lt).ended ∙ ap has_close (sym shown.lists.ring.received) ∙ unended in cc)
      by_cause unended (inr (inl some)) = inr (inl (some_held some (inlet_at s i).held refl))
      by_cause unended (inr (inr drained)) = inl (shown.ring.empty ∙ drained)

  pub idle_receivers : All (λ x. IsIdleReceiver stages e x.ring.plan.ring) s.inlets
  idle_receivers = All-from_get_or (λ (x : InletState). IsIdleReceiver stages e x.ring.plan.ring) s.inlets no_inlet idle_receiver

  module _ (closes : All IsSilent s.inlets → (o : ℕ) → o < length s.outlets → (outlet_at s o).state.close_requested ≡ true) where
    idle_sender : (o : ℕ) → o < length s.outlets → IsIdleSender stages e (outlet_at s o).plan.ring
    idle_sender o lt = record {
      port = idle_port e (outlet_at s o).plan.ring (outlet_at s o) (whole.outlets o no_port lt).fit shown (idle.owing_are_full o no_port lt);
      host = λ yes. absurd (let never : true ≡ false = sym yes ∙ leaves.no_host in cc);
      node = λ no all. shown.told ∙ closes (All-from_get_or IsSilent s.inlets no_inlet (λ i below. silent i below (all (inlet_at s i).ring.plan.ring (at.ins i no_inlet below).is_ring (at.ins i no_inlet below).ends_here ((at.ins i no_inlet below).to ∙ sym leaves.from)))) o lt;
    }
      where
        shown : ShowsPort e (outlet_at s o).plan.ring (outlet_at s o)
        shown = shows.outlets o no_port lt

        leaves : Leaves stages stage (outlet_at s o).plan.ring
        leaves = at.outs o no_port lt

        silent : (i : ℕ) → i < length s.inlets → (has_close (e.at.received (inlet_at s i).ring.plan.ring) ≡ true) × (e.holds (inlet_at s i).ring.plan.ring ≡ None) → IsSilent (inlet_at s i)
        silent i below done = record {
          ended = (whole.inlets i no_inlet below).ended ∙ ap has_close (sym (shows.inlets i no_inlet below).lists.ring.received) ∙ done.0;
          free = nothing_held i below done.1;
        }

    pub idle_senders : All (λ y. IsIdleSender stages e y.plan.ring) s.outlets
    idle_senders = All-from_get_or (λ (y : PortSide). IsIdleSender stages e y.plan.ring) s.outlets no_port idle_sender

-- a router that didn't move is idle, in both directions
pub unmoved_requests : (stages : Stages) (e : RoundEnd) (stage : ℕ) (before after : RouterSide) (answer : Turn) → IsWholeRouter after → IsRouterTurn before answer after → answer ≢ Moved →
    ShowsLane e (route_of after.requests.rows) after.requests.lane → IsAtStage stages stage after.requests.lane → IsIdleAtRings stages e after.requests.lane
unmoved_requests stages e stage before after answer whole turn still shows at = record {
  receivers = idle_receivers stages e stage (route_of after.requests.rows) after.requests.lane shows at whole.requests (turn.idle_requests still);
  senders = idle_senders stages e stage (route_of after.requests.rows) after.requests.lane shows at whole.requests (turn.idle_requests still) turn.closed_requests;
}

pub unmoved_answers : (stages : Stages) (e : RoundEnd) (stage : ℕ) (before after : RouterSide) (answer : Turn) → IsWholeRouter after → IsRouterTurn before answer after → answer ≢ Moved →
    ShowsLane e (route_of after.answers.rows) after.answers.lane → IsAtStage stages stage after.answers.lane → IsIdleAtRings stages e after.answers.lane
unmoved_answers stages e stage before after answer whole turn still shows at = record {
  receivers = idle_receivers stages e stage (route_of after.answers.rows) after.answers.lane shows at whole.answers (turn.idle_answers still);
  senders = idle_senders stages e stage (route_of after.answers.rows) after.answers.lane shows at whole.answers (turn.idle_answers still) turn.closed_answers;
}
