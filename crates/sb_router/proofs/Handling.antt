-- The words of a direction while packets that are held are offered or dropped.
use Rattle.std.proofs.Common.{◌≡◌, inl, inr, ℕ, ◌<◌, ◌≤◌, ◌+◌, true, false, List, [], ◌∷◌, ◌++◌, length, set, get_or, All, Option, Some, None, refl, sym, ap, ◌∙◌, subst, arith, length-append}
use Rattle.std.specs.Prelude.{filter, sum_by}
use Rattle.std.specs.Option.{option_map_or}
use Rattle.std.proofs.lemmas.List.{append-nil, get_or_push, get_or-set_same, length-set}
use Rattle.std.proofs.lemmas.List.Elements.{filter-append, All-get_or}
use Rattle.std.proofs.lemmas.List.FromFn.{length-map-range_with_len}
use Rattle.std.proofs.lemmas.List.Sums.{get_or-le-sum_by, sum_by-set}
use Rattle.sb_packet.specs.Accesses.{Access, access_at, accesses_of}
use Rattle.sb_packet.specs.Messages.{Message, message_of}
use Rattle.sb_link.specs.RingPlans.{NetFlow, RingFlows, RingPlan, goes_through, is_allowed, message_flow}
use Rattle.sb_link.specs.Prefixes.{IsSubsequence}
use Rattle.sb_packet.specs.Cuts.{IsSound}
use Rattle.sb_link.specs.Traffic.{MayPass, item_messages}
use Rattle.sb_packet.specs.declared.packet.Packet.{Packet}
use Rattle.sb_packet.specs.declared.item.Item.{Item}
use Rattle.sb_port.proofs.Items.{item_messages-packet}
use Rattle.sb_port.specs.Ports.{offered_words, PortSide}
use Rattle.sb_node.specs.Sides.{received_words}
use Rattle.sb_router.specs.Lanes.{InletState, LaneState, Route, came_at, held_words_at, held_words, inlet_at, no_inlet, no_port, offered_at, outlet_at, next_place}
use Rattle.sb_router.specs.Steps.{IsGiven, IsRefused, emptied}
use Rattle.sb_router.specs.Forwarding.{Forwards, HasSoundInlets, IsLaid, IsOneFlow, IsWholeInlet, Passes, Words, came_for, held_for, part, popped_for}
use Rattle.sb_router.proofs.Places.{same_at_each, set_cases}
use Rattle.sb_router.proofs.NextPlaces.{next_flow}
use Rattle.sb_router.proofs.Shapes.{SameShape, inlets_shape, outlet_set, passed_before}
use Rattle.sb_router.proofs.Subsequences.{without_end}
use Rattle.sb_router.proofs.Forwards.{sound_before}
use Rattle.sb_packet.specs.declared.item.Item.TheVariants as items

-- what may go over a ring is of a flow that does
pub allowed_flow : (flows : RingFlows) (m : Message) → is_allowed flows m ≡ true → (g : NetFlow) × (message_flow flows m ≡ Some g) × (goes_through flows g ≡ true)
allowed_flow flows m e = by_flow (message_flow flows m) e
  where
    by_flow : (found : Option NetFlow) → option_map_or (goes_through flows) found false ≡ true → (g : NetFlow) × (found ≡ Some g) × (goes_through flows g ≡ true)
    by_flow (Some g) q = (g, refl, q)
    by_flow None q = let no_way : ⊥ = cc in absurd no_way

-- the last packet of a list of sound ones is sound
pub last_sound : (p : Packet) (list before : List Item) → list ≡ before ++ items.Packet p ∷ [] → All IsSound (item_messages list) → IsSound (message_of p)
last_sound p list before e all =
    let at : All IsSound (item_messages before ++ message_of p ∷ []) = subst (λ (l : List Message). All IsSound l) (ap item_messages e ∙ item_messages-packet before p) all in
    let lt : length (item_messages before) < length (item_messages before ++ message_of p ∷ []) = omega (arith, length-append (item_messages before) (message_of p ∷ [])) in
    subst IsSound (get_or_push (item_messages before) (message_of p) (message_of p) (length (item_messages before)) refl) (at (length (item_messages before)) (message_of p) lt)

module _ {words : Words} {route : Route} (s : LaneState) (laid : IsLaid words route s) (h : Forwards words route s) (i : ℕ) (p : Packet)
    (lt : i < length s.inlets) (held : (inlet_at s i).held ≡ Some p) (whole : IsWholeInlet (inlet_at s i)) where
  -- the rings that come in, without the packet
  abbrev pub rest : List InletState
  rest = set s.inlets i (emptied (inlet_at s i))

  found : (g : NetFlow) × (message_flow (inlet_at s i).ring.plan.flows (message_of p) ≡ Some g) × (goes_through (inlet_at s i).ring.plan.flows g ≡ true)
  found = allowed_flow (inlet_at s i).ring.plan.flows (message_of p) (whole.carriable p held).planned.allowed

  one : IsOneFlow words route found.0 (accesses_of p)
  one = laid.one_flow i p found.0 lt found.1

  its_words : held_words_at s i ≡ accesses_of p
  its_words = ap held_words held

  its_count : length (accesses_of p) ≡ (message_of p).count
  its_count = length-map-range_with_len (access_at (message_of p)) 0 (message_of p).count

  came_same : (j : ℕ) → (get_or rest j no_inlet).ring ≡ (inlet_at s j).ring
  came_same = same_at_each s.inlets i (emptied (inlet_at s i)) no_inlet lt (λ (y : InletState). y.ring) refl

  came_sum : (o : ℕ) → sum_by (came_for words o) rest ≡ popped_for words s o
  came_sum o = let sum = sum_by-set (came_for words o) s.inlets i (emptied (inlet_at s i)) no_inlet lt in
      let same : came_for words o (emptied (inlet_at s i)) ≡ came_for words o (inlet_at s i) = refl in omega (arith, sum, same)

  held_sum : (o : ℕ) → sum_by (held_for words o) rest + held_for words o (inlet_at s i) ≡ sum_by (held_for words o) s.inlets
  held_sum o = let sum = sum_by-set (held_for words o) s.inlets i (emptied (inlet_at s i)) no_inlet lt in
      let none : held_for words o (emptied (inlet_at s i)) ≡ 0 = refl in omega (arith, sum, none)

  -- all words of the packet go on to the place of its flow
  its_goal : (o : ℕ) → route found.0 ≡ Some o → held_for words o (inlet_at s i) ≡ length (accesses_of p)
  its_goal o e = ap (λ (l : List Access). length (filter (words.goes_to o) l)) its_words ∙ ap length (one.together o e)

  sound_there : HasSoundInlets s → IsSound (message_of p)
  sound_there sound = let last = whole.last p held in last_sound p (inlet_at s i).ring.received last.before last.joined (All-get_or (λ y. All IsSound (item_messages y.ring.received)) s.inlets i no_inlet lt sound)

  sound_then : HasSoundInlets (record s { inlets = rest }) → HasSoundInlets s
  sound_then = sound_before s i (emptied (inlet_at s i)) [] lt (sym (append-nil (inlet_at s i).ring.received))

  shape : SameShape s (record s { inlets = rest })
  shape = inlets_shape s i (emptied (inlet_at s i)) lt refl

  -- where all is sound and within the budget, the packet passes
  would_pass : (o : ℕ) → route found.0 ≡ Some o → HasSoundInlets s → popped_for words s o ≤ (outlet_at s o).plan.budget → MayPass (outlet_at s o).plan (length (offered_at s o)) (message_of p)
  would_pass o e sound room =
      let few = h.few o in let here = get_or-le-sum_by (held_for words o) s.inlets i no_inlet lt in
      record {
        sound = sound_there sound;
        planned = laid.leads_on i o p lt (whole.carriable p held).planned (next_of o e);
        room = omega (arith, few, here, its_goal o e, its_count, room);
      }
    where
      next_of : (o : ℕ) → route found.0 ≡ Some o → next_place route (inlet_at s i).ring.plan p ≡ Some o
      next_of o e = rw found.1 e

  pub dropping : IsRefused route s i p → Forwards words route (record s { inlets = rest })
  dropping refused = record {
    few = λ o. let old = h.few o in omega (arith, old, came_sum o, held_sum o);
    picks = λ f j o passes. picks f j o (h.picks f j o (passed_before shape passes));
    whole = λ f j o passes sound room.
        let now = passed_before shape passes in
        let enough : popped_for words s o ≤ (outlet_at s o).plan.budget = omega (arith, room, came_sum o) in
        whole_then f j o now (sound_then sound) enough (h.whole f j o now (sound_then sound) enough);
  }
    where
      picks : (f : NetFlow) (j o : ℕ) → IsSubsequence (part words f (offered_at s o) ++ part words f (held_words_at s j)) (part words f (came_at s j))
          → IsSubsequence (part words f (offered_at s o) ++ part words f (held_words (get_or rest j no_inlet).held)) (part words f (came_at (record s { inlets = rest }) j))
      picks f j o old = let O = part words f (offered_at s o) in
          elim (set_cases s.inlets i j (emptied (inlet_at s i)) no_inlet lt) [
            | inl q ↦
                let at : IsSubsequence (O ++ part words f (held_words_at s i)) (part words f (came_at s i)) = subst (λ (k : ℕ). IsSubsequence (O ++ part words f (held_words_at s k)) (part words f (came_at s k))) q.0 old in
                let new : IsSubsequence (O ++ []) (part words f (came_at s i)) = subst (λ (l : List Access). IsSubsequence l (part words f (came_at s i))) (sym (append-nil O)) (without_end O (part words f (held_words_at s i)) at) in
                subst (λ (y : InletState). IsSubsequence (O ++ part words f (held_words y.held)) (part words f (received_words y.ring))) (sym q.1) new
            | inr q ↦ subst (λ (y : InletState). IsSubsequence (O ++ part words f (held_words y.held)) (part words f (received_words y.ring))) (sym q) old
          ]

      nothing_lost : (f : NetFlow) (o : ℕ) → Passes route s f i o → HasSoundInlets s → popped_for words s o ≤ (outlet_at s o).plan.budget → part words f (held_words_at s i) ≡ []
      nothing_lost f o passes sound room = elim (one.no_other f) [
        | inl is ↦ let goes : route found.0 ≡ Some o = sym (ap route is) ∙ passes.route_to in absurd (refused o (rw found.1 goes) (would_pass o goes sound room))
        | inr none ↦ ap (part words f) its_words ∙ none
      ]

      whole_then : (f : NetFlow) (j o : ℕ) → Passes route s f j o → HasSoundInlets s → popped_for words s o ≤ (outlet_at s o).plan.budget
          → part words f (came_at s j) ≡ part words f (offered_at s o) ++ part words f (held_words_at s j)
          → part words f (came_at (record s { inlets = rest }) j) ≡ part words f (offered_at s o) ++ part words f (held_words (get_or rest j no_inlet).held)
      whole_then f j o passes sound room old = let O = part words f (offered_at s o) in
          elim (set_cases s.inlets i j (emptied (inlet_at s i)) no_inlet lt) [
            | inl q ↦
                let at : part words f (came_at s i) ≡ O ++ part words f (held_words_at s i) = subst (λ (k : ℕ). part words f (came_at s k) ≡ O ++ part words f (held_words_at s k)) q.0 old in
                let passes_i : Passes route s f i o = subst (λ (k : ℕ). Passes route s f k o) q.0 passes in
                let new : part words f (came_at s i) ≡ O ++ [] = at ∙ ap (λ (l : List Access). O ++ l) (nothing_lost f o passes_i sound room) in
                subst (λ (y : InletState). part words f (received_words y.ring) ≡ O ++ part words f (held_words y.held)) (sym q.1) new
            | inr q ↦ subst (λ (y : InletState). part words f (received_words y.ring) ≡ O ++ part words f (held_words y.held)) (sym q) old
          ]

  module _ (o : ℕ) (y : PortSide) (within : o < length s.outlets) (next : next_place route (inlet_at s i).ring.plan p ≡ Some o) (given : IsGiven (outlet_at s o) y p) where
    abbrev pub given_to : LaneState
    given_to = record { inlets = rest; outlets = set s.outlets o y }

    goes : route found.0 ≡ Some o
    goes = let there = next_flow route (inlet_at s i).ring.plan p o next in let same : Some there.0 ≡ Some found.0 = sym there.1 ∙ found.1 in let is : there.0 ≡ found.0 = cc in sym (ap route is) ∙ there.2

    full_shape : SameShape s given_to
    full_shape = record { inlets = shape.inlets; outlets = length-set s.outlets o y; in_plans = shape.in_plans; out_plans = outlet_set s o y within given.kept.plan }

    offered_more : (f : NetFlow) → part words f (offered_words y) ≡ part words f (offered_at s o) ++ part words f (accesses_of p)
    offered_more f = ap (part words f) given.words ∙ filter-append (words.is_of f) (offered_at s o) (accesses_of p)

    -- what a flow has at the port and held, before and after
    joined : (f : NetFlow) (j q : ℕ) → Passes route s f j q
        → part words f (offered_at given_to q) ++ part words f (held_words_at given_to j) ≡ part words f (offered_at s q) ++ part words f (held_words_at s j)
    joined f j q passes = elim (one.no_other f) [
      | inl is ↦
          let at_i : j ≡ i = laid.apart f j i passes.inlet lt passes.through (ap (goes_through (inlet_at s i).ring.plan.flows) is ∙ found.2) in
          let at_o : Some q ≡ Some o = sym passes.route_to ∙ ap route is ∙ goes in let same : q ≡ o = cc in
          let outlet : outlet_at given_to q ≡ y = ap (λ (k : ℕ). get_or (set s.outlets o y) k no_port) same ∙ get_or-set_same s.outlets o y no_port within in
          let inlet : inlet_at given_to j ≡ emptied (inlet_at s i) = ap (λ (k : ℕ). get_or rest k no_inlet) at_i ∙ get_or-set_same s.inlets i (emptied (inlet_at s i)) no_inlet lt in
          let left : part words f (offered_at given_to q) ++ part words f (held_words_at given_to j) ≡ part words f (offered_words y) ++ [] =
          ap (λ (z : PortSide). part words f (offered_words z) ++ part words f (held_words_at given_to j)) outlet ∙ ap (λ (z : InletState). part words f (offered_words y) ++ part words f (held_words z.held)) inlet in
          let right : part words f (offered_at s o) ++ part words f (accesses_of p) ≡ part words f (offered_at s q) ++ part words f (held_words_at s j) =
          ap (λ (l : List Access). part words f (offered_at s o) ++ part words f l) (sym its_words) ∙ ap (λ (k : ℕ). part words f (offered_at s k) ++ part words f (held_words_at s i)) (sym same)
          ∙ ap (λ (k : ℕ). part words f (offered_at s q) ++ part words f (held_words_at s k)) (sym at_i) in
          left ∙ append-nil (part words f (offered_words y)) ∙ offered_more f ∙ right
      | inr none ↦
          let offered : part words f (offered_at given_to q) ≡ part words f (offered_at s q) = elim (set_cases s.outlets o q y no_port within) [
            | inl w ↦ ap (λ (z : PortSide). part words f (offered_words z)) w.1 ∙ offered_more f ∙ ap (λ (l : List Access). part words f (offered_at s o) ++ l) none
                ∙ append-nil (part words f (offered_at s o)) ∙ ap (λ (k : ℕ). part words f (offered_at s k)) (sym w.0)
            | inr w ↦ ap (λ (z : PortSide). part words f (offered_words z)) w
          ] in
          let holds : part words f (held_words_at given_to j) ≡ part words f (held_words_at s j) = elim (set_cases s.inlets i j (emptied (inlet_at s i)) no_inlet lt) [
            | inl w ↦ ap (λ (z : InletState). part words f (held_words z.held)) w.1 ∙ sym (ap (part words f) its_words ∙ none) ∙ ap (λ (k : ℕ). part words f (held_words_at s k)) (sym w.0)
            | inr w ↦ ap (λ (z : InletState). part words f (held_words z.held)) w
          ] in
          ap (λ (l : List Access). l ++ part words f (held_words_at given_to j)) offered ∙ ap (λ (l : List Access). part words f (offered_at s q) ++ l) holds
    ]

    came_part : (f : NetFlow) (j : ℕ) → part words f (came_at given_to j) ≡ part words f (came_at s j)
    came_part f j = ap (λ ring. part words f (received_words ring)) (came_same j)

    few : (q : ℕ) → length (offered_at given_to q) + sum_by (held_for words q) rest ≤ popped_for words given_to q
    few q = let old = h.few q in elim (set_cases s.outlets o q y no_port within) [
      | inl w ↦
          let length_now : length (offered_at given_to q) ≡ length (offered_at s o) + length (accesses_of p) =
          ap (λ (z : PortSide). length (offered_words z)) w.1 ∙ ap length given.words ∙ length-append (offered_at s o) (accesses_of p) in
          let before : length (offered_at s q) ≡ length (offered_at s o) = ap (λ (k : ℕ). length (offered_at s k)) w.0 in
          let goal_here = its_goal q (goes ∙ ap (λ (k : ℕ). Some k) (sym w.0)) in
          omega (arith, old, length_now, before, goal_here, came_sum q, held_sum q)
      | inr w ↦ let same : length (offered_at given_to q) ≡ length (offered_at s q) = ap (λ (z : PortSide). length (offered_words z)) w in omega (arith, old, same, came_sum q, held_sum q)
    ]

    pub offering : Forwards words route given_to
    offering = record {
      few = few;
      picks = λ f j q passes.
          let now = passed_before full_shape passes in
          subst (λ (l : List Access). IsSubsequence l (part words f (came_at given_to j))) (sym (joined f j q now))
          (subst (λ (l : List Access). IsSubsequence (part words f (offered_at s q) ++ part words f (held_words_at s j)) l) (sym (came_part f j)) (h.picks f j q now));
      whole = λ f j q passes sound room.
          let now = passed_before full_shape passes in
          let budget : (outlet_at given_to q).plan.budget ≡ (outlet_at s q).plan.budget = ap (λ (plan : RingPlan). plan.budget) (full_shape.out_plans q) in
          came_part f j ∙ h.whole f j q now (sound_then sound) (omega (arith, room, budget, came_sum q)) ∙ sym (joined f j q now);
    }
