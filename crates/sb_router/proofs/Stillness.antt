-- A direction through which no more went is still: each step that changes what came, is held, was offered or sent lets more go through.
use Rattle.std.proofs.Common.{◌≡◌, ℕ, ◌<◌, ◌≤◌, List, [], ◌∷◌, ◌++◌, length, set, refl, sym, ap, ◌∙◌, arith, append-nil, length-append}
use Rattle.std.specs.Prelude.{flat_map}
use Rattle.sb_packet.specs.Accesses.{message_accesses}
use Rattle.sb_link.specs.Prefixes.{IsPrefix}
use Rattle.sb_link.specs.Traffic.{item_messages}
use Rattle.sb_port.specs.Ports.{PortSide, offered_words}
use Rattle.sb_cut.specs.Folds.{listed}
use Rattle.sb_port.specs.Waiting.{Waiting}
use Rattle.sb_node.specs.Kept.{IsKeptPort}
use Rattle.sb_node.specs.Rested.{IsRestedPort}
use Rattle.sb_node.specs.Sides.{port_moves}
use Rattle.sb_node.proofs.Answering.{moves_kept, prefix_length}
use Rattle.sb_packet.specs.declared.item.Item.{Item}
use Rattle.sb_router.specs.Lanes.{InletState, LaneState, Route, inlet_at, no_inlet, no_port, offered_at, outlet_at}
use Rattle.sb_router.specs.Rested.{IsRestedLane, IsStillLane, lane_moves}
use Rattle.sb_router.specs.Steps.{Step, Steps, drops, emptied, further, looks, none, offers, receives, tells, turns}
use Rattle.sb_router.proofs.MoveSteps.{both_more, inlet_emptied, inlet_received, inlet_sum, inlet_unmoved, outlet_sum}
use Rattle.sb_router.proofs.Places.{same_at_each}

still_none : (s : LaneState) → IsStillLane s s
still_none s = record { received = λ i. refl; held = λ i. refl; offered = λ o. refl; sent = λ o. refl }

still_then : {s t u : LaneState} → IsStillLane s t → IsStillLane t u → IsStillLane s u
still_then a b = record {
  received = λ i. b.received i ∙ a.received i;
  held = λ i. b.held i ∙ a.held i;
  offered = λ o. b.offered o ∙ a.offered o;
  sent = λ o. b.sent o ∙ a.sent o;
}

-- a beginning that is as long as the list is the list
same_list : {A : Type 0} {xs ys : List A} → IsPrefix xs ys → length ys ≤ length xs → ys ≡ xs
same_list {A} {xs} {ys} p few = by_rest p.rest p.joined
  where
    by_rest : (rest : List A) → xs ++ rest ≡ ys → ys ≡ xs
    by_rest [] e = sym e ∙ append-nil xs
    by_rest (z ∷ rest) e = absurd (let long = ap length e in omega (arith, long, few, length-append xs (z ∷ rest)))

-- a port by which no more went was offered and has sent what it had
module _ {before after : PortSide} (kept : IsKeptPort before after) (few : port_moves after ≤ port_moves before) where
  offered_same : offered_words after ≡ offered_words before
  offered_same = same_list kept.offered_more (let a = prefix_length kept.offered_more in let b = prefix_length kept.let_more_go in let c = prefix_length kept.sent_more in omega (arith, a, b, c, few))

  sent_same : after.state.sent ≡ before.state.sent
  sent_same = same_list kept.sent_more (let a = prefix_length kept.offered_more in let b = prefix_length kept.let_more_go in let c = prefix_length kept.sent_more in omega (arith, a, b, c, few))

still_outlet : (s : LaneState) (o : ℕ) (y : PortSide) → o < length s.outlets → offered_words y ≡ offered_at s o → y.state.sent ≡ (outlet_at s o).state.sent → IsStillLane s (record s { outlets = set s.outlets o y })
still_outlet s o y lt offered sent = record {
  received = λ i. refl;
  held = λ i. refl;
  offered = same_at_each s.outlets o y no_port lt offered_words offered;
  sent = same_at_each s.outlets o y no_port lt (λ (z : PortSide). z.state.sent) sent;
}

still_inlet : (s : LaneState) (i : ℕ) (x : InletState) → i < length s.inlets → x.ring.received ≡ (inlet_at s i).ring.received → x.held ≡ (inlet_at s i).held → IsStillLane s (record s { inlets = set s.inlets i x })
still_inlet s i x lt received held = record {
  received = same_at_each s.inlets i x no_inlet lt (λ (z : InletState). z.ring.received) received;
  held = same_at_each s.inlets i x no_inlet lt (λ (z : InletState). z.held) held;
  offered = λ o. refl;
  sent = λ o. refl;
}

-- no step takes anything back
step_rises : {route : Route} {s t : LaneState} → Step route s t → lane_moves s ≤ lane_moves t
step_rises {route} {s} (receives i x item lt is) = let more = inlet_received (inlet_at s i) x item is in omega (arith, more, inlet_sum s i x lt)
step_rises {route} {s} (looks i x lt is) = let same = inlet_unmoved (inlet_at s i) x is in omega (arith, same, inlet_sum s i x lt)
step_rises {route} {s} (drops i p lt held refused) = let more = inlet_emptied (inlet_at s i) p held in omega (arith, more, inlet_sum s i (emptied (inlet_at s i)) lt)
step_rises {route} {s} (offers i o p y lt within held next is) = let more = (both_more s i o p y lt within held is.kept).more refl in omega (arith, more)
step_rises {route} {s} (turns o y within is) = let more = moves_kept is.kept in omega (arith, more, outlet_sum s o y within)
step_rises {route} {s} (tells o y within silent is) = let same = ap port_moves is.told in omega (arith, same, outlet_sum s o y within)

steps_rise : {route : Route} {s t : LaneState} → Steps route s t → lane_moves s ≤ lane_moves t
steps_rise none = omega arith
steps_rise (further before step) = let a = steps_rise before in let b = step_rises step in omega (arith, a, b)

-- a step that lets nothing go through
still_step : {route : Route} {s t : LaneState} → Step route s t → lane_moves t ≤ lane_moves s → IsStillLane s t
still_step {route} {s} (receives i x item lt is) few = let more = inlet_received (inlet_at s i) x item is in absurd (omega (arith, more, few, inlet_sum s i x lt))
still_step {route} {s} (looks i x lt is) few = still_inlet s i x lt is.received is.held
still_step {route} {s} (drops i p lt held refused) few = let more = inlet_emptied (inlet_at s i) p held in absurd (omega (arith, more, few, inlet_sum s i (emptied (inlet_at s i)) lt))
still_step {route} {s} (offers i o p y lt within held next is) few = let more = (both_more s i o p y lt within held is.kept).more refl in absurd (omega (arith, more, few))
still_step {route} {s} (turns o y within is) few = let same : port_moves y ≤ port_moves (outlet_at s o) = omega (arith, few, outlet_sum s o y within) in still_outlet s o y within is.words (sent_same is.kept same)
still_step {route} {s} (tells o y within silent is) few = still_outlet s o y within (ap offered_words is.told) (ap (λ (port : PortSide). port.state.sent) is.told)

pub still_steps : {route : Route} {s t : LaneState} → Steps route s t → lane_moves t ≤ lane_moves s → IsStillLane s t
still_steps {route} {s} none few = still_none s
still_steps (further before step) few =
    let a = steps_rise before in
    let b = step_rises step in
    still_then (still_steps before (omega (arith, few, b))) (still_step step (omega (arith, few, a)))

-- what a port was offered is what it has sent, and what waits
rested_offered : {before after : PortSide} → IsRestedPort before after → offered_words after ≡ offered_words before
rested_offered {before} {after} is = ap (λ (sent : List Item). flat_map message_accesses (item_messages sent ++ (after.state.waiting.owed ++ listed after.state.waiting.held))) is.sent
    ∙ ap (λ (w : Waiting). flat_map message_accesses (item_messages before.state.sent ++ (w.owed ++ listed w.held))) is.waiting

pub rested_still : {s t : LaneState} → IsRestedLane s t → IsStillLane s t
rested_still rested = record {
  received = λ i. (rested.inlets i).ring.received;
  held = λ i. (rested.inlets i).held;
  offered = λ o. rested_offered (rested.outlets o);
  sent = λ o. (rested.outlets o).sent;
}
