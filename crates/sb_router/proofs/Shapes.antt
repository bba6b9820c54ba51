-- What no step changes: how many rings there are, and their plans.
use Rattle.std.proofs.Common.{◌≡◌, ℕ, ◌<◌, length, set, get_or, refl, sym, ap, ◌∙◌, arith}
use Rattle.std.proofs.lemmas.List.{length-set}
use Rattle.sb_link.specs.RingPlans.{NetFlow, RingPlan, goes_through}
use Rattle.sb_port.specs.Ports.{PortSide}
use Rattle.sb_router.specs.Lanes.{InletState, LaneState, Route, inlet_at, no_inlet, no_port, outlet_at}
use Rattle.sb_router.specs.Steps.{Step, Steps, receives, looks, drops, offers, turns, tells, none, further, emptied}
use Rattle.sb_router.specs.Forwarding.{Passes}
use Rattle.sb_router.proofs.Places.{same_at_each}

pub record SameShape (s t : LaneState) : Type 0 where
  pub inlets : length t.inlets ≡ length s.inlets
  pub outlets : length t.outlets ≡ length s.outlets
  pub in_plans : (i : ℕ) → (inlet_at t i).ring.plan ≡ (inlet_at s i).ring.plan
  pub out_plans : (o : ℕ) → (outlet_at t o).plan ≡ (outlet_at s o).plan

pub same_shape : (s : LaneState) → SameShape s s
same_shape s = record { inlets = refl; outlets = refl; in_plans = λ i. refl; out_plans = λ o. refl }

pub shape_then : {s t u : LaneState} → SameShape s t → SameShape t u → SameShape s u
shape_then a b = record {
  inlets = b.inlets ∙ a.inlets;
  outlets = b.outlets ∙ a.outlets;
  in_plans = λ i. b.in_plans i ∙ a.in_plans i;
  out_plans = λ o. b.out_plans o ∙ a.out_plans o;
}

-- a ring that comes in was set
pub inlet_set : (s : LaneState) (i : ℕ) (x : InletState) → i < length s.inlets → x.ring.plan ≡ (inlet_at s i).ring.plan → (j : ℕ) → (get_or (set s.inlets i x) j no_inlet).ring.plan ≡ (inlet_at s j).ring.plan
inlet_set s i x lt e = same_at_each s.inlets i x no_inlet lt (λ (y : InletState). y.ring.plan) e

-- a ring that goes out was set
pub outlet_set : (s : LaneState) (o : ℕ) (y : PortSide) → o < length s.outlets → y.plan ≡ (outlet_at s o).plan → (q : ℕ) → (get_or (set s.outlets o y) q no_port).plan ≡ (outlet_at s q).plan
outlet_set s o y lt e = same_at_each s.outlets o y no_port lt (λ (z : PortSide). z.plan) e

pub inlets_shape : (s : LaneState) (i : ℕ) (x : InletState) → i < length s.inlets → x.ring.plan ≡ (inlet_at s i).ring.plan → SameShape s (record s { inlets = set s.inlets i x })
inlets_shape s i x lt e = record { inlets = length-set s.inlets i x; outlets = refl; in_plans = inlet_set s i x lt e; out_plans = λ o. refl }

pub outlets_shape : (s : LaneState) (o : ℕ) (y : PortSide) → o < length s.outlets → y.plan ≡ (outlet_at s o).plan → SameShape s (record s { outlets = set s.outlets o y })
outlets_shape s o y lt e = record { inlets = refl; outlets = length-set s.outlets o y; in_plans = λ i. refl; out_plans = outlet_set s o y lt e }

pub step_shape : {route : Route} {s t : LaneState} → Step route s t → SameShape s t
step_shape {route} {s} (receives i x item lt is) = inlets_shape s i x lt is.kept.plan
step_shape {route} {s} (looks i x lt is) = inlets_shape s i x lt is.kept.plan
step_shape {route} {s} (drops i p lt held refused) = inlets_shape s i (emptied (inlet_at s i)) lt refl
step_shape {route} {s} (offers i o p y lt within held next is) = record {
  inlets = length-set s.inlets i (emptied (inlet_at s i));
  outlets = length-set s.outlets o y;
  in_plans = inlet_set s i (emptied (inlet_at s i)) lt refl;
  out_plans = outlet_set s o y within is.kept.plan;
}
step_shape {route} {s} (turns o y lt is) = outlets_shape s o y lt is.kept.plan
step_shape {route} {s} (tells o y lt silent is) = outlets_shape s o y lt (ap (λ (port : PortSide). port.plan) is.told)

pub steps_shape : {route : Route} {s t : LaneState} → Steps route s t → SameShape s t
steps_shape {route} {s} none = same_shape s
steps_shape (further before step) = shape_then (steps_shape before) (step_shape step)

-- a flow passes as before
pub passed_before : {route : Route} {s t : LaneState} {f : NetFlow} {i o : ℕ} → SameShape s t → Passes route t f i o → Passes route s f i o
passed_before {route} {s} {t} {f} {i} {o} shape passes = record {
  inlet = omega (arith, passes.inlet, shape.inlets);
  outlet = omega (arith, passes.outlet, shape.outlets);
  through = sym (ap (λ (plan : RingPlan). goes_through plan.flows f) (shape.in_plans i)) ∙ passes.through;
  route_to = passes.route_to;
}
