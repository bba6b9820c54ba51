-- The ends of the example's router meet the others halfway: before it the router knew less of its rings.
use Rattle.std.proofs.Common.{◌≡◌, ◌≤◌, ◌<◌, ◌+◌, lit≤, lit<, ℕ, zero, suc, true, List, [], ◌∷◌, ◌++◌, length, refl, subst, arith, Some}
use Rattle.std.specs.Prelude.{All, sum_by}
use Rattle.sb_packet.specs.Accesses.{Access}
use Rattle.sb_link.specs.RingPlans.{NetFlow, goes_through}
use Rattle.sb_link.specs.Prefixes.{IsSubsequence}
use Rattle.sb_flow.specs.Rings.{ring_plan}
use Rattle.sb_port.specs.Ports.{PortSide}
use Rattle.sb_node.proofs.Subsequences.{same_subsequence}
use Rattle.sb_node.proofs.Answering.{one_of}
use Rattle.sb_router.specs.Forwarding.{IsWholeInlet, IsWholeOutlet, Passes, held_for, part, popped_for}
use Rattle.sb_router.specs.Lanes.{InletState, came_at, held_words_at, inlet_at, offered_at, outlet_at}
use Rattle.sb_router.specs.Ways.{route_of}
use Rattle.sb_router.specs.Routers.{DirectionSide, ForwardsAll, IsWholeDirection}
use Rattle.sb_router.specs.Steps.{IsSilent}
use Rattle.sb_laws.specs.RouterSides.{IsBuiltFor, IsDirectionMet, IsInletMet, LeadsByPlans, request_ins, request_outs}
use Rattle.sb_node.specs.Kept.{IsPortMet}
use Rattle.sb_laws.proofs.NetworkRouters.{requests_laid}
use Rattle.sb_laws.proofs.RouterEnds.{met_direction, met_whole}
use Rattle.sb_laws.proofs.ExampleNetwork.{small, posted}
use Rattle.sb_laws.proofs.ExampleRouted.{small_is_routed}
use Rattle.sb_laws.proofs.ExampleHalfway.{halfway}
use Rattle.sb_laws.proofs.ExampleNodes.{port_in, ring_in}
use Rattle.sb_laws.proofs.ExamplePorts.{halfway_is_settled, is_fit}
use Rattle.sb_laws.proofs.ExampleRouter.{all_parts, direction_in, halfway_requests, inlet_in, requests_are_built, small_rows, within}
use Rattle.sb_laws.proofs.ExampleRouterLaws.{request_words}

-- its direction of requests halfway; and the same before its ends met the others, when it knew of two requests that were sent, and of none that was taken
abbrev met : DirectionSide
met = direction_in halfway 0 2 (Some posted)

abbrev early_inlet : InletState
early_inlet = record (inlet_in halfway 0 (Some posted)) { ring = record (ring_in halfway 0) { known = 2 } }

abbrev early_port : PortSide
early_port = record (port_in halfway 2) { taken = 0 }

abbrev early : DirectionSide
early = record { rows = small_rows; lane = record { inlets = early_inlet ∷ []; outlets = early_port ∷ [] } }

has_met : IsDirectionMet early met
has_met = record { rows = refl; inlet_count = refl; outlet_count = refl; inlets = inlets; outlets = outlets }
  where
    inlets : (i : ℕ) → IsInletMet (inlet_at early.lane i) (inlet_at met.lane i)
    inlets zero = record { ring = record { plan = refl; received = refl; learnt = lit≤ tt }; ended = refl; held = refl }
    inlets (suc i) = record { ring = record { plan = refl; received = refl; learnt = lit≤ tt }; ended = refl; held = refl }

    outlets : (o : ℕ) → IsPortMet (outlet_at early.lane o) (outlet_at met.lane o)
    outlets zero = record { plan = refl; state = refl; learnt = lit≤ tt }
    outlets (suc o) = record { plan = refl; state = refl; learnt = lit≤ tt }

early_is_whole : IsWholeDirection early
early_is_whole = record {
  inlets = one_of IsWholeInlet early_inlet (record { ended = refl; last = halfway_requests.last; carriable = halfway_requests.carriable });
  outlets = one_of IsWholeOutlet early_port (record { fit = is_fit halfway halfway_is_settled 2 (lit< tt) });
  silent = silent;
  routed = within;
}
  where
    silent : (o : ℕ) → o < 1 → (outlet_at early.lane o).state.close_requested ≡ true → All IsSilent (early_inlet ∷ [])
    silent zero inside told = absurd (cc)
    silent (suc o) inside told = absurd (omega arith)

-- it leads as it does when it has met
leads_early : LeadsByPlans met → LeadsByPlans early
leads_early led_by = record { within = within; leads = λ f o. leads f o; led = λ f o. led f o }
  where
    leads : (f : NetFlow) (o : ℕ) → f.host < 32 → f.device < 32 → route_of small_rows f ≡ Some o → goes_through (outlet_at early.lane o).plan.flows f ≡ true
    leads f zero host device e = led_by.leads f 0 host device e
    leads f (suc o) host device e = led_by.leads f (suc o) host device e

    led : (f : NetFlow) (o : ℕ) → o < 1 → goes_through (outlet_at early.lane o).plan.flows f ≡ true → route_of small_rows f ≡ Some o
    led f zero inside through = led_by.led f 0 inside through
    led f (suc o) inside through = led_by.led f (suc o) inside through

early_is_built : IsBuiltFor small (request_ins small 0) (request_outs small 0) early
early_is_built = record {
  comes_by = refl;
  sends_by = refl;
  in_plans = one_of (λ x. x.ring.plan ≡ ring_plan small x.ring.plan.ring) early_inlet refl;
  out_plans = one_of (λ y. y.plan ≡ ring_plan small y.plan.ring) early_port refl;
  table = leads_early (requests_are_built halfway (Some posted)).table;
}

early_forwards : ForwardsAll request_words early
early_forwards = record {
  laid = requests_laid small small_is_routed 0 early early_is_built;
  forwards = record {
    few = few;
    picks = λ f i o passes. subst (λ (l : List Access). IsSubsequence l (part request_words f (came_at early.lane i))) (all f i o passes) (same_subsequence (part request_words f (came_at early.lane i)));
    whole = λ f i o passes sound room. all f i o passes;
  };
}
  where
    few : (o : ℕ) → length (offered_at early.lane o) + sum_by (held_for request_words o) (early_inlet ∷ []) ≤ popped_for request_words early.lane o
    few zero = lit≤ tt
    few (suc o) = lit≤ tt

    all : (f : NetFlow) (i o : ℕ) → Passes (route_of small_rows) early.lane f i o
        → part request_words f (came_at early.lane i) ≡ part request_words f (offered_at early.lane o) ++ part request_words f (held_words_at early.lane i)
    all f zero zero passes = all_parts halfway halfway_is_settled 0 2 (Some posted) halfway_requests request_words f 0 0 (record { inlet = lit< tt; outlet = lit< tt; through = passes.through; route_to = passes.route_to })
    all f zero (suc o) passes = absurd (let inside = passes.outlet in omega arith)
    all f (suc i) o passes = absurd (let inside = passes.inlet in omega arith)

pub met_routers_go_on : IsWholeDirection met × ForwardsAll request_words met
met_routers_go_on = (met_whole early met has_met early_is_whole, met_direction early met has_met request_words early_forwards)
