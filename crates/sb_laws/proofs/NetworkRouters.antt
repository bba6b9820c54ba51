-- The routers of a network: what is known of the rings of their links.
use Rattle.std.proofs.Common.{◌≡◌, ◌<◌, ℕ, ◌+◌, ◌*◌, ◌/◌, Bool, true, false, cond, List, [], ◌∷◌, length, All, sym, ap, ◌∙◌, arith, subst}
use Rattle.std.specs.Prelude.{filter, map, AllPairs, Option, Some, get_or}
use Rattle.std.specs.List.{range_with_len}
use Rattle.std.proofs.lemmas.List.Elements.{All-filter, All-map, All-weaker, filter_passes}
use Rattle.sb_packet.specs.Networks.{Network}
use Rattle.sb_link.specs.RingPlans.{RingPlan}
use Rattle.sb_flow.specs.Rings.{link_ways, ring_budget}
use Rattle.sb_flow.specs.Ways.{is_some_number, router_after, router_before}
use Rattle.sb_flow.proofs.WayCourses.{some_number-is}
use Rattle.sb_router.specs.Forwarding.{IsLaid}
use Rattle.sb_port.specs.Ports.{PortSide}
use Rattle.sb_router.specs.Ways.{route_of}
use Rattle.sb_router.specs.Routers.{DirectionSide}
use Rattle.sb_laws.specs.Flows.{Course, budget_over, flows_over, goes_over}
use Rattle.sb_laws.specs.NetworkLayouts.{HasWays, IsRouted, answer_ring, links_into, links_out_of, network_answers, network_flows, network_requests, request_ring}
use Rattle.sb_laws.specs.RouterSides.{IsBuiltFor, IsRouterOf, answer_ins, answer_outs, course_words, request_ins, request_outs}
use Rattle.sb_laws.proofs.BuiltRouters.{IsRingOf, built_is_laid}
use Rattle.sb_laws.proofs.CarriedRings.{All-unmap, answer_budget, answer_ways, flows_back, flows_there, not_up, request_budget, request_ways, up}
use Rattle.sb_laws.proofs.LinksOfWays.{one_into, one_out_of}
use Rattle.sb_laws.proofs.MessageFlows.{flow_through}
use Rattle.sb_laws.proofs.NetworkLaidOut.{FlowWay, counted, flow_ways, goes_back, goes_there}
use Rattle.sb_laws.proofs.RingsOfWays.{once_among}
use Rattle.sb_laws.proofs.WaysOfRouted.{ways_of_routed}

-- what a course knows of a ring by which a router sends: from which rings it is passed words, and how many
record IsOutRing (network : Network) (c : Course) (ins : List ℕ) (ring : ℕ) : Type 0 where
  ins_are : c.ins ring ≡ ins
  budget : ring_budget network ring ≡ budget_over c ring

router_of : (network : Network) (c : Course) (ins outs : List ℕ) (d : DirectionSide) → IsBuiltFor network ins outs d → All (IsOutRing network c ins) outs → IsRouterOf c outs d.lane
router_of network c ins outs d built rings = record {
  sends_by = built.sends_by;
  ins = λ i y below. (at i y below).ins_are ∙ sym built.comes_by;
  budgets = λ i y below. ap (λ (plan : RingPlan). plan.budget) (built.out_plans i y below) ∙ (at i y below).budget;
}
  where
    at : All (λ y. IsOutRing network c ins y.plan.ring) d.lane.outlets
    at = All-unmap (IsOutRing network c ins) (λ (y : PortSide). y.plan.ring) d.lane.outlets (subst (All (IsOutRing network c ins)) (sym built.sends_by) rings)

module _ (network : Network) (routed : IsRouted network) where
  ways : HasWays network
  ways = ways_of_routed network routed

  -- the links of a router
  in_links : (r : ℕ) → All (λ k. (k < length network.links) × (router_after network k ≡ Some r)) (links_into network (Some r))
  in_links r i d below =
      let test : ℕ → Bool = λ k. is_some_number r (router_after network k) in
      let all = range_with_len 0 (length network.links) in
      (All-filter test (λ k. k < length network.links) all (counted network) i d below, some_number-is r (router_after network (get_or (filter test all) i d)) (filter_passes test all i d below))

  out_links : (r : ℕ) → All (λ k. (k < length network.links) × (router_before network k ≡ Some r)) (links_out_of network (Some r))
  out_links r i d below =
      let test : ℕ → Bool = λ k. is_some_number r (router_before network k) in
      let all = range_with_len 0 (length network.links) in
      (All-filter test (λ k. k < length network.links) all (counted network) i d below, some_number-is r (router_before network (get_or (filter test all) i d)) (filter_passes test all i d below))

  -- the rings of a link
  request_of : (k : ℕ) → k < length network.links → IsRingOf network (network_requests network) false (request_ring k)
  request_of k there = record {
    direction = not_up network ways k;
    flows = λ f e. flow_through network (request_ring k) (link_ways network k) (flows_over (network_requests network) (request_ring k)) f (request_ways network ways k there) (flows_there network ways k) e;
  }

  answer_of : (k : ℕ) → k < length network.links → IsRingOf network (network_answers network) true (answer_ring k)
  answer_of k there = record {
    direction = up network ways k;
    flows = λ f e. flow_through network (answer_ring k) (link_ways network k) (flows_over (network_answers network) (answer_ring k)) f (answer_ways network ways k there) (flows_back network ways k) e;
  }

  module _ (r : ℕ) where
    over_in : (P : ℕ → Type 0) (ring : ℕ → ℕ) → ((k : ℕ) → k < length network.links → router_after network k ≡ Some r → P (ring k)) → All P (map ring (links_into network (Some r)))
    over_in P ring each = All-map P ring (links_into network (Some r))
        (All-weaker (λ k. (k < length network.links) × (router_after network k ≡ Some r)) (λ k. P (ring k)) (λ k h. each k h.0 h.1) (links_into network (Some r)) (in_links r))

    over_out : (P : ℕ → Type 0) (ring : ℕ → ℕ) → ((k : ℕ) → k < length network.links → router_before network k ≡ Some r → P (ring k)) → All P (map ring (links_out_of network (Some r)))
    over_out P ring each = All-map P ring (links_out_of network (Some r))
        (All-weaker (λ k. (k < length network.links) × (router_before network k ≡ Some r)) (λ k. P (ring k)) (λ k h. each k h.0 h.1) (links_out_of network (Some r)) (out_links r))

    -- a flow comes by one of them
    once_there : All (λ f. AllPairs (λ j k. goes_over (network_requests network) j f ≡ true → goes_over (network_requests network) k f ≡ false) (request_ins network r)) (network_flows network)
    once_there = All-weaker (FlowWay network) (λ f. AllPairs (λ j k. goes_over (network_requests network) j f ≡ true → goes_over (network_requests network) k f ≡ false) (request_ins network r))
        (λ f w. once_among (λ k. is_some_number r (router_after network k)) (λ j. goes_over (network_requests network) j f) request_ring (λ a b s t x y.
        one_into network f.device r a b (w.head ∷ w.tail) w.way (sym (goes_there network f w a) ∙ x) (sym (goes_there network f w b) ∙ y) (some_number-is r (router_after network a) s) (some_number-is r (router_after network b) t)) 0 (length network.links))
        (network_flows network) (flow_ways network ways)

    once_back : All (λ f. AllPairs (λ j k. goes_over (network_answers network) j f ≡ true → goes_over (network_answers network) k f ≡ false) (answer_ins network r)) (network_flows network)
    once_back = All-weaker (FlowWay network) (λ f. AllPairs (λ j k. goes_over (network_answers network) j f ≡ true → goes_over (network_answers network) k f ≡ false) (answer_ins network r))
        (λ f w. once_among (λ k. is_some_number r (router_before network k)) (λ j. goes_over (network_answers network) j f) answer_ring (λ a b s t x y.
        one_out_of network f.device r a b w.head w.tail w.way w.start (sym (goes_back network f w a) ∙ x) (sym (goes_back network f w b) ∙ y) (some_number-is r (router_before network a) s) (some_number-is r (router_before network b) t)) 0 (length network.links))
        (network_flows network) (flow_ways network ways)

    request_out : (k : ℕ) → k < length network.links → router_before network k ≡ Some r → IsOutRing network (network_requests network) (request_ins network r) (request_ring k)
    request_out k there leaves =
        let half : 2 * k / 2 ≡ k = omega arith in
        record {
          ins_are = ap (λ (b : Bool). cond b [] (map request_ring (links_into network (router_before network (2 * k / 2))))) (not_up network ways k)
              ∙ ap (λ (n : ℕ). map request_ring (links_into network (router_before network n))) half ∙ ap (λ (o : Option ℕ). map request_ring (links_into network o)) leaves;
          budget = sym (request_budget network ways k (omega arith));
        }

    answer_out : (k : ℕ) → k < length network.links → router_after network k ≡ Some r → IsOutRing network (network_answers network) (answer_ins network r) (answer_ring k)
    answer_out k there leads =
        let half : (2 * k + 1) / 2 ≡ k = omega arith in
        record {
          ins_are = ap (λ (b : Bool). cond b (map answer_ring (links_out_of network (router_after network ((2 * k + 1) / 2)))) []) (up network ways k)
              ∙ ap (λ (n : ℕ). map answer_ring (links_out_of network (router_after network n))) half ∙ ap (λ (o : Option ℕ). map answer_ring (links_out_of network o)) leads;
          budget = sym (answer_budget network ways k (omega arith));
        }

    module _ (d : DirectionSide) where
      pub requests_laid : IsBuiltFor network (request_ins network r) (request_outs network r) d → IsLaid (course_words network (network_requests network) (request_outs network r)) (route_of d.rows) d.lane
      requests_laid built = built_is_laid network routed (network_requests network) false (request_ins network r) (request_outs network r) d built
          (over_in (IsRingOf network (network_requests network) false) request_ring (λ k there leads. request_of k there))
          (over_out (IsRingOf network (network_requests network) false) request_ring (λ k there leaves. request_of k there)) once_there

      pub answers_laid : IsBuiltFor network (answer_ins network r) (answer_outs network r) d → IsLaid (course_words network (network_answers network) (answer_outs network r)) (route_of d.rows) d.lane
      answers_laid built = built_is_laid network routed (network_answers network) true (answer_ins network r) (answer_outs network r) d built
          (over_out (IsRingOf network (network_answers network) true) answer_ring (λ k there leaves. answer_of k there))
          (over_in (IsRingOf network (network_answers network) true) answer_ring (λ k there leads. answer_of k there)) once_back

      pub requests_router : IsBuiltFor network (request_ins network r) (request_outs network r) d → IsRouterOf (network_requests network) (request_outs network r) d.lane
      requests_router built = router_of network (network_requests network) (request_ins network r) (request_outs network r) d built
          (over_out (IsOutRing network (network_requests network) (request_ins network r)) request_ring request_out)

      pub answers_router : IsBuiltFor network (answer_ins network r) (answer_outs network r) d → IsRouterOf (network_answers network) (answer_outs network r) d.lane
      answers_router built = router_of network (network_answers network) (answer_ins network r) (answer_outs network r) d built
          (over_in (IsOutRing network (network_answers network) (answer_ins network r)) answer_ring answer_out)
