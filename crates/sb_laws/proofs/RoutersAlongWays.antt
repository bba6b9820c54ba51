-- All routers on the way of each flow keep their promises.
use Rattle.std.proofs.Common.{◌≡◌, ◌<◌, ℕ, true, List, [], ◌∷◌, ◌++◌, length, All, refl, sym, ap, ◌∙◌, arith, subst}
use Rattle.std.specs.Prelude.{◌==◌, map, reverse, Contains, Option, Some, get_or}
use Rattle.std.proofs.lemmas.Bool.Decides.{nat_tests}
use Rattle.std.proofs.lemmas.List.{reverse-append}
use Rattle.std.proofs.lemmas.List.Elements.{All-contains, All-head, All-map, All-weaker}
use Rattle.sb_packet.specs.Networks.{NetHost, Network}
use Rattle.sb_link.specs.RingPlans.{NetFlow, goes_through}
use Rattle.sb_flow.specs.Rings.{link_ways, ring_flows}
use Rattle.sb_flow.specs.Ways.{is_some_number, network_ways, router_after, router_before}
use Rattle.sb_router.specs.Routers.{DirectionSide}
use Rattle.sb_laws.specs.Flows.{AlongWay, flows_over, goes_over, last_of}
use Rattle.sb_laws.specs.Moments.{Moment}
use Rattle.sb_laws.specs.NetworkLayouts.{HasWays, IsRouted, IsWayTo, answer_ring, links_into, links_out_of, network_answers, network_flows, network_requests, request_ring, way_flow}
use Rattle.sb_laws.specs.Runs.{ForwardsFlow}
use Rattle.sb_laws.specs.RouterSides.{IsRouterAt, KeepsAlongWays, answer_ins, answer_outs, request_ins, request_outs}
use Rattle.sb_laws.proofs.CarriedRings.{answer_ways, flows_back, flows_there, request_ways}
use Rattle.sb_laws.proofs.LinksOfWays.{is_in, links_there}
use Rattle.sb_laws.proofs.ListPlaces.{or_left, or_right}
use Rattle.sb_laws.proofs.NetworkLaidOut.{FlowWay, answers_way, flow_ways, goes_back, goes_there, requests_way}
use Rattle.sb_laws.proofs.NetworkRouters.{answers_router, requests_router}
use Rattle.sb_laws.proofs.RingsOfWays.{in_answers, in_requests}
use Rattle.sb_laws.proofs.RouterSteps.{RoutersHandOn, among_kept, one_step, passing_number, through_flow}
use Rattle.sb_laws.proofs.WaysOfRouted.{ways_of_routed}

-- a fact of neighbours, along a list
abbrev Along : (ℕ → ℕ → Type 0) → List ℕ → Type 0
Along P [] = Unit {0}
Along P (k ∷ js) = AlongWay P k js

along_append : (P : ℕ → ℕ → Type 0) (a : ℕ) (xs : List ℕ) (k : ℕ) → AlongWay P a xs → P (last_of a xs) k → AlongWay P a (xs ++ k ∷ [])
along_append P a [] k h p = (p, tt)
along_append P a (x ∷ xs) k h p = (h.0, along_append P x xs k h.1 p)

last_append : (a : ℕ) (xs : List ℕ) (k : ℕ) → last_of a (xs ++ k ∷ []) ≡ k
last_append a [] k = refl
last_append a (x ∷ xs) k = last_append x xs k

-- what follows the last, the other way round
abbrev back_rest : ℕ → List ℕ → List ℕ
back_rest k [] = []
back_rest k (j ∷ js) = back_rest j js ++ k ∷ []

back_is : (k : ℕ) (js : List ℕ) → reverse (k ∷ js) ≡ last_of k js ∷ back_rest k js
back_is k [] = refl
back_is k (j ∷ js) = reverse-append (k ∷ []) (j ∷ js) ∙ ap (λ (l : List ℕ). l ++ k ∷ []) (back_is j js)

-- the other way round the first is the last
last_reversed : (k : ℕ) (js : List ℕ) → last_of (last_of k js) (back_rest k js) ≡ k
last_reversed k [] = refl
last_reversed k (j ∷ js) = last_append (last_of j js) (back_rest j js) k

along_reversed : (P : ℕ → ℕ → Type 0) (k : ℕ) (js : List ℕ) → AlongWay (λ a b. P b a) k js → AlongWay P (last_of k js) (back_rest k js)
along_reversed P k [] h = tt
along_reversed P k (j ∷ js) h = along_append P (last_of j js) (back_rest j js) k (along_reversed P j js h.1) (subst (λ (n : ℕ). P n k) (sym (last_reversed j js)) h.0)

-- along the pictures of a list
along_map : (P : ℕ → ℕ → Type 0) (g : ℕ → ℕ) (k : ℕ) (js : List ℕ) → AlongWay (λ a b. P (g a) (g b)) k js → AlongWay P (g k) (map g js)
along_map P g k [] h = tt
along_map P g k (j ∷ js) h = (h.0, along_map P g j js h.1)

-- along a way to a device each two links meet at a router
module _ (network : Network) (d : ℕ) (P : ℕ → ℕ → Type 0) (whole : List ℕ)
    (step : (r k j : ℕ) → k < length network.links → j < length network.links → is_in k whole ≡ true → is_in j whole ≡ true → router_after network k ≡ Some r → router_before network j ≡ Some r → P k j) where
  along_way : (k : ℕ) (js : List ℕ) → IsWayTo network d (k ∷ js) → ((i : ℕ) → is_in i (k ∷ js) ≡ true → is_in i whole ≡ true) → AlongWay P k js
  along_way k [] way inside = tt
  along_way k (j ∷ js) way inside =
      let rest : IsWayTo network d (j ∷ js) = way.2 in
      let self : (n : ℕ) → (n == n) ≡ true = λ n. grind (arith, nat_tests) in
      let first : is_in k (k ∷ j ∷ js) ≡ true = or_left (k == k) (is_in k (j ∷ js)) (self k) in
      let second : is_in j (k ∷ j ∷ js) ≡ true = or_right (k == j) (is_in j (j ∷ js)) (or_left (j == j) (is_in j js) (self j)) in (
        step way.1.router k j way.0 (All-head (λ n. n < length network.links) j js (links_there network d (j ∷ js) rest)) (inside k first) (inside j second) way.1.leads way.1.leaves,
        along_way j js rest (λ i e. inside i (or_right (k == i) (is_in i (j ∷ js)) e)),
      )

module _ (network : Network) (m : Moment) (router : ℕ → DirectionSide) (routed : IsRouted network) (ids : All (λ host. host.id < 32) network.hosts) where
  ways : HasWays network
  ways = ways_of_routed network routed

  -- flows are in the tables of rings
  hosts_low : All (λ f. f.host < 32) (network_flows network)
  hosts_low = All-map (λ f. f.host < 32) way_flow (network_ways network)
      (All-weaker (λ way. Contains network.hosts way.host) (λ way. way.host.id < 32) (λ way inside. All-contains (λ (host : NetHost). host.id < 32) network.hosts way.host ids inside) (network_ways network) ways.hosts)

  devices_low : All (λ f. f.device < 32) (network_flows network)
  devices_low = All-map (λ f. f.device < 32) way_flow (network_ways network)
      (All-weaker (λ way. way.device < length network.devices) (λ way. way.device < 32) (λ way inside. let few = routed.few in omega arith) (network_ways network) ways.devices)

  named_number : (r : ℕ) (o : Option ℕ) → o ≡ Some r → is_some_number r o ≡ true
  named_number r o e = ap (is_some_number r) e ∙ (let same : (r == r) ≡ true = grind (arith, nat_tests) in same)

  link_in : (r k : ℕ) → k < length network.links → router_after network k ≡ Some r → is_in k (links_into network (Some r)) ≡ true
  link_in r k there leads = passing_number (λ n. is_some_number r (router_after network n)) (length network.links) k there (named_number r (router_after network k) leads)

  link_out : (r k : ℕ) → k < length network.links → router_before network k ≡ Some r → is_in k (links_out_of network (Some r)) ≡ true
  link_out r k there leaves = passing_number (λ n. is_some_number r (router_before network n)) (length network.links) k there (named_number r (router_before network k) leaves)

  module _ (hand_on : RoutersHandOn) (at : (r : ℕ) → r < length network.routers → IsRouterAt network (network_requests network) m (request_ins network r) (request_outs network r) (router r)) where
    requests_step : (i : ℕ) (e : NetFlow) → i < length (network_flows network) → (w : FlowWay network (get_or (network_flows network) i e)) → (r k j : ℕ) → k < length network.links → j < length network.links →
        is_in k (w.head ∷ w.tail) ≡ true → is_in j (w.head ∷ w.tail) ≡ true → router_after network k ≡ Some r → router_before network j ≡ Some r →
        ForwardsFlow network (network_requests network) m (get_or (network_flows network) i e) (request_ring k) (request_ring j)
    requests_step i e below w r k j k_there j_there k_on j_on leads leaves =
        let f = get_or (network_flows network) i e in
        let here = at r (routed.there k r leads) in
        one_step hand_on network (network_requests network) m (request_ins network r) (request_outs network r) (router r) here (requests_router network routed r (router r) here.built) f (request_ring k) (request_ring j)
        (in_requests k (links_into network (Some r)) ∙ link_in r k k_there leads) (in_requests j (links_out_of network (Some r)) ∙ link_out r j j_there leaves) (through k k_there k_on) (through j j_there j_on)
      where
        through : (n : ℕ) → n < length network.links → is_in n (w.head ∷ w.tail) ≡ true → goes_through (ring_flows network (request_ring n)) (get_or (network_flows network) i e) ≡ true
        through n there on = through_flow network (request_ring n) (link_ways network n) (flows_over (network_requests network) (request_ring n)) (get_or (network_flows network) i e)
            (request_ways network ways n there) (flows_there network ways n) (hosts_low i e below) (devices_low i e below)
            (among_kept (goes_over (network_requests network) (request_ring n)) (network_flows network) i e below (goes_there network (get_or (network_flows network) i e) w n ∙ on))

    pub requests_along : KeepsAlongWays network (network_requests network) m
    requests_along i e below =
        let f = get_or (network_flows network) i e in
        let w : FlowWay network f = flow_ways network ways i e below in
        let P = ForwardsFlow network (network_requests network) m f in
        subst (Along P) (sym (requests_way network f w))
        (along_map P request_ring w.head w.tail (along_way network f.device (λ k j. P (request_ring k) (request_ring j)) (w.head ∷ w.tail) (requests_step i e below w) w.head w.tail w.way (λ n on. on)))

  module _ (hand_on : RoutersHandOn) (at : (r : ℕ) → r < length network.routers → IsRouterAt network (network_answers network) m (answer_ins network r) (answer_outs network r) (router r)) where
    answers_step : (i : ℕ) (e : NetFlow) → i < length (network_flows network) → (w : FlowWay network (get_or (network_flows network) i e)) → (r k j : ℕ) → k < length network.links → j < length network.links →
        is_in k (w.head ∷ w.tail) ≡ true → is_in j (w.head ∷ w.tail) ≡ true → router_after network k ≡ Some r → router_before network j ≡ Some r →
        ForwardsFlow network (network_answers network) m (get_or (network_flows network) i e) (answer_ring j) (answer_ring k)
    answers_step i e below w r k j k_there j_there k_on j_on leads leaves =
        let f = get_or (network_flows network) i e in
        let here = at r (routed.there k r leads) in
        one_step hand_on network (network_answers network) m (answer_ins network r) (answer_outs network r) (router r) here (answers_router network routed r (router r) here.built) f (answer_ring j) (answer_ring k)
        (in_answers j (links_out_of network (Some r)) ∙ link_out r j j_there leaves) (in_answers k (links_into network (Some r)) ∙ link_in r k k_there leads) (through j j_there j_on) (through k k_there k_on)
      where
        through : (n : ℕ) → n < length network.links → is_in n (w.head ∷ w.tail) ≡ true → goes_through (ring_flows network (answer_ring n)) (get_or (network_flows network) i e) ≡ true
        through n there on = through_flow network (answer_ring n) (link_ways network n) (flows_over (network_answers network) (answer_ring n)) (get_or (network_flows network) i e)
            (answer_ways network ways n there) (flows_back network ways n) (hosts_low i e below) (devices_low i e below)
            (among_kept (goes_over (network_answers network) (answer_ring n)) (network_flows network) i e below (goes_back network (get_or (network_flows network) i e) w n ∙ on))

    pub answers_along : KeepsAlongWays network (network_answers network) m
    answers_along i e below =
        let f = get_or (network_flows network) i e in
        let w : FlowWay network f = flow_ways network ways i e below in
        let P = ForwardsFlow network (network_answers network) m f in
        let there = along_way network f.device (λ k j. P (answer_ring j) (answer_ring k)) (w.head ∷ w.tail) (answers_step i e below w) w.head w.tail w.way (λ n on. on) in
        let back = along_map P answer_ring (last_of w.head w.tail) (back_rest w.head w.tail) (along_reversed (λ a b. P (answer_ring a) (answer_ring b)) w.head w.tail there) in
        subst (Along P) (ap (map answer_ring) (sym (back_is w.head w.tail)) ∙ sym (answers_way network f w)) back
