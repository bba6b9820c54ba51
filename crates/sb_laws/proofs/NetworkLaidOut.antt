-- A network whose ways lead to its devices is laid out.
use Rattle.std.proofs.Common.{◌≡◌, ◌<◌, ℕ, ◌+◌, ◌*◌, ◌/◌, ◌%◌, Bool, true, false, cond, List, [], ◌∷◌, length, refl, sym, ap, ◌∙◌, arith, subst}
use Rattle.std.specs.Prelude.{nat_lt, map, filter, drop, reverse, All, AllPairs, Contains, Option, Some, None, get_or, slice_index_or}
use Rattle.std.specs.List.{range_with_len}
use Rattle.std.proofs.lemmas.Bool.Decides.{nat_tests}
use Rattle.std.proofs.lemmas.List.Elements.{All-nil, All-head, All-tail, All-map, All-filter, All-weaker, filter_passes}
use Rattle.std.proofs.lemmas.List.{get_or-map, length-map}
use Rattle.std.proofs.lemmas.List.FromFn.{length-range_with_len, get_or-range_with_len}
use Rattle.sb_packet.specs.Networks.{NetHost, Network}
use Rattle.sb_link.specs.RingPlans.{NetFlow}
use Rattle.sb_flow.specs.Ways.{network_ways, flow_links, is_some_number, router_before, router_after}
use Rattle.sb_flow.specs.Rings.{is_upward}
use Rattle.sb_flow.proofs.WayCourses.{some_number-is}
use Rattle.sb_laws.specs.Flows.{way_rings, goes_over, flows_over, IsOneWay, last_of}
use Rattle.sb_laws.specs.Layouts.{IsLayout, ring_home}
use Rattle.sb_laws.specs.NetworkLayouts.{HasWays, IsWayTo, answer_ring, first_ring, link_into, links_into, links_out_of, network_answers, network_flows, network_layout, network_requests, request_ring, way_flow}
use Rattle.sb_laws.proofs.Ways.{at_last}
use Rattle.sb_laws.proofs.LinksOfWays.{is_in, links_there, last_leads, only_to_device, one_into, one_out_of}
use Rattle.sb_laws.proofs.LinksToDevices.{link_into_leads}
use Rattle.sb_laws.proofs.RingsOfWays.{ring_by_ring, ring_by_ring_back, is_in-reverse, All-reverse, reversed, last_is_in, in_requests, in_answers, once_among}
use Rattle.sb_flow.specs.Tables.{way_of}

-- the way of a flow, link by link
pub record FlowWay (network : Network) (f : NetFlow) : Type 0 where
  pub head : ℕ
  pub tail : List ℕ
  pub links : flow_links network f ≡ head ∷ tail
  pub way : IsWayTo network f.device (head ∷ tail)
  pub start : router_before network head ≡ None

-- tests that agree at each element keep the same
filter_same : (p q : NetFlow → Bool) (fs : List NetFlow) → All (λ f. p f ≡ q f) fs → filter p fs ≡ filter q fs
filter_same p q [] same = refl
filter_same p q (f ∷ fs) same = rw (All-head (λ g. p g ≡ q g) f fs same, filter_same p q fs (All-tail (λ g. p g ≡ q g) f fs same)) refl

-- what is among others is, as its picture, among their pictures
Contains-map : (f : NetHost → ℕ) (xs : List NetHost) (x : NetHost) → Contains xs x → Contains (map f xs) (f x)
Contains-map f xs x (k, inside, is) = (k, omega (arith, length-map xs f), get_or-map f xs k x (f x) inside ∙ ap f is)

module _ (network : Network) where
  flow_way : (f : NetFlow) (links : List ℕ) → flow_links network f ≡ links → IsWayTo network f.device links → router_before network (slice_index_or links 0 0) ≡ None → FlowWay network f
  flow_way f [] is way start = absurd way
  flow_way f (k ∷ js) is way start = record { head = k; tail = js; links = is; way = way; start = start }

  -- by the rings of requests a flow takes its links, and by the rings of answers the same
  pub requests_way : (f : NetFlow) (w : FlowWay network f) → way_rings (network_requests network) f ≡ map request_ring (w.head ∷ w.tail)
  requests_way f w = ap (λ (l : List ℕ). first_ring l ∷ drop 1 l) (ring_by_ring network f ∙ ap (map request_ring) w.links)

  back_links : (f : NetFlow) (w : FlowWay network f) → reverse (flow_links network f) ≡ last_of w.head w.tail ∷ (reversed w.head w.tail).rest
  back_links f w = ap reverse w.links ∙ (reversed w.head w.tail).is

  pub answers_way : (f : NetFlow) (w : FlowWay network f) → way_rings (network_answers network) f ≡ map answer_ring (reverse (w.head ∷ w.tail))
  answers_way f w =
      ap (λ (l : List ℕ). first_ring l ∷ drop 1 l) (ring_by_ring_back network f ∙ ap (map answer_ring) (back_links f w))
      ∙ ap (map answer_ring) (sym (reversed w.head w.tail).is)

  pub goes_there : (f : NetFlow) (w : FlowWay network f) (k : ℕ) → goes_over (network_requests network) (request_ring k) f ≡ is_in k (w.head ∷ w.tail)
  goes_there f w k = ap (is_in (request_ring k)) (requests_way f w) ∙ in_requests k (w.head ∷ w.tail)

  pub goes_back : (f : NetFlow) (w : FlowWay network f) (k : ℕ) → goes_over (network_answers network) (answer_ring k) f ≡ is_in k (w.head ∷ w.tail)
  goes_back f w k = ap (is_in (answer_ring k)) (answers_way f w) ∙ in_answers k (reverse (w.head ∷ w.tail)) ∙ is_in-reverse k (w.head ∷ w.tail)

  -- the rings of a link that there is
  pub has_request : (k : ℕ) → k < length network.links → (network_requests network).has (request_ring k) ≡ true
  has_request k here =
      let even : 2 * k % 2 ≡ 0 = omega arith in
      let below : nat_lt (2 * k) (2 * length network.links) ≡ true = grind (arith, nat_tests) in
      rw (even, below) refl

  pub has_answer : (k : ℕ) → k < length network.links → (network_answers network).has (answer_ring k) ≡ true
  has_answer k here =
      let odd : (2 * k + 1) % 2 ≡ 1 = omega arith in
      let below : nat_lt (2 * k + 1) (2 * length network.links) ≡ true = grind (arith, nat_tests) in
      rw (odd, below) refl

  pub counted : All (λ k. k < length network.links) (range_with_len 0 (length network.links))
  counted i d below =
      let inside : i < length network.links = rw length-range_with_len at below in
      rw (get_or-range_with_len 0 (length network.links) i d inside) (omega arith)

  -- what holds of the rings of all links into a router, or out of it, holds of those from which the router passes on
  request_ins : (P : List ℕ → Type 0) → P [] → ((q : ℕ) → P (map request_ring (filter (λ k. is_some_number q (router_after network k)) (range_with_len 0 (length network.links))))) → (r : ℕ) → P ((network_requests network).ins r)
  request_ins P none some r = by_direction (is_upward r)
    where
      by_router : (o : Option ℕ) → P (map request_ring (links_into network o))
      by_router None = none
      by_router (Some q) = some q

      by_direction : (b : Bool) → P (cond b [] (map request_ring (links_into network (router_before network (r / 2)))))
      by_direction true = none
      by_direction false = by_router (router_before network (r / 2))

  answer_ins : (P : List ℕ → Type 0) → P [] → ((q : ℕ) → P (map answer_ring (filter (λ k. is_some_number q (router_before network k)) (range_with_len 0 (length network.links))))) → (r : ℕ) → P ((network_answers network).ins r)
  answer_ins P none some r = by_direction (is_upward r)
    where
      by_router : (o : Option ℕ) → P (map answer_ring (links_out_of network o))
      by_router None = none
      by_router (Some q) = some q

      by_direction : (b : Bool) → P (cond b (map answer_ring (links_out_of network (router_after network (r / 2)))) [])
      by_direction true = by_router (router_after network (r / 2))
      by_direction false = none

  none_once : (goes : ℕ → Bool) → AllPairs (λ p q. goes p ≡ true → goes q ≡ false) []
  none_once goes i j d below inside = absurd (omega arith)

  module _ (ways : HasWays network) where
    pub way_flows : All (λ way. FlowWay network (way_flow way)) (network_ways network)
    way_flows k w below =
        let way = get_or (network_ways network) k w in
        flow_way (way_flow way) way.links (ways.found k w below) (ways.ways k w below) (ways.starts k w below)

    pub flow_ways : All (FlowWay network) (network_flows network)
    flow_ways = All-map (FlowWay network) way_flow (network_ways network) way_flows

    one_way : (r : ℕ) → IsOneWay (network_requests network) r
    one_way r = record {
      here = request_ins (λ ins. All (λ k. (network_requests network).has k ≡ true) ins) (All-nil (λ k. (network_requests network).has k ≡ true))
          (λ q. All-map (λ k. (network_requests network).has k ≡ true) request_ring (filter (λ k. is_some_number q (router_after network k)) (range_with_len 0 (length network.links)))
          (All-filter (λ k. is_some_number q (router_after network k)) (λ k. (network_requests network).has (request_ring k) ≡ true) (range_with_len 0 (length network.links))
          (All-weaker (λ k. k < length network.links) (λ k. (network_requests network).has (request_ring k) ≡ true) has_request (range_with_len 0 (length network.links)) counted))) r;
      once = All-weaker (FlowWay network) (λ f. AllPairs (λ j k. goes_over (network_requests network) j f ≡ true → goes_over (network_requests network) k f ≡ false) ((network_requests network).ins r)) (λ f w.
          request_ins (λ ins. AllPairs (λ j k. goes_over (network_requests network) j f ≡ true → goes_over (network_requests network) k f ≡ false) ins) (none_once (λ j. goes_over (network_requests network) j f))
          (λ q. once_among (λ k. is_some_number q (router_after network k)) (λ j. goes_over (network_requests network) j f) request_ring (λ a b s t x y.
          one_into network f.device q a b (w.head ∷ w.tail) w.way (sym (goes_there f w a) ∙ x) (sym (goes_there f w b) ∙ y) (some_number-is q (router_after network a) s) (some_number-is q (router_after network b) t)) 0 (length network.links)) r)
          (network_flows network) flow_ways;
    }

    one_way_back : (r : ℕ) → IsOneWay (network_answers network) r
    one_way_back r = record {
      here = answer_ins (λ ins. All (λ k. (network_answers network).has k ≡ true) ins) (All-nil (λ k. (network_answers network).has k ≡ true))
          (λ q. All-map (λ k. (network_answers network).has k ≡ true) answer_ring (filter (λ k. is_some_number q (router_before network k)) (range_with_len 0 (length network.links)))
          (All-filter (λ k. is_some_number q (router_before network k)) (λ k. (network_answers network).has (answer_ring k) ≡ true) (range_with_len 0 (length network.links))
          (All-weaker (λ k. k < length network.links) (λ k. (network_answers network).has (answer_ring k) ≡ true) has_answer (range_with_len 0 (length network.links)) counted))) r;
      once = All-weaker (FlowWay network) (λ f. AllPairs (λ j k. goes_over (network_answers network) j f ≡ true → goes_over (network_answers network) k f ≡ false) ((network_answers network).ins r)) (λ f w.
          answer_ins (λ ins. AllPairs (λ j k. goes_over (network_answers network) j f ≡ true → goes_over (network_answers network) k f ≡ false) ins) (none_once (λ j. goes_over (network_answers network) j f))
          (λ q. once_among (λ k. is_some_number q (router_before network k)) (λ j. goes_over (network_answers network) j f) answer_ring (λ a b s t x y.
          one_out_of network f.device q a b w.head w.tail w.way w.start (sym (goes_back f w a) ∙ x) (sym (goes_back f w b) ∙ y) (some_number-is q (router_before network a) s) (some_number-is q (router_before network b) t)) 0 (length network.links)) r)
          (network_flows network) flow_ways;
    }

    -- the last link of a flow's way is the one to its device
    last_link : (f : NetFlow) (w : FlowWay network f) → f.device < length network.devices → last_of w.head w.tail ≡ link_into network f.device
    last_link f w there = ways.one_link f.device (last_of w.head w.tail) (link_into network f.device) (last_leads network f.device w.head w.tail w.way) (link_into_leads network ways f.device there).leads

    pub flow_devices : All (λ f. f.device < length network.devices) (network_flows network)
    flow_devices = All-map (λ f. f.device < length network.devices) way_flow (network_ways network) ways.devices

    into_flows : (d : ℕ) → d < length network.devices → All (λ f. f.device ≡ d) (flows_over (network_requests network) (request_ring (link_into network d)))
    into_flows d there k f below =
        let ring = request_ring (link_into network d) in
        let over = filter_passes (goes_over (network_requests network) ring) (network_flows network) k f below in
        All-filter (goes_over (network_requests network) ring) (λ g. goes_over (network_requests network) ring g ≡ true → g.device ≡ d) (network_flows network)
        (All-weaker (FlowWay network) (λ g. goes_over (network_requests network) ring g ≡ true → g.device ≡ d) (λ g w over.
        only_to_device network g.device d (link_into network d) (w.head ∷ w.tail) w.way (sym (goes_there g w (link_into network d)) ∙ over) (link_into_leads network ways d there).leads) (network_flows network) flow_ways) k f below over

    leads_to_device : All (λ f. goes_over (network_requests network) (request_ring (link_into network f.device)) f ≡ true) (network_flows network)
    leads_to_device k f below =
        let g = get_or (network_flows network) k f in
        let w : FlowWay network g = flow_ways k f below in
        goes_there g w (link_into network g.device) ∙ ap (λ (n : ℕ). is_in n (w.head ∷ w.tail)) (sym (last_link g w (flow_devices k f below))) ∙ last_is_in w.head w.tail

    -- the answers of a flow begin by the answer ring of the link to its device
    pub begins_back : All (λ f. (network_answers network).first f ≡ answer_ring (link_into network f.device)) (network_flows network)
    begins_back k f below =
        let g = get_or (network_flows network) k f in
        let w : FlowWay network g = flow_ways k f below in
        ap first_ring (ring_by_ring_back network g ∙ ap (map answer_ring) (back_links g w)) ∙ ap answer_ring (last_link g w (flow_devices k f below))

    back_flows : All (λ f. flows_over (network_answers network) ((network_answers network).first f) ≡ flows_over (network_requests network) (request_ring (link_into network f.device))) (network_flows network)
    back_flows k f below =
        let g = get_or (network_flows network) k f in
        ap (flows_over (network_answers network)) (begins_back k f below)
        ∙ filter_same (goes_over (network_answers network) (answer_ring (link_into network g.device))) (goes_over (network_requests network) (request_ring (link_into network g.device))) (network_flows network)
        (All-weaker (FlowWay network) (λ h. goes_over (network_answers network) (answer_ring (link_into network g.device)) h ≡ goes_over (network_requests network) (request_ring (link_into network g.device)) h)
        (λ h v. goes_back h v (link_into network g.device) ∙ sym (goes_there h v (link_into network g.device))) (network_flows network) flow_ways)

    back_has : All (λ f. (network_answers network).has (ring_home (network_layout network) f) ≡ true) (network_flows network)
    back_has k f below =
        let g = get_or (network_flows network) k f in
        let w : FlowWay network g = flow_ways k f below in
        let rings = reverse (w.head ∷ w.tail) in
        at_last (λ r. (network_answers network).has r ≡ true) ((network_answers network).first g) ((network_answers network).rest g)
        (subst (All (λ r. (network_answers network).has r ≡ true)) (sym (answers_way g w))
        (All-map (λ r. (network_answers network).has r ≡ true) answer_ring rings (All-weaker (λ n. n < length network.links) (λ n. (network_answers network).has (answer_ring n) ≡ true) has_answer rings
        (All-reverse (λ n. n < length network.links) (w.head ∷ w.tail) (links_there network g.device (w.head ∷ w.tail) w.way)))))

    -- So the network is laid out by the rings of its links.
    pub laid_out : IsLayout network (network_layout network)
    laid_out = record {
      scripts = ways.scripts;
      same_flows = refl;
      hosts = All-map (λ f. Contains (map (λ h. h.id) network.hosts) f.host) way_flow (network_ways network) (λ k way below. Contains-map (λ h. h.id) network.hosts (get_or (network_ways network) k way).host (ways.hosts k way below));
      devices = flow_devices;
      all_flows = ways.all_ways;
      asked = λ k f below. omega arith;
      answered = λ k f below. omega arith;
      one_way = one_way;
      one_way_back = one_way_back;
      into_has = λ d there. has_request (link_into network d) (link_into_leads network ways d there).there;
      into_flows = into_flows;
      leads = leads_to_device;
      back_flows = back_flows;
      back_has = back_has;
    }
