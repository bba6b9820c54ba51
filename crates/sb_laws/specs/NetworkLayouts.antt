-- The layout of a network: the rings of each link on the ways of its flows, there and back; its routes and stages.
use Rattle.std.specs.Prelude.{ℕ, ◌+◌, ◌*◌, ◌/◌, ◌&&◌, nat_lt, not, List, [], ◌∷◌, length, map, filter, flat_map, drop, reverse, Option, slice_index_or, if◌then◌else◌, ◌≡◌, ◌<◌, Bool, true, false, All, Contains, Some, None, slice_get, ◌≤◌, ◌%◌, ◌⊎◌, ◌-◌}
use Rattle.std.specs.List.{position_from, range_with_len}
use Rattle.std.specs.Option.{option_map_or}
use Rattle.sb_packet.specs.Networks.{NetHost, Network, has_address, leads_to}
use Rattle.sb_link.specs.RingPlans.{NetFlow}
use Rattle.sb_flow.specs.Ways.{NetWay, aims_at, first_link, flow_links, is_some_number, network_ways, route_at, router_after, router_before, way_links}
use Rattle.sb_flow.specs.Rings.{is_upward}
use Rattle.sb_laws.specs.Flows.{Course, answered_of, asked_words, is_among_flows, last_of}
use Rattle.sb_laws.specs.Layouts.{HasScripts, Layout}
use Rattle.sb_host.specs.Places.{asked_of}
use Rattle.sb_laws.specs.Standstills.{Stages}

-- the flow of a way
abbrev pub way_flow : NetWay → NetFlow
way_flow way = record { host = way.host.id; device = way.device }

-- the flows of all ways of a network
abbrev pub network_flows : Network → List NetFlow
network_flows network = map way_flow (network_ways network)

-- the two rings of a link
abbrev pub request_ring : ℕ → ℕ
request_ring k = 2 * k

abbrev pub answer_ring : ℕ → ℕ
answer_ring k = 2 * k + 1

-- The rings by which requests pass link k, one after another, and those by which answers do: one each way.
abbrev pub request_rings : Network → ℕ → List ℕ
request_rings network k = request_ring k ∷ []

abbrev pub answer_rings : Network → ℕ → List ℕ
answer_rings network k = answer_ring k ∷ []

-- the first and the last of some rings: a node sends to a link by the first of its rings, and receives from it by the last
abbrev pub first_ring : List ℕ → ℕ
first_ring rings = slice_index_or rings 0 0

abbrev pub last_ring : List ℕ → ℕ
last_ring rings = last_of 0 rings

-- the rings of the links have the numbers below this
abbrev pub ring_count : Network → ℕ
ring_count network = 2 * length network.links

-- the links that lead to a router, or that leave one; none where none is named
abbrev pub links_into : Network → Option ℕ → List ℕ
links_into network router = option_map_or (λ r. filter (λ k. is_some_number r (router_after network k)) (range_with_len 0 (length network.links))) router []

abbrev pub links_out_of : Network → Option ℕ → List ℕ
links_out_of network router = option_map_or (λ r. filter (λ k. is_some_number r (router_before network k)) (range_with_len 0 (length network.links))) router []

-- the rings of a flow's way: those of its links, one link after another
abbrev pub rings_there : Network → NetFlow → List ℕ
rings_there network f = flat_map (request_rings network) (flow_links network f)

-- Requests go by them. A router passes on by a ring what came by the last rings of all links that lead to it.
abbrev pub network_requests : Network → Course
network_requests network = record {
  flows = network_flows network;
  first = λ f. first_ring (rings_there network f);
  rest = λ f. drop 1 (rings_there network f);
  allowance = λ f. length (asked_words network f);
  has = λ r. not (is_upward r) && nat_lt r (ring_count network);
  ins = λ r. if is_upward r then [] else map (λ k. last_ring (request_rings network k)) (links_into network (router_before network (r / 2)));
}

-- the links of a flow's way from the device on
abbrev pub links_back : Network → NetFlow → List ℕ
links_back network f = reverse (flow_links network f)

-- the rings of its way back
abbrev pub rings_back : Network → NetFlow → List ℕ
rings_back network f = flat_map (answer_rings network) (links_back network f)

-- Answers go by them. To a router they come by the last rings of all links that leave it.
abbrev pub network_answers : Network → Course
network_answers network = record {
  flows = network_flows network;
  first = λ f. first_ring (rings_back network f);
  rest = λ f. drop 1 (rings_back network f);
  allowance = λ f. length (answered_of network f);
  has = λ r. is_upward r && nat_lt r (ring_count network);
  ins = λ r. if is_upward r then map (λ k. last_ring (answer_rings network k)) (links_out_of network (router_after network (r / 2))) else [];
}

-- the link to a device
abbrev pub link_into : Network → ℕ → ℕ
link_into network d = option_map_or (λ k. k) (position_from (leads_to d) 0 network.links) 0

-- The layout of a network. Requests come to a device by the last ring of its link.
abbrev pub network_layout : Network → Layout
network_layout network = record {
  requests = network_requests network;
  answers = network_answers network;
  into = λ d. last_ring (request_rings network (link_into network d));
}

-- What holds of the ways of an accepted network.

-- link k leads to device d
abbrev pub is_link_to : Network → ℕ → ℕ → Bool
is_link_to network d k = option_map_or (leads_to d) (slice_get network.links k) false

-- Link k leads to a router, which link j leaves, and each link from j on that leads to a router leads to a later one.
pub record IsStep (network : Network) (k j : ℕ) (rest : List ℕ) : Type 0 where
  pub router : ℕ
  pub leads : router_after network k ≡ Some router
  pub leaves : router_before network j ≡ Some router
  pub later : All (λ i. (r : ℕ) → router_after network i ≡ Some r → router < r) (j ∷ rest)

-- The links of a way to device d: each leads to a router that the next one leaves, and the last leads to the device.
abbrev pub IsWayTo : Network → ℕ → List ℕ → Type 0
IsWayTo network d [] = ⊥
IsWayTo network d (k ∷ []) = (k < length network.links) × (is_link_to network d k ≡ true)
IsWayTo network d (k ∷ j ∷ rest) = (k < length network.links) × IsStep network k j rest × IsWayTo network d (j ∷ rest)

-- The ways of a network, and the links to its devices.
pub record HasWays (network : Network) : Type 0 where
  pub scripts : HasScripts network
  -- each way leads from a host to its device, and is that of its flow
  pub ways : All (λ way. IsWayTo network way.device way.links) (network_ways network)
  pub starts : All (λ way. router_before network (slice_index_or way.links 0 0) ≡ None) (network_ways network)
  pub found : All (λ way. flow_links network (way_flow way) ≡ way.links) (network_ways network)
  pub hosts : All (λ way. Contains network.hosts way.host) (network_ways network)
  pub devices : All (λ way. way.device < length network.devices) (network_ways network)
  -- no host asks a device for anything where there is no way
  pub all_ways : (f : NetFlow) → is_among_flows f (network_flows network) ≡ false → asked_words network f ≡ []
  -- one link leads to each device
  pub linked : (d : ℕ) → d < length network.devices → (k : ℕ) × (k < length network.links) × (is_link_to network d k ≡ true)
  pub one_link : (d j k : ℕ) → is_link_to network d j ≡ true → is_link_to network d k ≡ true → j ≡ k

-- When the routes of a network lead each flow to its device. An accepted network is routed.

-- link k leads to device d, or to a router
abbrev pub LeadsOn : Network → ℕ → ℕ → Type 0
LeadsOn network d k = (is_link_to network d k ≡ true) ⊎ ((q : ℕ) × (router_after network k ≡ Some q))

-- Link k is a way on from router r to device d.
pub record IsRoute (network : Network) (d r k : ℕ) : Type 0 where
  pub there : k < length network.links
  pub leaves : router_before network k ≡ Some r
  pub leads : LeadsOn network d k

-- Link k is that of host h, and leads to a router.
pub record IsFirstLink (network : Network) (h k : ℕ) : Type 0 where
  pub there : k < length network.links
  pub first : first_link network h ≡ Some k
  pub leaves : router_before network k ≡ None
  pub router : ℕ
  pub leads : router_after network k ≡ Some router

-- Links and routes lead on, and no route is missing where a host aims.
pub record IsRouted (network : Network) : Type 0 where
  pub scripts : HasScripts network
  -- at most 32 devices, which begin with a page, and none of which has an address of another
  pub few : length network.devices ≤ 32
  pub pages : All (λ d. d.base % 4096 ≡ 0) network.devices
  pub apart : (address d e : ℕ) → option_map_or (has_address address) (slice_get network.devices d) false ≡ true → option_map_or (has_address address) (slice_get network.devices e) false ≡ true → d ≡ e
  -- each host has a link to a router, and one link leads to each device
  pub first : (h : ℕ) → h < length network.hosts → (k : ℕ) × IsFirstLink network h k
  pub linked : (d : ℕ) → d < length network.devices → (k : ℕ) × (k < length network.links) × (is_link_to network d k ≡ true)
  pub one_link : (d j k : ℕ) → is_link_to network d j ≡ true → is_link_to network d k ≡ true → j ≡ k
  -- routers that links name are there, and from router to router a link leads to a later one
  pub there : (k q : ℕ) → router_after network k ≡ Some q → q < length network.routers
  pub there_before : (k r : ℕ) → router_before network k ≡ Some r → r < length network.routers
  pub forward : (k r q : ℕ) → router_before network k ≡ Some r → router_after network k ≡ Some q → r < q
  -- a route leaves its router and leads on, and each router on a way to a device that a host aims at has one
  pub routes : (d r k : ℕ) → d < length network.devices → r < length network.routers → route_at network d r ≡ Some k → IsRoute network d r k
  pub unbroken : (h d : ℕ) (host : NetHost) → slice_get network.hosts h ≡ Some host → d < length network.devices → aims_at network host d ≡ true →
      All (λ k. (r : ℕ) → router_after network k ≡ Some r → (j : ℕ) × (route_at network d r ≡ Some j)) (way_links network h d)

-- The stages of a network: its routers stand in the order of their places.

-- The stages of link k for requests: hosts are stage 0, router r is stage 1 + r, and the devices are behind all routers.
abbrev pub stage_before : Network → ℕ → ℕ
stage_before network k = option_map_or (λ r. 1 + r) (router_before network k) 0

abbrev pub stage_after : Network → ℕ → ℕ
stage_after network k = option_map_or (λ r. 1 + r) (router_after network k) (1 + length network.routers)

-- Those for answers: behind the devices the last router comes first, and hosts are the last stage.
abbrev pub last_stage : Network → ℕ
last_stage network = 2 + 2 * length network.routers

-- the stage of router r for answers
abbrev pub answer_stage : Network → ℕ → ℕ
answer_stage network r = 1 + length network.routers + (length network.routers - r)

abbrev pub stage_back_before : Network → ℕ → ℕ
stage_back_before network k = option_map_or (answer_stage network) (router_after network k) (1 + length network.routers)

abbrev pub stage_back_after : Network → ℕ → ℕ
stage_back_after network k = option_map_or (answer_stage network) (router_before network k) (last_stage network)

-- The stages of the rings of all links, each of which has both ends in the network.
abbrev pub network_stages : Network → Stages
network_stages network = record {
  rings = ring_count network;
  last = last_stage network;
  from = λ ring. if is_upward ring then stage_back_before network (ring / 2) else stage_before network (ring / 2);
  to = λ ring. if is_upward ring then stage_back_after network (ring / 2) else stage_after network (ring / 2);
  comes_in = λ ring. false;
  goes_out = λ ring. false;
  leaves_host = λ ring. not (is_upward ring) && option_map_or (λ r. false) (router_before network (ring / 2)) true;
}
