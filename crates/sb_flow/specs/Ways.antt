-- By which links a host's packets reach a device, and how these ways run. This project's own.
use Rattle.std.specs.Prelude.{ℕ, zero, suc, Bool, false, ◌&&◌, ◌==◌, List, [], ◌∷◌, length, filter, flat_map, map, Option, Some, None, option_and_then, slice_get, slice_index_or, ◌≡◌, ◌≢◌, ◌+◌, ◌-◌, ◌*◌, ◌≤◌, ◌<◌, true, AllPairs}
use Rattle.std.specs.List.{enumerate_from, find, list_any, position_from, range_with_len}
use Rattle.std.specs.Option.{option_map_or}
use Rattle.sb_packet.specs.Networks.{NetHost, NetPlace, Network, at_device, at_host, at_router, device_at, leads_to, leaves_from}
use Rattle.sb_link.specs.RingPlans.{NetFlow}
use Rattle.sb_packet.specs.declared.transaction.Txn.{Txn}

-- there is a number, and it is this one
abbrev pub is_some_number : ℕ → Option ℕ → Bool
is_some_number n found = option_map_or (λ k. k == n) found false

-- a transaction's address lies in the range of device d
abbrev pub is_aimed_at : Network → ℕ → Txn → Bool
is_aimed_at network d t = is_some_number d (device_at network t.addr)

-- A host aims at a device where some transaction of its script does.
abbrev pub aims_at : Network → NetHost → ℕ → Bool
aims_at network host d = list_any (is_aimed_at network d) host.script

-- the router that an end of a link is, where it is one
abbrev pub router_at_end : NetPlace → Option ℕ
router_at_end (at_router r) = Some r
router_at_end (at_host h) = None
router_at_end (at_device d) = None

-- the router that link k leaves, and the one that it leads to, where these are routers
abbrev pub router_before : Network → ℕ → Option ℕ
router_before network k = option_and_then (λ link. router_at_end link.from) (slice_get network.links k)

abbrev pub router_after : Network → ℕ → Option ℕ
router_after network k = option_and_then (λ link. router_at_end link.to) (slice_get network.links k)

-- the link from host h
abbrev pub first_link : Network → ℕ → Option ℕ
first_link network h = position_from (leaves_from h) 0 network.links

-- the link that router r's route for device d gives
abbrev pub route_at : Network → ℕ → ℕ → Option ℕ
route_at network d r = option_and_then (λ router. slice_index_or router.routes d None) (slice_get network.routers r)

-- the link behind link k on the way to device d: the router that k leads to has the route
abbrev pub next_link : Network → ℕ → ℕ → Option ℕ
next_link network d k = option_and_then (route_at network d) (router_after network k)

-- at most n links of the way to device d, from a link on
abbrev pub links_from : ℕ → Network → ℕ → Option ℕ → List ℕ
links_from zero network d found = []
links_from (suc n) network d None = []
links_from (suc n) network d (Some k) = k ∷ links_from n network d (next_link network d k)

-- The links of the way from host h to device d: the one that leaves the host, then again and again the one that the reached router's route gives, until the device is reached. No way has more links than there are routers and one.
abbrev pub way_links : Network → ℕ → ℕ → List ℕ
way_links network h d = links_from (suc (length network.routers)) network d (first_link network h)

-- what one host asks of one device, with the links that lead there, the host's own first
pub record NetWay : Type 0 where
  pub host : NetHost
  pub device : ℕ
  pub links : List ℕ

-- the ways of host h to the devices that it aims at, in their order
abbrev pub host_ways : Network → ℕ → NetHost → List NetWay
host_ways network h host = map (λ d. record { host = host; device = d; links = way_links network h d }) (filter (aims_at network host) (range_with_len 0 (length network.devices)))

-- All ways of a network, host by host.
abbrev pub network_ways : Network → List NetWay
network_ways network = flat_map (λ p. host_ways network p.0 p.1) (enumerate_from 0 network.hosts)

-- a way is that of a flow
abbrev pub is_way_of : NetFlow → NetWay → Bool
is_way_of f way = (way.host.id == f.host) && (way.device == f.device)

-- the links of a flow's way; none where no host aims so
abbrev pub flow_links : Network → NetFlow → List ℕ
flow_links network f = option_map_or (λ way. way.links) (find (is_way_of f) (network_ways network)) []

-- The link by which a flow leaves router r towards its device; none where it doesn't pass that router.
abbrev pub link_down : Network → ℕ → NetFlow → Option ℕ
link_down network r f = find (λ k. is_some_number r (router_before network k)) (flow_links network f)

-- The link by which it leaves router r towards its host.
abbrev pub link_up : Network → ℕ → NetFlow → Option ℕ
link_up network r f = find (λ k. is_some_number r (router_after network k)) (flow_links network f)

-- How the ways of an accepted network run.

-- the last of some links leads to device d
abbrev pub ends_at : Network → ℕ → List ℕ → Bool
ends_at network d [] = false
ends_at network d (k ∷ []) = option_map_or (leads_to d) (slice_get network.links k) false
ends_at network d (k ∷ j ∷ links) = ends_at network d (j ∷ links)

-- each link leads to the router that the next one leaves
abbrev pub AreJoined : Network → List ℕ → Type 0
AreJoined network [] = Unit {0}
AreJoined network (k ∷ []) = Unit {0}
AreJoined network (k ∷ j ∷ links) = ((r : ℕ) × (router_after network k ≡ Some r) × (router_before network j ≡ Some r)) × AreJoined network (j ∷ links)

-- where a link begins in the order of hosts, then routers: 0 at a host, 1 + r at router r
abbrev pub link_rank : Network → ℕ → ℕ
link_rank network k = option_map_or suc (router_before network k) 0

-- What each way of an accepted network is.
pub record IsCourse (network : Network) (way : NetWay) : Type 0 where
  -- it leads to its device, and has at most one link more than there are routers
  pub ends : ends_at network way.device way.links ≡ true
  pub short : length way.links ≤ length network.routers + 1
  -- each link leads to the router that the next one leaves
  pub joined : AreJoined network way.links
  -- it goes by the order of routers, the same for all ways, so no link is twice on it
  pub rising : AllPairs (λ a b. link_rank network a < link_rank network b) way.links
  pub distinct : AllPairs (λ a b. a ≢ b) way.links

-- The order of places for requests: hosts, then routers in their order, then devices.
abbrev pub down_stage : Network → NetPlace → ℕ
down_stage network (at_host h) = 0
down_stage network (at_router r) = 1 + r
down_stage network (at_device d) = 1 + length network.routers

-- For answers it goes on behind the devices: routers in the other order, then hosts.
abbrev pub up_stage : Network → NetPlace → ℕ
up_stage network (at_device d) = 1 + length network.routers
up_stage network (at_router r) = 2 + length network.routers + (length network.routers - 1 - r)
up_stage network (at_host h) = 2 + 2 * length network.routers
