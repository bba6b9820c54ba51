-- What an accepted network keeps: limits, names, ranges of devices, routes.
use Rattle.std.specs.Prelude.{ℕ, Bool, List, [], ◌∷◌, ◌++◌, length, Option, None, option_map, ◌&&◌, nat_le, sum_by, true, ◌==◌, nat_lt, map, bytes_eq, ◌+◌, ◌%◌, ◌^◌, not, false, filter, Some, option_and_then, slice_get, if◌then◌else◌, ◌≡◌, ◌≤◌, All}
use Rattle.std.specs.List.{position_from, list_all, enumerate_from, range_with_len}
use Rattle.std.specs.Option.{option_or, option_map_or}
use Rattle.sb_packet.specs.Networks.{NetDevice, NetHost, NetLink, NetPlace, NetRouter, Network, at_device, at_host, at_router, device_size}
use Rattle.sb_link.specs.RingPlans.{are_apart}
use Rattle.sb_flow.specs.Rings.{range_of}
use Rattle.sb_flow.specs.Ways.{aims_at, is_some_number, route_at, router_after, router_before, way_links}
use Rattle.sb_packet.specs.Scripts.{IsTransaction}
use Rattle.sb_flow.specs.Ends.{backward_link, odd_width, unfit_link, unlinked_place}

-- The first thing in a list that fails a test.

-- what the first item tells that tells something
abbrev pub first_told : {A B : Type 0} → (A → Option B) → List A → Option B
first_told tell [] = None
first_told tell (x ∷ xs) = option_or (tell x) (first_told tell xs)

-- two places in a list, the later one first
pub record Clash : Type 0 where
  pub at : ℕ
  pub earlier : ℕ

-- the first item behind some others that clashes with an earlier one, and the first that it clashes with
abbrev pub clash_behind : {A : Type 0} → (A → A → Bool) → List A → List A → Option Clash
clash_behind clash before [] = None
clash_behind clash before (x ∷ xs) =
    option_or (option_map (λ earlier. record { at = length before; earlier = earlier }) (position_from (λ y. clash x y) 0 before)) (clash_behind clash (before ++ x ∷ []) xs)

-- the first item of a list that clashes with an earlier one
abbrev pub first_clash : {A : Type 0} → (A → A → Bool) → List A → Option Clash
first_clash clash xs = clash_behind clash [] xs

-- Limits of numbers and of lists. This project's own.

-- a number is from one on up to another
abbrev pub is_from_to : ℕ → ℕ → ℕ → Bool
is_from_to least most n = nat_le least n && nat_le n most

-- the numbers of a host, and the length of its script
abbrev pub is_limited_host : NetHost → Bool
is_limited_host h = nat_le h.id 31 && nat_le h.qos 15 && nat_le h.prot 3 && nat_le (length h.script) 65536

-- a router's side is 0 or 1
abbrev pub is_limited_router : NetRouter → Bool
is_limited_router r = nat_le r.side 1

-- a device has 1 to 256 pages
abbrev pub is_limited_device : NetDevice → Bool
is_limited_device d = is_from_to 1 256 d.pages

-- a ring takes 1 to 1,024 items
abbrev pub is_limited_link : NetLink → Bool
is_limited_link l = is_from_to 1 1024 l.capacity

-- all pages together
abbrev pub page_count : Network → ℕ
page_count network = sum_by (λ d. d.pages) network.devices

-- A network is neither empty nor too large, and all its numbers are in range.
abbrev pub is_limited : Network → Bool
is_limited network =
    is_from_to 1 32 (length network.hosts) && is_from_to 1 32 (length network.routers)
    && is_from_to 1 32 (length network.devices) && is_from_to 1 128 (length network.links)
    && list_all is_limited_host network.hosts && list_all is_limited_router network.routers
    && list_all is_limited_device network.devices && list_all is_limited_link network.links
    && nat_le (page_count network) 4096

-- the words of all scripts
abbrev pub word_count : Network → ℕ
word_count network = sum_by (λ h. sum_by (λ t. t.count) h.script) network.hosts

-- Names and ids: no two things share one, and what is named is there. This project's own.

-- Hosts, routers and devices have their names in common: the first of them with the name of an earlier one.
abbrev pub repeated_name : Network → Option Clash
repeated_name network = first_clash bytes_eq (map (λ h. h.name) network.hosts ++ map (λ r. r.name) network.routers ++ map (λ d. d.name) network.devices)

-- the first link with the name of an earlier one
abbrev pub repeated_link_name : Network → Option Clash
repeated_link_name network = first_clash (λ x y. bytes_eq x.name y.name) network.links

-- The first host with the id of an earlier one.
abbrev pub repeated_id : Network → Option Clash
repeated_id network = first_clash (λ x y. x.id == y.id) network.hosts

-- there is such a place
abbrev pub is_there : Network → NetPlace → Bool
is_there network (at_host h) = nat_lt h (length network.hosts)
is_there network (at_router r) = nat_lt r (length network.routers)
is_there network (at_device d) = nat_lt d (length network.devices)

-- there is such a link, where one is named
abbrev pub is_link_there : Network → Option ℕ → Bool
is_link_there network named = option_map_or (λ k. nat_lt k (length network.links)) named true

-- All that links, routes and the wire name is there.
abbrev pub names_what_is_there : Network → Bool
names_what_is_there network =
    list_all (λ l. is_there network l.from && is_there network l.to) network.links
    && list_all (λ r. list_all (is_link_there network) r.routes) network.routers
    && is_link_there network network.wire

-- Where devices lie. This project's own.

-- a device begins with a page, and ends at most at 2 ^ 56
abbrev pub is_placed_device : NetDevice → Bool
is_placed_device d = (d.base % 4096 == 0) && nat_le (d.base + device_size d) (2 ^ 56)

-- The first device that doesn't.
abbrev pub misplaced_device : Network → Option ℕ
misplaced_device network = position_from (λ d. not (is_placed_device d)) 0 network.devices

-- The first device that has a byte in common with an earlier one.
abbrev pub overlapping_device : Network → Option Clash
overlapping_device network = first_clash (λ x y. not (are_apart (range_of x) (range_of y))) network.devices

-- The first device whose image is longer than it.
abbrev pub overfull_device : Network → Option ℕ
overfull_device network = position_from (λ d. nat_lt (device_size d) (length d.image)) 0 network.devices

-- Routes: each leads on towards its device, and none is missing where a host aims. This project's own.

-- a router, and a device that packets at it may be for
pub record RouteAt : Type 0 where
  pub router : ℕ
  pub device : ℕ

-- a link's end is a device other than d
abbrev pub is_other_device : ℕ → NetPlace → Bool
is_other_device d (at_device k) = not (k == d)
is_other_device d (at_host h) = false
is_other_device d (at_router r) = false

-- link k leaves router r, and leads to no other device than d
abbrev pub leads_on : Network → ℕ → ℕ → ℕ → Bool
leads_on network r d k = is_some_number r (router_before network k) && not (option_map_or (λ l. is_other_device d l.to) (slice_get network.links k) false)

-- router r's route for device d, if it has one, leads on
abbrev pub is_stray : Network → ℕ → ℕ → Bool
is_stray network r d = not (option_map_or (leads_on network r d) (route_at network d r) true)

-- the first route that doesn't, of router r and of all routers
abbrev pub stray_route_of : Network → ℕ → Option RouteAt
stray_route_of network r = first_told (λ d. if is_stray network r d then Some (record { router = r; device = d }) else None) (range_with_len 0 (length network.devices))

abbrev pub stray_route : Network → Option RouteAt
stray_route network = first_told (stray_route_of network) (range_with_len 0 (length network.routers))

-- the router that link k leads to, where it has no route for device d
abbrev pub lost_behind : Network → ℕ → ℕ → Option RouteAt
lost_behind network d k = option_and_then (λ r. option_map_or (λ next. None) (route_at network d r) (Some (record { router = r; device = d }))) (router_after network k)

-- the first router without a route, on the way from host h to device d, and on the ways of one host and of all hosts
abbrev pub lost_on_way : Network → ℕ → ℕ → Option RouteAt
lost_on_way network h d = first_told (lost_behind network d) (way_links network h d)

abbrev pub lost_of_host : Network → ℕ → NetHost → Option RouteAt
lost_of_host network h host = first_told (lost_on_way network h) (filter (aims_at network host) (range_with_len 0 (length network.devices)))

abbrev pub lost_flow : Network → Option RouteAt
lost_flow network = first_told (λ p. lost_of_host network p.0 p.1) (enumerate_from 0 network.hosts)

-- The first route that leads astray, or else the first that is missing where a host aims.
abbrev pub route_fault : Network → Option RouteAt
route_fault network = option_or (stray_route network) (lost_flow network)

-- A network is accepted where no test finds a fault in it.
pub record IsAccepted (network : Network) : Type 0 where
  -- it is neither empty nor too large, and all its numbers are in range
  pub limits : is_limited network ≡ true
  -- no two hosts, routers or devices have one name, and no two links
  pub names : repeated_name network ≡ None
  pub link_names : repeated_link_name network ≡ None
  -- what links, routes and the wire name is there
  pub named : names_what_is_there network ≡ true
  -- no two hosts have one id
  pub ids : repeated_id network ≡ None
  -- devices are whole pages below 2 ^ 56, apart from each other, and have room for their images
  pub placed : misplaced_device network ≡ None
  pub apart : overlapping_device network ≡ None
  pub images : overfull_device network ≡ None
  -- links have a width that there is, and join what they may, forward and without a gap
  pub widths : odd_width network ≡ None
  pub ends : unfit_link network ≡ None
  pub forward : backward_link network ≡ None
  pub linked : unlinked_place network ≡ None
  -- each line of a script can be issued
  pub lines : All (λ h. All IsTransaction h.script) network.hosts
  -- each route leads on, and none is missing where a host aims
  pub routes : route_fault network ≡ None
  -- the scripts have 262,144 words at most
  pub words : word_count network ≤ 262144
