-- The ways of a network whose routes lead on lead to its devices, and each is found by its flow.
use Rattle.std.proofs.Common.{◌≡◌, ◌≢◌, ◌<◌, ℕ, zero, suc, ◌+◌, Bool, true, false, cond, List, [], ◌∷◌, length, refl, sym, ap, ◌∙◌, arith, subst, inr}
use Rattle.std.specs.Prelude.{◌==◌, ◌&&◌, filter, All, AllPairs, Contains, Option, Some, None, get_or, slice_get, slice_index_or}
use Rattle.std.specs.List.{find, enumerate_from, range_with_len}
use Rattle.std.specs.Option.{option_map_or}
use Rattle.std.proofs.lemmas.Bool.Decides.{nat_tests}
use Rattle.std.proofs.lemmas.List.Elements.{All-map, All-filter, All-weaker, filter_passes, Contains-get_or}
use Rattle.std.proofs.lemmas.Option.{slice_get-get_or}
use Rattle.std.proofs.lemmas.List.Kept.{AllPairs-filter}
use Rattle.sb_packet.specs.Networks.{NetHost, Network}
use Rattle.sb_flow.specs.Ways.{NetWay, aims_at, next_link, links_from, way_links, host_ways, network_ways, is_way_of, flow_links, router_before}
use Rattle.sb_packet.proofs.Lists.{All-joined, AllPairs-head, AllPairs-tail}
use Rattle.sb_laws.specs.NetworkLayouts.{IsFirstLink, IsRouted, IsWayTo, way_flow}
use Rattle.sb_laws.proofs.ListPlaces.{All-enumerated, AllPairs-enumerated, AllPairs-map, AllPairs-joined, range_rises, range_below}
use Rattle.sb_laws.proofs.WalkedWays.{walked}

-- a way of a network, with the place of its host
pub record HostWay (network : Network) (way : NetWay) : Type 0 where
  pub place : ℕ
  pub inside : place < length network.hosts
  pub at : slice_get network.hosts place ≡ Some way.host
  pub host : Contains network.hosts way.host
  pub device : way.device < length network.devices
  pub aims : aims_at network way.host way.device ≡ true
  pub links : way.links ≡ way_links network place way.device

module _ (network : Network) where
  pub all_host_ways : All (HostWay network) (network_ways network)
  all_host_ways = All-joined (HostWay network) (λ p. host_ways network p.0 p.1) (enumerate_from 0 network.hosts)
      (All-enumerated (λ p. All (HostWay network) (host_ways network p.0 p.1)) 0 network.hosts (λ h host below. of_host (0 + h) (get_or network.hosts h host) (omega arith) (let same : 0 + h ≡ h = omega arith in rw same (slice_get-get_or network.hosts h host below)) (Contains-get_or network.hosts h host below)))
    where
      of_host : (h : ℕ) (host : NetHost) → h < length network.hosts → slice_get network.hosts h ≡ Some host → Contains network.hosts host → All (HostWay network) (host_ways network h host)
      of_host h host inside at contains = All-map (HostWay network) (λ d. record { host = host; device = d; links = way_links network h d }) (filter (aims_at network host) (range_with_len 0 (length network.devices)))
          (λ k d below. record {
            place = h;
            inside = inside;
            at = at;
            host = contains;
            device = All-filter (aims_at network host) (λ e. e < length network.devices) (range_with_len 0 (length network.devices)) (range_below (length network.devices)) k d below;
            aims = filter_passes (aims_at network host) (range_with_len 0 (length network.devices)) k d below;
            links = refl;
          })

  -- no two ways are of one flow
  ways_apart : AllPairs (λ a b. a.id ≢ b.id) network.hosts → AllPairs (λ a b. is_way_of (way_flow b) a ≡ false) (network_ways network)
  ways_apart ids = AllPairs-joined (λ a b. is_way_of (way_flow b) a ≡ false) (λ p. host_ways network p.0 p.1) (enumerate_from 0 network.hosts)
      (λ k p below. of_host (get_or (enumerate_from 0 network.hosts) k p).0 (get_or (enumerate_from 0 network.hosts) k p).1)
      (λ i j p below inside. of_others (get_or (enumerate_from 0 network.hosts) i p).0 (get_or (enumerate_from 0 network.hosts) j p).0 (get_or (enumerate_from 0 network.hosts) i p).1 (get_or (enumerate_from 0 network.hosts) j p).1
      (AllPairs-enumerated (λ a b. a.id ≢ b.id) 0 network.hosts ids i j p below inside))
    where
      other_device : (h a b : ℕ) (host : NetHost) → a < b → ((host.id == host.id) && (a == b)) ≡ false
      other_device h a b host below = let apart : (a == b) ≡ false = grind (arith, nat_tests) in let same : (host.id == host.id) ≡ true = grind (arith, nat_tests) in rw (same, apart) refl

      of_host : (h : ℕ) (host : NetHost) → AllPairs (λ a b. is_way_of (way_flow b) a ≡ false) (host_ways network h host)
      of_host h host = AllPairs-map (λ a b. is_way_of (way_flow b) a ≡ false) (λ d. record { host = host; device = d; links = way_links network h d }) (filter (aims_at network host) (range_with_len 0 (length network.devices)))
          (λ i j d below inside. other_device h _ _ host (AllPairs-filter (λ x y. x < y) (aims_at network host) (range_with_len 0 (length network.devices)) (range_rises 0 (length network.devices)) i j d below inside))

      other_host : (a b : NetHost) (c d : ℕ) → a.id ≢ b.id → ((a.id == b.id) && (c == d)) ≡ false
      other_host a b c d apart = let other : (a.id == b.id) ≡ false = grind (arith, nat_tests) in rw other refl

      of_others : (h k : ℕ) (a b : NetHost) → a.id ≢ b.id → All (λ x. All (λ y. is_way_of (way_flow y) x ≡ false) (host_ways network k b)) (host_ways network h a)
      of_others h k a b apart =
          All-map (λ x. All (λ y. is_way_of (way_flow y) x ≡ false) (host_ways network k b)) (λ d. record { host = a; device = d; links = way_links network h d }) (filter (aims_at network a) (range_with_len 0 (length network.devices)))
          (λ i c below. All-map (λ y. is_way_of (way_flow y) (record { host = a; device = get_or (filter (aims_at network a) (range_with_len 0 (length network.devices))) i c; links = way_links network h (get_or (filter (aims_at network a) (range_with_len 0 (length network.devices))) i c) }) ≡ false)
          (λ d. record { host = b; device = d; links = way_links network k d }) (filter (aims_at network b) (range_with_len 0 (length network.devices)))
          (λ j d inside. other_host a b (get_or (filter (aims_at network a) (range_with_len 0 (length network.devices))) i c) (get_or (filter (aims_at network b) (range_with_len 0 (length network.devices))) j d) apart))

  own_way : (way : NetWay) → is_way_of (way_flow way) way ≡ true
  own_way way = let host : (way.host.id == way.host.id) ≡ true = grind (arith, nat_tests) in let device : (way.device == way.device) ≡ true = grind (arith, nat_tests) in rw (host, device) refl

  -- so each is found by its own
  found_own : (ws : List NetWay) → AllPairs (λ a b. is_way_of (way_flow b) a ≡ false) ws → All (λ w. find (is_way_of (way_flow w)) ws ≡ Some w) ws
  found_own [] apart k d below = absurd (omega arith)
  found_own (w ∷ ws) apart zero d below = ap (λ (b : Bool). cond b (Some w) (find (is_way_of (way_flow w)) ws)) (own_way w)
  found_own (w ∷ ws) apart (suc k) d below =
      let v = get_or ws k d in
      ap (λ (b : Bool). cond b (Some w) (find (is_way_of (way_flow v)) ws)) (AllPairs-head (λ a b. is_way_of (way_flow b) a ≡ false) w ws apart k d (omega arith))
      ∙ found_own ws (AllPairs-tail (λ a b. is_way_of (way_flow b) a ≡ false) w ws apart) k d (omega arith)

  pub found_ways : AllPairs (λ a b. a.id ≢ b.id) network.hosts → All (λ way. flow_links network (way_flow way) ≡ way.links) (network_ways network)
  found_ways ids = All-weaker (λ w. find (is_way_of (way_flow w)) (network_ways network) ≡ Some w) (λ way. flow_links network (way_flow way) ≡ way.links)
      (λ w e. ap (λ (o : Option NetWay). option_map_or (λ way. way.links) o []) e) (network_ways network) (found_own (network_ways network) (ways_apart ids))

  module _ (routed : IsRouted network) where
    -- a host's way to a device that it aims at, link by link
    way_walked : (h d : ℕ) (host : NetHost) → h < length network.hosts → slice_get network.hosts h ≡ Some host → d < length network.devices → aims_at network host d ≡ true →
        IsWayTo network d (way_links network h d) × (router_before network (slice_index_or (way_links network h d) 0 0) ≡ None)
    way_walked h d host inside at there aims = (rw is (walked network routed d there (length network.routers) k first.there (inr (first.router, first.leads)) (λ q e. omega arith) (rw is at (routed.unbroken h d host at there aims))), rw is first.leaves)
      where
        k : ℕ
        k = (routed.first h inside).0

        first : IsFirstLink network h k
        first = (routed.first h inside).1

        is : way_links network h d ≡ k ∷ links_from (length network.routers) network d (next_link network d k)
        is = ap (links_from (suc (length network.routers)) network d) first.first

    pub ways_lead : All (λ way. IsWayTo network way.device way.links) (network_ways network)
    ways_lead = All-weaker (HostWay network) (λ way. IsWayTo network way.device way.links) (λ way w. subst (IsWayTo network way.device) (sym w.links) (way_walked w.place way.device way.host w.inside w.at w.device w.aims).0) (network_ways network) all_host_ways

    pub ways_start : All (λ way. router_before network (slice_index_or way.links 0 0) ≡ None) (network_ways network)
    ways_start = All-weaker (HostWay network) (λ way. router_before network (slice_index_or way.links 0 0) ≡ None)
        (λ way w. subst (λ (l : List ℕ). router_before network (slice_index_or l 0 0) ≡ None) (sym w.links) (way_walked w.place way.device way.host w.inside w.at w.device w.aims).1) (network_ways network) all_host_ways

  pub ways_hosts : All (λ way. Contains network.hosts way.host) (network_ways network)
  ways_hosts = All-weaker (HostWay network) (λ way. Contains network.hosts way.host) (λ way w. w.host) (network_ways network) all_host_ways

  pub ways_devices : All (λ way. way.device < length network.devices) (network_ways network)
  ways_devices = All-weaker (HostWay network) (λ way. way.device < length network.devices) (λ way w. w.device) (network_ways network) all_host_ways
