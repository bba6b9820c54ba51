-- Hosts that are built for their places belong to their network, and keep the promise for all flows.
use Rattle.std.proofs.Common.{◌≡◌, ◌≢◌, ◌≤◌, ◌<◌, ℕ, suc, List, [], ◌∷◌, ◌++◌, length, refl, sym, ap, ◌∙◌, arith, subst, inl, inr}
use Rattle.std.specs.Prelude.{◌⊎◌, All, Some, drop, get_or, map, reverse, slice_get}
use Rattle.std.proofs.lemmas.Bool.{cases_lt}
use Rattle.std.proofs.lemmas.List.{get_or-map, length-map, reverse-append}
use Rattle.std.proofs.lemmas.List.Elements.{All-map}
use Rattle.std.proofs.lemmas.Option.{get_or_from_slice_get}
use Rattle.sb_packet.specs.Networks.{NetHost, Network}
use Rattle.sb_link.specs.RingPlans.{NetFlow}
use Rattle.sb_flow.specs.Ways.{NetWay, first_link, flow_links, links_from, network_ways, next_link, way_links}
use Rattle.sb_host.specs.Hosts.{HostSide}
use Rattle.sb_flow.proofs.AcceptedLinks.{got_below}
use Rattle.sb_laws.specs.Flows.{last_of}
use Rattle.sb_laws.specs.NodeSides.{IsHostAt, IsHostBuiltFor, IsHostOf}
use Rattle.sb_laws.specs.Layouts.{ring_home}
use Rattle.sb_laws.specs.Moments.{Moment}
use Rattle.sb_laws.specs.NetworkLayouts.{IsRouted, answer_ring, first_ring, network_flows, network_layout, request_ring, ring_count, way_flow}
use Rattle.sb_laws.specs.Runs.{IsHost}
use Rattle.sb_laws.proofs.HostSides.{HostsOffer, HostsOfferAll, host_promise}
use Rattle.sb_laws.proofs.NoFaults.{AllPairs-at}
use Rattle.sb_laws.proofs.RingsOfWays.{ring_by_ring, ring_by_ring_back}
use Rattle.sb_laws.proofs.RoutedWays.{HostWay, all_host_ways, found_ways}

-- the last ring of a way of these rings
abbrev last_of_rings : List ℕ → ℕ
last_of_rings rings = last_of (first_ring rings) (drop 1 rings)

-- the last of the rings of some links is that of the last link
last_behind : (ring k : ℕ) (links : List ℕ) → last_of ring (map answer_ring (links ++ k ∷ [])) ≡ answer_ring k
last_behind ring k [] = refl
last_behind ring k (j ∷ links) = last_behind (answer_ring j) k links

last_of_links : (k : ℕ) (links : List ℕ) → last_of_rings (map answer_ring (links ++ k ∷ [])) ≡ answer_ring k
last_of_links k [] = refl
last_of_links k (j ∷ links) = last_behind (answer_ring j) k links

-- the other way round the first link is the last
home_ring : (k : ℕ) (links : List ℕ) → last_of_rings (map answer_ring (reverse (k ∷ links))) ≡ answer_ring k
home_ring k links = ap (λ (all : List ℕ). last_of_rings (map answer_ring all)) (reverse-append (k ∷ []) links) ∙ last_of_links k (reverse links)

module _ (network : Network) (routed : IsRouted network) where
  -- hosts of one id stand at one place
  one_place : (i j : ℕ) (x y : NetHost) → slice_get network.hosts i ≡ Some x → slice_get network.hosts j ≡ Some y → x.id ≡ y.id → i ≡ j
  one_place i j x y at there same = by_order (cases_lt i j) (cases_lt j i)
    where
      apart : (a b : ℕ) (p q : NetHost) → slice_get network.hosts a ≡ Some p → slice_get network.hosts b ≡ Some q → a < b → p.id ≢ q.id
      apart a b p q e f less = AllPairs-at (λ v w. v.id ≢ w.id) network.hosts a b p q routed.scripts.ids less e f

      by_order : (i < j) ⊎ (j ≤ i) → (j < i) ⊎ (i ≤ j) → i ≡ j
      by_order (inl less) other = absurd (apart i j x y at there less same)
      by_order (inr more) (inl less) = absurd (apart j i y x there at less (sym same))
      by_order (inr more) (inr less) = omega (arith, more, less)

  module _ (place : ℕ) (host : NetHost) (at : slice_get network.hosts place ≡ Some host) where
    pub inside : place < length network.hosts
    inside = got_below network.hosts place host at

    -- the link from the host
    abbrev pub link : ℕ
    link = (routed.first place inside).0

    pub first : first_link network place ≡ Some link
    first = (routed.first place inside).1.first

    pub first_link_there : request_ring link < ring_count network
    first_link_there = let there = (routed.first place inside).1.there in omega (arith, there)

    -- each way of the host begins with it
    begins : (way : NetWay) → HostWay network way → flow_links network (way_flow way) ≡ way.links → way.host.id ≡ host.id →
        flow_links network (way_flow way) ≡ link ∷ links_from (length network.routers) network way.device (next_link network way.device link)
    begins way w found mine =
        found ∙ w.links ∙ ap (λ (p : ℕ). way_links network p way.device) (one_place w.place place way.host host w.at at mine)
        ∙ ap (links_from (suc (length network.routers)) network way.device) first

    pub way_first : All (λ way. way.host.id ≡ host.id → (network_layout network).requests.first (way_flow way) ≡ request_ring link) (network_ways network)
    way_first k d below mine =
        let way = get_or (network_ways network) k d in
        ap first_ring (ring_by_ring network (way_flow way)) ∙ ap (λ (l : List ℕ). first_ring (map request_ring l)) (begins way (all_host_ways network k d below) (found_ways network routed.scripts.ids k d below) mine)

    way_home : All (λ way. way.host.id ≡ host.id → ring_home (network_layout network) (way_flow way) ≡ answer_ring link) (network_ways network)
    way_home k d below mine =
        let way = get_or (network_ways network) k d in
        ap last_of_rings (ring_by_ring_back network (way_flow way))
        ∙ ap (λ (l : List ℕ). last_of_rings (map answer_ring (reverse l))) (begins way (all_host_ways network k d below) (found_ways network routed.scripts.ids k d below) mine)
        ∙ home_ring link (links_from (length network.routers) network way.device (next_link network way.device link))

    pub belongs : (h : HostSide) → IsHostBuiltFor network place h → IsHostOf network (network_layout network) host h
    belongs h built = record {
      listed = (place, inside, get_or_from_slice_get network.hosts place host host at);
      asked = built.asked host at;
      asks = All-map (λ f. f.host ≡ host.id → (network_layout network).requests.first f ≡ h.requests.plan.ring) way_flow (network_ways network) (λ k d below mine. way_first k d below mine ∙ sym (built.asks_by link first));
      answered = All-map (λ f. f.host ≡ host.id → ring_home (network_layout network) f ≡ h.answers.plan.ring) way_flow (network_ways network) (λ k d below mine. way_home k d below mine ∙ sym (built.answered_by link first));
    }

  -- where each host stands so, each flow's host keeps its promise
  pub all_promises : HostsOffer → HostsOfferAll → (m : Moment) (hosts : ℕ → HostSide) → ((n : ℕ) → n < length network.hosts → IsHostAt network m n (hosts n)) → All (IsHost network (network_layout network) m) (network_flows network)
  all_promises offer offer_all m hosts stand = All-map (IsHost network (network_layout network) m) way_flow (network_ways network)
      (λ k d below.
      let way = get_or (network_ways network) k d in
      let w = all_host_ways network k d below in
      let n = w.place in
      let s = stand n w.inside in
      let of_all = host_promise offer offer_all network (network_layout network) m way.host (hosts n) routed.scripts routed.pages (belongs n way.host w.at (hosts n) s.built) s.whole s.has in
      let at = of_all k (way_flow d) (omega (arith, below, length-map (network_ways network) way_flow)) in
      subst (λ (f : NetFlow). f.host ≡ way.host.id → IsHost network (network_layout network) m f) (get_or-map way_flow (network_ways network) k d (way_flow d) below) at refl)
