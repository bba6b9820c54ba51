-- The words of a message are of the flow that it is of.
use Rattle.std.proofs.Common.{◌≡◌, ◌<◌, ℕ, ◌+◌, ◌*◌, ◌^◌, Bool, true, false, cond, List, [], ◌∷◌, length, refl, sym, ap, ◌∙◌, arith, subst}
use Rattle.std.specs.Prelude.{◌==◌, ◌||◌, ◌&&◌, map, All, Option, Some, None, option_map}
use Rattle.std.specs.List.{list_any, position_from}
use Rattle.std.proofs.Math.Pow.{pow_pos}
use Rattle.std.proofs.lemmas.Bool.Decides.{nat_tests}
use Rattle.std.proofs.lemmas.List.{length-take}
use Rattle.std.proofs.lemmas.Bool.{and_parts}
use Rattle.sb_packet.specs.Accesses.{Access, access_at, message_accesses}
use Rattle.sb_packet.specs.Messages.{Message, message_span}
use Rattle.sb_packet.specs.Cuts.{device_place}
use Rattle.sb_packet.specs.Networks.{Network, device_at}
use Rattle.sb_packet.specs.Journals.{is_request, device_address}
use Rattle.sb_link.specs.RingPlans.{AddressRange, NetFlow, holds_span, goes_home, goes_through, device_ranges, message_flow}
use Rattle.sb_flow.specs.Ways.{NetWay}
use Rattle.sb_flow.specs.Rings.{network_ranges, ring_flows, ring_ways}
use Rattle.sb_packet.proofs.Lists.{All-made}
use Rattle.sb_packet.proofs.ReplyAddresses.{word_within}
use Rattle.sb_flow.proofs.LinkMarks.{list_any-map}
use Rattle.sb_laws.specs.Flows.{is_of, is_among_flows, is_same_flow}
use Rattle.sb_laws.specs.NetworkLayouts.{IsRouted, way_flow}
use Rattle.sb_laws.proofs.FlowMembers.{same_flow}
use Rattle.sb_laws.proofs.LinksToDevices.{found_place}
use Rattle.sb_laws.proofs.ListPlaces.{or_left, or_right}
use Rattle.sb_laws.proofs.PlannedWords.{any_weaker, in_table, span_device, at_one_device}

-- a message's flow is of its host, and of a device that there is
pub flow_low : (network : Network) (ring : ℕ) (m : Message) (g : NetFlow) → message_flow (ring_flows network ring) m ≡ Some g → (g.host ≡ m.host) × (g.device < length network.devices)
flow_low network ring m g e = by_home (goes_home m) e
  where
    ranges : List AddressRange
    ranges = device_ranges (ring_flows network ring)

    place : Option ℕ
    place = position_from (holds_span (device_place m) (message_span m)) 0 ranges

    by_place : (o : Option ℕ) → place ≡ o → option_map (λ d. record { host = m.host; device = d }) o ≡ Some g → (g.host ≡ m.host) × (g.device < length network.devices)
    by_place None is e = absurd (cc)
    by_place (Some d) is e =
        let same : (let f : NetFlow = record { host = m.host; device = d } in f ≡ g) = cc in
        let at = found_place (holds_span (device_place m) (message_span m)) 0 d ranges is in
        let inside = at.2.inside in
        let few = length-take (length network.devices) (network_ranges network) in
        (sym (ap (λ (f : NetFlow). f.host) same), (let device : d ≡ g.device = ap (λ (f : NetFlow). f.device) same in omega (arith, at.1, inside, few, device)))

    by_home : (b : Bool) → cond b (option_map (λ d. record { host = m.host; device = d }) place) None ≡ Some g → (g.host ≡ m.host) × (g.device < length network.devices)
    by_home true e = by_place place refl e
    by_home false e = absurd (cc)

module _ (network : Network) (routed : IsRouted network) where
  pub flow_words : (ring : ℕ) (m : Message) (g : NetFlow) → message_flow (ring_flows network ring) m ≡ Some g → All (λ a. is_of network g a ≡ true) (message_accesses m)
  flow_words ring m g e = by_home (goes_home m) e
    where
      place : Option ℕ
      place = position_from (holds_span (device_place m) (message_span m)) 0 (device_ranges (ring_flows network ring))

      flow_at : ℕ → NetFlow
      flow_at d = record { host = m.host; device = d }

      of_word : (d : ℕ) → place ≡ Some d → (j : ℕ) → j < m.count → is_of network (flow_at d) (access_at m j) ≡ true
      of_word d found j below =
          let within = word_within m.size m.count j below in
          let some : 0 < 2 ^ m.size = pow_pos m.size in
          let has = span_device network routed d (device_place m) (message_span m) (j * 2 ^ m.size) found (omega (arith, within, some)) in
          let address : device_address (access_at m j) ≡ device_place m + j * 2 ^ m.size = elim (is_request m.op) as (λ b. cond b (m.dst + j * 2 ^ m.size) (m.src + j * 2 ^ m.size) ≡ cond b m.dst m.src + j * 2 ^ m.size) [ true ↦ refl | false ↦ refl ] in
          let at : device_at network (device_address (access_at m j)) ≡ Some d = ap (device_at network) address ∙ at_one_device network routed d (device_place m + j * 2 ^ m.size) has in
          let host : (m.host == m.host) ≡ true = grind (arith, nat_tests) in
          let device : (d == d) ≡ true = grind (arith, nat_tests) in
          rw (host, at, device) refl

      by_place : (o : Option ℕ) → place ≡ o → option_map flow_at o ≡ Some g → All (λ a. is_of network g a ≡ true) (message_accesses m)
      by_place None is e = absurd (cc)
      by_place (Some d) is e =
          let same : flow_at d ≡ g = cc in
          subst (λ (f : NetFlow). All (λ a. is_of network f a ≡ true) (message_accesses m)) same
          (All-made (λ a. is_of network (flow_at d) a ≡ true) (access_at m) m.count (λ j below. of_word d is j below))

      by_home : (b : Bool) → cond b (option_map flow_at place) None ≡ Some g → All (λ a. is_of network g a ≡ true) (message_accesses m)
      by_home true e = by_place place refl e
      by_home false e = absurd (cc)

-- a flow that goes over a ring by its plan is that of one of the ring's ways
pub flow_through : (network : Network) (ring : ℕ) (ws : List NetWay) (fs : List NetFlow) (f : NetFlow) → ring_ways network ring ≡ ws → fs ≡ map way_flow ws → goes_through (ring_flows network ring) f ≡ true → is_among_flows f fs ≡ true
flow_through network ring ws fs f same flows through =
    let there = in_table (ring_ways network ring) f through in
    ap (is_among_flows f) flows ∙ list_any-map (is_same_flow f) way_flow ws
    ∙ any_weaker (λ way. (way.host.id == f.host) && (way.device == f.device)) (λ way. is_same_flow f (way_flow way))
    (λ way e. let parts = and_parts (way.host.id == f.host) (way.device == f.device) e in
    let host_test = parts.0 in
    let device_test = parts.1 in
    let host : (f.host == way.host.id) ≡ true = grind (arith, nat_tests) in
    let device : (f.device == way.device) ≡ true = grind (arith, nat_tests) in
    rw (host, device) refl) ws
    (subst (λ (l : List NetWay). list_any (λ way. (way.host.id == f.host) && (way.device == f.device)) l ≡ true) same there)

-- a word of a flow is a word of some flows that it is among
pub of_some : (network : Network) (g : NetFlow) (a : Access) (fs : List NetFlow) → is_of network g a ≡ true → is_among_flows g fs ≡ true → list_any (λ f. is_of network f a) fs ≡ true
of_some network g a [] t e = e
of_some network g a (h ∷ fs) t e = by_test (is_same_flow g h) refl e (of_some network g a fs t)
  where
    by_test : (b : Bool) → is_same_flow g h ≡ b → (b || is_among_flows g fs) ≡ true → (is_among_flows g fs ≡ true → list_any (λ f. is_of network f a) fs ≡ true) → (is_of network h a || list_any (λ f. is_of network f a) fs) ≡ true
    by_test true same k later = or_left (is_of network h a) (list_any (λ f. is_of network f a) fs) (ap (λ (f : NetFlow). is_of network f a) (same_flow g h same) ∙ t)
    by_test false same k later = or_right (is_of network h a) (list_any (λ f. is_of network f a) fs) (later k)
