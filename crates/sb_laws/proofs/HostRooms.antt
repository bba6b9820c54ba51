-- The ring from a host has room for all words that the host asks.
use Rattle.std.proofs.Common.{◌≡◌, ◌≤◌, ℕ, Bool, true, false, cond, List, [], ◌∷◌, length, refl, sym, ap, ◌∙◌, arith, subst}
use Rattle.std.specs.Prelude.{◌&&◌, ◌||◌, ◌==◌, filter, All, Contains, Option, Some, None, get_or, slice_get}
use Rattle.std.specs.List.{enumerate_from, find, list_any}
use Rattle.std.specs.Option.{option_map_or}
use Rattle.std.proofs.lemmas.Bool.Decides.{nat_tests}
use Rattle.std.proofs.lemmas.List.Elements.{All-filter, All-head, All-map, All-nil, All-tail, filter_passes}
use Rattle.std.proofs.lemmas.Option.{get_or_from_slice_get}
use Rattle.std.proofs.lemmas.Bool.{and_from}
use Rattle.sb_packet.specs.Accesses.{Access, access_at}
use Rattle.sb_packet.specs.Journals.{is_at, is_request}
use Rattle.sb_packet.specs.Networks.{NetHost, Network, device_at}
use Rattle.sb_link.specs.RingPlans.{NetFlow}
use Rattle.sb_flow.specs.Rings.{ring_budget}
use Rattle.sb_packet.specs.Scripts.{script_accesses, transaction_accesses, transaction_message}
use Rattle.sb_flow.specs.Ways.{network_ways}
use Rattle.sb_packet.proofs.Lists.{All-joined, All-kept, All-made, filter_all, filter_none}
use Rattle.sb_link.proofs.Truths.{same_number}
use Rattle.sb_host.specs.Asked.{asked_accesses, asked_by}
use Rattle.sb_laws.specs.Flows.{aimed_script, asked_words, flows_over, goes_over, is_among_flows, is_of, is_same_flow, words_of_flow, words_of_script}
use Rattle.sb_laws.specs.NetworkLayouts.{IsRouted, network_flows, network_requests, request_ring, way_flow}
use Rattle.sb_laws.proofs.CarriedRings.{request_budget}
use Rattle.sb_laws.proofs.Counts.{flows_cover, is_of_some}
use Rattle.sb_laws.proofs.FlowMembers.{same_flow}
use Rattle.sb_laws.proofs.HostSides.{asked_script, at_listed, is_aimed}
use Rattle.sb_laws.proofs.HostsInNetworks.{first_link_there, inside, link, way_first}
use Rattle.sb_laws.proofs.NetworkLaidOut.{laid_out}
use Rattle.sb_laws.proofs.ScriptFacts.{found_by_id, script_asks}
use Rattle.sb_laws.proofs.Sums.{sum_by_le}
use Rattle.sb_laws.proofs.WaysOfRouted.{ways_of_routed}

or_right : (a b : Bool) → b ≡ true → (a || b) ≡ true
or_right true b e = refl
or_right false b e = e

-- a word of a flow that is among others which pass a test is of one that passes
some_passing : (network : Network) (q : NetFlow → Bool) (f : NetFlow) (a : Access) (fs : List NetFlow) → is_of network f a ≡ true → All (λ g. g.host ≡ f.host → q g ≡ true) fs → is_among_flows f fs ≡ true → is_of_some network (filter q fs) a ≡ true
some_passing network q f a [] p all e = absurd (let never : false ≡ true = e in cc)
some_passing network q f a (g ∷ fs) p all e = by_test (is_same_flow f g) refl e (some_passing network q f a fs p (All-tail (λ g. g.host ≡ f.host → q g ≡ true) g fs all))
  where
    later_one : (b : Bool) → is_of_some network (filter q fs) a ≡ true → is_of_some network (cond b (g ∷ filter q fs) (filter q fs)) a ≡ true
    later_one true e = or_right (is_of network g a) (is_of_some network (filter q fs) a) e
    later_one false e = e

    by_test : (b : Bool) → is_same_flow f g ≡ b → (b || is_among_flows f fs) ≡ true → (is_among_flows f fs ≡ true → is_of_some network (filter q fs) a ≡ true) → is_of_some network (filter q (g ∷ fs)) a ≡ true
    by_test true t e later =
        let same : g ≡ f = same_flow f g t in
        ap (λ (b : Bool). is_of_some network (cond b (g ∷ filter q fs) (filter q fs)) a) (All-head (λ g. g.host ≡ f.host → q g ≡ true) g fs all (ap (λ (x : NetFlow). x.host) same))
        ∙ ap (λ (b : Bool). b || is_of_some network (filter q fs) a) (ap (λ (x : NetFlow). is_of network x a) same ∙ p)
    by_test false t e later = later_one (q g) (later e)

-- of fewer no more pass
fewer_pass : {X : Type 0} (p q : X → Bool) (xs : List X) → length (filter p (filter q xs)) ≤ length (filter p xs)
fewer_pass p q [] = omega arith
fewer_pass p q (x ∷ xs) = by_tests (p x) refl (q x) (fewer_pass p q xs)
  where
    by_tests : (b : Bool) → p x ≡ b → (c : Bool) → length (filter p (filter q xs)) ≤ length (filter p xs) → length (filter p (cond c (x ∷ filter q xs) (filter q xs))) ≤ length (cond b (x ∷ filter p xs) (filter p xs))
    by_tests true t true rest = rw t (omega (arith, rest))
    by_tests true t false rest = omega (arith, rest)
    by_tests false t true rest = rw t rest
    by_tests false t false rest = rest

module _ (network : Network) (routed : IsRouted network) (place : ℕ) (host : NetHost) (at : slice_get network.hosts place ≡ Some host) where
  -- the ring from the host, and its flows
  abbrev ring : ℕ
  ring = request_ring (link network routed place host at)

  abbrev carried : List NetFlow
  carried = flows_over (network_requests network) ring

  own_script : words_of_script network host.id ≡ script_accesses host
  own_script = ap (λ (o : Option NetHost). option_map_or script_accesses o []) (at_listed (λ h. find (λ x. x.id == h.id) network.hosts ≡ Some h) network.hosts host (found_by_id network.hosts routed.scripts.ids) (place, inside network routed place host at, get_or_from_slice_get network.hosts place host host at))

  -- all words of a script are of its host
  own_words : All (λ a. a.host ≡ host.id) (script_accesses host)
  own_words = All-joined (λ a. a.host ≡ host.id) (λ p. transaction_accesses host p.0 p.1) (enumerate_from 0 host.script)
      (λ k p below. All-made (λ a. a.host ≡ host.id) (access_at (transaction_message host (get_or (enumerate_from 0 host.script) k p).0 (get_or (enumerate_from 0 host.script) k p).1)) (get_or (enumerate_from 0 host.script) k p).1.count (λ j inside. refl))

  -- each flow of the host goes over its ring
  goes_by_ring : All (λ f. f.host ≡ host.id → goes_over (network_requests network) ring f ≡ true) (network_flows network)
  goes_by_ring = All-map (λ f. f.host ≡ host.id → goes_over (network_requests network) ring f ≡ true) way_flow (network_ways network)
      (λ k d below mine.
      let f = way_flow (get_or (network_ways network) k d) in
      ap (λ (r : ℕ). (r == ring) || list_any (λ j. j == ring) ((network_requests network).rest f)) (way_first network routed place host at k d below mine)
      ∙ ap (λ (b : Bool). b || list_any (λ j. j == ring) ((network_requests network).rest f)) (same_number ring))

  -- so each word that a device has is of a flow of the ring
  word_carried : All (λ a. is_aimed network a ≡ true → is_of_some network carried a ≡ true) (script_accesses host)
  word_carried i d below aimed = by_place (device_at network word.dst) refl aimed
    where
      word : Access
      word = get_or (script_accesses host) i d

      by_place : (o : Option ℕ) → device_at network (get_or (script_accesses host) i d).dst ≡ o → option_map_or (λ d. true) o false ≡ true → is_of_some network carried (get_or (script_accesses host) i d) ≡ true
      by_place None e never = absurd (cc)
      by_place (Some k) e there = some_passing network (goes_over (network_requests network) ring) f a (network_flows network) of_f goes_by_ring (among (is_among_flows f (network_flows network)) refl)
        where
          a : Access
          a = get_or (script_accesses host) i d

          f : NetFlow
          f = record { host = host.id; device = k }

          asks : is_request a.op ≡ true
          asks = subst (All (λ x. is_request x.op ≡ true)) own_script (script_asks network routed.scripts host.id) i d below

          of_f : is_of network f a ≡ true
          of_f = and_from (a.host == host.id) (is_at network k a) (ap (λ (n : ℕ). n == host.id) (own_words i d below) ∙ same_number host.id)
              (ap (λ (b : Bool). option_map_or (λ n. n == k) (device_at network (cond b a.dst a.src)) false) asks ∙ ap (λ (o : Option ℕ). option_map_or (λ n. n == k) o false) e ∙ same_number k)

          among : (b : Bool) → is_among_flows f (network_flows network) ≡ b → is_among_flows f (network_flows network) ≡ true
          among true t = t
          among false t = absurd (All-kept (is_of network f) (λ x. ⊥) (script_accesses host)
              (subst (λ (l : List Access). All (λ x. ⊥) (filter (is_of network f) l)) own_script (subst (All (λ x. ⊥)) (sym ((laid_out network (ways_of_routed network routed)).all_flows f t)) (All-nil (λ (x : Access). ⊥)))) i d below of_f)

  -- what the host asks
  aimed : aimed_script network host.id ≡ filter (is_aimed network) (script_accesses host)
  aimed = ap (filter (is_aimed network)) own_script

  aimed_carried : All (λ a. is_of_some network carried a ≡ true) (filter (is_aimed network) (script_accesses host))
  aimed_carried i d below = All-filter (is_aimed network) (λ a. is_aimed network a ≡ true → is_of_some network carried a ≡ true) (script_accesses host) word_carried i d below (filter_passes (is_aimed network) (script_accesses host) i d below)

  -- of each flow no more than the flow may bring
  flow_within : (f : NetFlow) → length (words_of_flow network f (filter (is_aimed network) (script_accesses host))) ≤ length (asked_words network f)
  flow_within f = by_test (host.id == f.host) refl
    where
      by_test : (b : Bool) → (host.id == f.host) ≡ b → length (words_of_flow network f (filter (is_aimed network) (script_accesses host))) ≤ length (asked_words network f)
      by_test true t =
          let mine : host.id ≡ f.host = grind (arith, nat_tests) in
          subst (λ (l : List Access). length (words_of_flow network f (filter (is_aimed network) (script_accesses host))) ≤ length (words_of_flow network f l)) (sym own_script ∙ ap (words_of_script network) mine) (fewer_pass (is_of network f) (is_aimed network) (script_accesses host))
      by_test false t =
          let none : words_of_flow network f (filter (is_aimed network) (script_accesses host)) ≡ [] = filter_none (is_of network f) (filter (is_aimed network) (script_accesses host))
          (All-filter (is_aimed network) (λ a. is_of network f a ≡ false) (script_accesses host) (λ i d below. ap (λ (b : Bool). b && is_at network f.device (get_or (script_accesses host) i d)) (ap (λ (n : ℕ). n == f.host) (own_words i d below) ∙ t))) in
          rw none (omega arith)

  pub room_for_all : length (asked_accesses (asked_by network host)) ≤ ring_budget network ring
  room_for_all =
      let words = filter (is_aimed network) (script_accesses host) in
      let listed : Contains network.hosts host = (place, inside network routed place host at, get_or_from_slice_get network.hosts place host host at) in
      let asked = ap length (asked_script network host routed.scripts routed.pages listed ∙ aimed) in
      let all = ap length (filter_all (is_of_some network carried) words aimed_carried) in
      let covered = flows_cover network carried words in
      let within = sum_by_le (λ f. length (words_of_flow network f words)) (λ f. length (asked_words network f)) carried (λ i d below. flow_within (get_or carried i d)) in
      let budget = request_budget network (ways_of_routed network routed) (link network routed place host at) (first_link_there network routed place host at) in
      omega (arith, asked, all, covered, within, budget)
