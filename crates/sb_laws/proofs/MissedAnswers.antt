-- A host that waits for a slot misses an answer, as it stands in its network.
use Rattle.std.proofs.Common.{◌≡◌, ℕ, Bool, true, false, true≢false, cond, ◌%◌, List, length-append, refl, sym, ap, ◌∙◌, arith, subst, Some, None}
use Rattle.std.specs.Prelude.{◌==◌, All, Contains, Option, filter, is_some}
use Rattle.std.specs.Option.{option_map_or}
use Rattle.std.proofs.lemmas.Bool.{and_from}
use Rattle.std.proofs.lemmas.Bool.Decides.{nat_tests}
use Rattle.std.proofs.lemmas.List.{get_or_append_left}
use Rattle.std.proofs.lemmas.List.Elements.{All-contains, All-contains_itself, All-filter, All-nil, filter_passes}
use Rattle.sb_packet.specs.Accesses.{Access}
use Rattle.sb_packet.specs.Networks.{NetHost, Network, device_at}
use Rattle.sb_packet.specs.Journals.{device_address, is_at, is_request}
use Rattle.sb_packet.proofs.Lists.{All-kept}
use Rattle.sb_link.specs.RingPlans.{NetFlow}
use Rattle.sb_link.specs.Prefixes.{IsPrefix}
use Rattle.sb_link.specs.Traffic.{item_accesses}
use Rattle.sb_port.specs.Ports.{offered_words}
use Rattle.sb_node.specs.Sides.{received_words}
use Rattle.sb_host.specs.Asked.{asked_accesses}
use Rattle.sb_host.specs.Hosts.{HostSide, IsWholeHost, host_wait}
use Rattle.sb_host.specs.Outcomes.{first_answer}
use Rattle.sb_host.specs.Windows.{IsAnswerMissed}
use Rattle.sb_laws.specs.Flows.{aimed_script, is_among_flows, is_of, words_of_script}
use Rattle.sb_laws.specs.Layouts.{IsLayout, Layout, ring_home}
use Rattle.sb_laws.specs.Moments.{Moment, arrived}
use Rattle.sb_laws.specs.NodeSides.{HasPort, HasRing, IsHostOf}
use Rattle.sb_laws.specs.Standstills.{MissesAnswer}
use Rattle.sb_laws.proofs.FlowMembers.{at_flow}
use Rattle.sb_laws.proofs.HostSides.{HostsOffer, asked_script}
use Rattle.sb_laws.proofs.ScriptFacts.{script_asks}

-- what the laws of hosts say: a host that waits misses an answer
abbrev pub WaitingHostsMiss : Type 0
WaitingHostsMiss = (h : HostSide) → IsWholeHost h → is_some (host_wait h) ≡ true → IsAnswerMissed h.transactions.asked.id (offered_words h.requests) (received_words h.answers)

-- what a longer list has
in_longer : (xs ys : List Access) (a : Access) → IsPrefix xs ys → Contains xs a → Contains ys a
in_longer xs ys a begins (k, inside, is) =
    subst (λ (l : List Access). Contains l a) begins.joined
    (k, (let long = length-append xs begins.rest in omega (arith, inside, long)), get_or_append_left xs begins.rest a k inside ∙ is)

-- what is kept of a list that has it
in_kept : (p : Access → Bool) (xs : List Access) (a : Access) → Contains xs a → p a ≡ true → Contains (filter p xs) a
in_kept p xs a inside passes =
    All-contains (λ x. p x ≡ true → Contains (filter p xs) x) xs a (All-kept p (Contains (filter p xs)) xs (All-contains_itself (filter p xs))) inside passes

-- a word that is aimed at a device is at one
device_of : (o : Option ℕ) → option_map_or (λ d. true) o false ≡ true → (d : ℕ) × (o ≡ Some d)
device_of None none = absurd (true≢false (sym none))
device_of (Some d) some = (d, refl)

same_number : (n : ℕ) → (n == n) ≡ true
same_number n = grind (arith, nat_tests)

module _ (offer : HostsOffer) (miss : WaitingHostsMiss) (network : Network) (layout : Layout) (m : Moment) (host : NetHost) (h : HostSide) (laid : IsLayout network layout)
    (pages : All (λ d. d.base % 4096 ≡ 0) network.devices) (of : IsHostOf network layout host h) (whole : IsWholeHost h) (port : HasPort m h.requests.plan.ring h.requests)
    (ring : HasRing m h.answers.plan.ring h.answers) where
  pub waiting_misses_there : is_some (host_wait h) ≡ true → MissesAnswer network layout m h.requests.plan.ring
  waiting_misses_there waits = record {
    flow = f;
    word = word;
    is_flow = there;
    leaves = at_flow (λ g. g.host ≡ host.id → layout.requests.first g ≡ h.requests.plan.ring) f layout.requests.flows of.asks there refl;
    offered = in_kept (is_of network f) (m.offered h.requests.plan.ring) word (subst (λ (l : List Access). Contains l word) (sym port.offered) missed.was_offered) of_f;
    answered = missed.answered;
    missing =
        ap (λ (r : ℕ). first_answer (arrived m r) word) (at_flow (λ g. g.host ≡ host.id → ring_home layout g ≡ h.answers.plan.ring) f layout.requests.flows of.answered there refl)
        ∙ ap (λ items. first_answer (item_accesses items) word) ring.received ∙ missed.missed;
  }
    where
      missed : IsAnswerMissed h.transactions.asked.id (offered_words h.requests) (received_words h.answers)
      missed = miss h whole waits

      word : Access
      word = missed.word

      -- it is a word of the script that a device has
      aimed : Contains (aimed_script network host.id) word
      aimed =
          let script : asked_accesses h.transactions.asked ≡ aimed_script network host.id = ap asked_accesses of.asked ∙ asked_script network host laid.scripts pages of.listed in
          subst (λ (l : List Access). Contains l word) script (in_longer (offered_words h.requests) (asked_accesses h.transactions.asked) word (offer h whole) missed.was_offered)

      is_there : Access → Bool
      is_there a = option_map_or (λ d. true) (device_at network a.dst) false

      at_device : (d : ℕ) × (device_at network word.dst ≡ Some d)
      at_device = device_of (device_at network word.dst) (All-contains (λ a. is_there a ≡ true) (aimed_script network host.id) word (filter_passes is_there (words_of_script network host.id)) aimed)

      asks : is_request word.op ≡ true
      asks = All-contains (λ a. is_request a.op ≡ true) (aimed_script network host.id) word
          (All-filter is_there (λ a. is_request a.op ≡ true) (words_of_script network host.id) (script_asks network laid.scripts host.id)) aimed

      in_script : Contains (words_of_script network host.id) word
      in_script = All-contains (Contains (words_of_script network host.id)) (aimed_script network host.id) word
          (All-filter is_there (Contains (words_of_script network host.id)) (words_of_script network host.id) (All-contains_itself (words_of_script network host.id))) aimed

      -- so it is of the host's flow to that device, which is one of the network's
      f : NetFlow
      f = record { host = host.id; device = at_device.0 }

      of_f : is_of network f word ≡ true
      of_f =
          let own : (word.host == host.id) ≡ true = ap (λ (n : ℕ). n == host.id) (missed.own ∙ ap (λ a. a.id) of.asked) ∙ same_number host.id in
          let address : device_address word ≡ word.dst = ap (λ (b : Bool). cond b word.dst word.src) asks in
          let here : is_at network at_device.0 word ≡ true =
          ap (λ (n : ℕ). option_map_or (λ k. k == at_device.0) (device_at network n) false) address
          ∙ ap (λ (o : Option ℕ). option_map_or (λ k. k == at_device.0) o false) at_device.1 ∙ same_number at_device.0 in
          and_from (word.host == host.id) (is_at network at_device.0 word) own here

      there : is_among_flows f layout.requests.flows ≡ true
      there = by_flow (is_among_flows f layout.requests.flows) refl
        where
          by_flow : (b : Bool) → is_among_flows f layout.requests.flows ≡ b → is_among_flows f layout.requests.flows ≡ true
          by_flow true e = e
          by_flow false e =
              let none = laid.all_flows f e in
              absurd (All-contains (λ x. is_of network f x ≡ true → ⊥) (words_of_script network host.id) word
              (All-kept (is_of network f) (λ x. ⊥) (words_of_script network host.id) (subst (All (λ (x : Access). ⊥)) (sym none) (All-nil (λ (x : Access). ⊥)))) in_script of_f)
