-- What a journal has at each device by some moment, of each flow.
use Rattle.std.proofs.Common.{◌≡◌, ◌≢◌, ◌≤◌, ◌<◌, ℕ, ◌+◌, ◌/◌, ◌^◌, Bool, true, false, cond, List, [], ◌∷◌, length, refl, sym, ap, ◌∙◌, arith, subst, inl, inr}
use Rattle.std.specs.Prelude.{◌==◌, ◌⊎◌, filter, map, All, AllPairs, Contains, Option, Some, None, get_or}
use Rattle.std.specs.List.{position_from}
use Rattle.std.specs.Option.{option_map_or}
use Rattle.std.proofs.lemmas.Bool.{cases_lt}
use Rattle.std.proofs.lemmas.Bool.Decides.{nat_tests}
use Rattle.std.proofs.lemmas.List.Elements.{All-head, All-tail, All-weaker, All-filter}
use Rattle.sb_packet.specs.Accesses.{Access}
use Rattle.sb_packet.specs.Networks.{Network, device_at, has_address}
use Rattle.sb_packet.specs.Journals.{journal_accesses, device_address, is_request}
use Rattle.sb_link.specs.RingPlans.{NetFlow}
use Rattle.sb_packet.specs.declared.entry.Entry.{Entry}
use Rattle.sb_packet.proofs.Lists.{filter_none, All-kept, AllPairs-kept}
use Rattle.sb_link.specs.Prefixes.{IsPrefix}
use Rattle.sb_laws.specs.Flows.{aimed_script, asked_words, flows_over, goes_over, is_among_flows, is_of, is_of_ring, way_rings, words_of_flow, words_of_script}
use Rattle.sb_laws.specs.Moments.{Moment, arrived}
use Rattle.sb_laws.specs.Runs.{IsFlowSource, IsHistorySoFar, IsHost, IsMomentOf, KeepsPromises}
use Rattle.sb_laws.specs.Layouts.{Layout, IsLayout}
use Rattle.sb_laws.proofs.Prefixes.{same_prefix, IsPrefix-filter, All-prefix, AllPairs-prefix}
use Rattle.sb_laws.proofs.FlowMembers.{not_true, of_device, some_flow, at_flow, among_all, same_flow, same_flow_from}
use Rattle.sb_laws.proofs.Budgets.{none_of_others}
use Rattle.sb_laws.proofs.Ways.{at_number}
use Rattle.sb_laws.proofs.Courses.{prefix_law}
use Rattle.sb_laws.proofs.ScriptFacts.{script_asks, asked_rises, asked_told, own_script}
use Rattle.sb_host.specs.Places.{asked_of}

-- what passes one test passes another: so the first keeps of what the second keeps what it keeps of all
filter_within : {A : Type 0} (p q : A → Bool) (xs : List A) → All (λ x. p x ≡ true → q x ≡ true) xs → filter p (filter q xs) ≡ filter p xs
filter_within p q [] h = refl
filter_within {A} p q (x ∷ xs) h = by_tests (p x) refl (q x) refl (filter_within p q xs (All-tail (λ x. p x ≡ true → q x ≡ true) x xs h))
  where
    here : p x ≡ true → q x ≡ true
    here = All-head (λ x. p x ≡ true → q x ≡ true) x xs h

    by_tests : (b : Bool) → p x ≡ b → (c : Bool) → q x ≡ c → filter p (filter q xs) ≡ filter p xs → filter p (cond c (x ∷ filter q xs) (filter q xs)) ≡ cond b (x ∷ filter p xs) (filter p xs)
    by_tests true t true u rest = rw (t, rest) refl
    by_tests true t false u rest = absurd (let yes = here t in cc)
    by_tests false t true u rest = rw (t, rest) refl
    by_tests false t false u rest = rest

-- a place that is found is one of the list
pub place_below : {A : Type 0} (test : A → Bool) (i k : ℕ) (xs : List A) → position_from test i xs ≡ Some k → k < i + length xs
place_below test i k [] e = absurd (cc)
place_below {A} test i k (x ∷ xs) e = by_test (test x) e (place_below test (i + 1) k xs)
  where
    by_test : (b : Bool) → cond b (Some i) (position_from test (i + 1) xs) ≡ Some k → (position_from test (i + 1) xs ≡ Some k → k < i + 1 + length xs) → k < i + length (x ∷ xs)
    by_test true e later = let same : i ≡ k = cc in omega arith
    by_test false e later = let below = later e in omega arith

module _ (network : Network) where
  -- a word that asks, and is of a flow, is aimed at a device
  asked_is_aimed : (f : NetFlow) (a : Access) → is_request a.op ≡ true → is_of network f a ≡ true → option_map_or (λ d. true) (device_at network a.dst) false ≡ true
  asked_is_aimed f a asks e = by_place (device_at network a.dst) (ap (λ (b : Bool). option_map_or (λ k. k == f.device) (device_at network (cond b a.dst a.src)) false) (sym asks) ∙ of_device network f a e)
    where
      by_place : (o : Option ℕ) → option_map_or (λ k. k == f.device) o false ≡ true → option_map_or (λ (d : ℕ). true) o false ≡ true
      by_place None e = e
      by_place (Some k) e = refl

  -- a word is of no flow to a device that there isn't
  pub no_device : (f : NetFlow) (list : List Access) → length network.devices ≤ f.device → words_of_flow network f list ≡ []
  no_device f list beyond = filter_none (is_of network f) list (λ i d below. not_true (is_of network f (get_or list i d)) (λ e. by_place (device_address (get_or list i d)) (device_at network (device_address (get_or list i d))) refl (of_device network f (get_or list i d) e)))
    where
      by_place : (address : ℕ) (o : Option ℕ) → device_at network address ≡ o → option_map_or (λ k. k == f.device) o false ≡ true → ⊥
      by_place address None is e = cc
      by_place address (Some k) is e = let below = place_below (has_address address) 0 k network.devices is in let same : k ≡ f.device = grind (arith, nat_tests) in absurd (omega arith)

  -- the flow that a word at device d is of
  pub record Origin (d : ℕ) (a : Access) : Type 0 where
    pub flow : NetFlow
    pub host : Contains (map (λ h. h.id) network.hosts) flow.host
    pub device : flow.device ≡ d
    pub of_flow : is_of network flow a ≡ true

module _ (network : Network) (layout : Layout) (journal : List Entry) (m : Moment) (laid : IsLayout network layout) (now : IsMomentOf network layout journal m) where
  host_offers : (f : NetFlow) → IsHost network layout m f → IsFlowSource network layout.requests m (asked_words network) f
  host_offers f h =
      let aimed : words_of_flow network f (aimed_script network f.host) ≡ asked_words network f =
      filter_within (is_of network f) (λ a. option_map_or (λ d. true) (device_at network a.dst) false) (words_of_script network f.host)
      (All-weaker (λ a. is_request a.op ≡ true) (λ a. is_of network f a ≡ true → option_map_or (λ d. true) (device_at network a.dst) false ≡ true) (λ a asks e. asked_is_aimed network f a asks e) (words_of_script network f.host) (script_asks network laid.scripts f.host)) in
      let first = layout.requests.first f in
      record {
        in_order = subst (IsPrefix (words_of_flow network f (m.offered first))) aimed (IsPrefix-filter (is_of network f) h.in_order);
        closed = λ close_sent. ap (words_of_flow network f) (h.closed close_sent) ∙ aimed;
      }

  pub request_course : KeepsPromises network layout.requests m (asked_words network)
  request_course = record {
    links = now.links;
    ports = now.ports;
    one_way = laid.one_way;
    carried = now.carried;
    allowed = laid.asked;
    sources = All-weaker (IsHost network layout m) (IsFlowSource network layout.requests m (asked_words network)) host_offers layout.requests.flows now.hosts;
    routers = now.routers;
  }

  -- what is no flow has no words at its device
  no_words : (f : NetFlow) → is_among_flows f layout.requests.flows ≡ false → words_of_flow network f (journal_accesses journal f.device) ≡ []
  no_words f none = by_device (cases_lt f.device (length network.devices))
    where
      by_device : (f.device < length network.devices) ⊎ (length network.devices ≤ f.device) → words_of_flow network f (journal_accesses journal f.device) ≡ []
      by_device (inl inside) =
          let ring = layout.into f.device in
          ap (words_of_flow network f) (now.recorded f.device inside)
          ∙ none_of_others network layout.requests m ring f (now.carried ring (laid.into_has f.device inside))
          (not_true (is_among_flows f (flows_over layout.requests ring)) (λ e. let some = among_all (goes_over layout.requests ring) f layout.requests.flows e in cc))
      by_device (inr beyond) = no_device network f (journal_accesses journal f.device) beyond

  -- a fact of what came by the ring into its device is one of the journal
  pub at_device : (P : NetFlow → List Access → Type 0) → All (λ f. All (λ r. P f (words_of_flow network f (arrived m r))) (way_rings layout.requests f)) layout.requests.flows →
      All (λ f. P f (words_of_flow network f (journal_accesses journal f.device))) layout.requests.flows
  at_device P along i d below =
      let f = get_or layout.requests.flows i d in
      subst (λ (list : List Access). P f (words_of_flow network f list)) (sym (now.recorded f.device (laid.devices i d below)))
      (at_number (λ r. P f (words_of_flow network f (arrived m r))) (layout.into f.device) (way_rings layout.requests f) (along i d below) (laid.leads i d below))

  -- the journal's part of each flow, where the flows have it, and where there is no such flow
  pub each_flow : (P : NetFlow → List Access → Type 0) → ((f : NetFlow) → asked_words network f ≡ [] → P f []) → All (λ f. P f (words_of_flow network f (journal_accesses journal f.device))) layout.requests.flows →
      (f : NetFlow) → P f (words_of_flow network f (journal_accesses journal f.device))
  each_flow P none all f = by_test (is_among_flows f layout.requests.flows) refl
    where
      by_test : (b : Bool) → is_among_flows f layout.requests.flows ≡ b → P f (words_of_flow network f (journal_accesses journal f.device))
      by_test true t = at_flow (λ g. P g (words_of_flow network g (journal_accesses journal g.device))) f layout.requests.flows all t
      by_test false t = rw (no_words f t) (none f (laid.all_flows f t))

  pub history : (f : NetFlow) → IsPrefix (words_of_flow network f (journal_accesses journal f.device)) (asked_words network f)
  history = each_flow (λ f list. IsPrefix list (asked_words network f)) (λ f none. same_prefix (sym none))
      (at_device (λ f list. IsPrefix list (asked_words network f)) (prefix_law network layout.requests m (asked_words network) request_course))

  pub history_law : IsHistorySoFar network journal
  history_law k h below d =
      let host = get_or network.hosts k h in
      let f : NetFlow = record { host = host.id; device = d } in
      subst (IsPrefix (words_of_flow network f (journal_accesses journal d))) (sym (own_script network laid.scripts k h below d)) (history f)

  -- each word of the journal is of a flow to its device
  pub origin : (d : ℕ) → d < length network.devices → All (Origin network d) (journal_accesses journal d)
  origin d inside =
      let ring = layout.into d in
      let fs = flows_over layout.requests ring in
      let hosts = All-filter (goes_over layout.requests ring) (λ f. Contains (map (λ h. h.id) network.hosts) f.host) layout.requests.flows laid.hosts in
      let carried = subst (All (λ a. is_of_ring network layout.requests ring a ≡ true)) (sym (now.recorded d inside)) (now.carried ring (laid.into_has d inside)) in
      All-weaker (λ a. is_of_ring network layout.requests ring a ≡ true) (Origin network d) (λ a e.
      let some = some_flow network a fs e in
      record {
        flow = some.0;
        host = at_flow (λ f. Contains (map (λ h. h.id) network.hosts) f.host) some.0 fs hosts some.1;
        device = at_flow (λ g. g.device ≡ d) some.0 fs (laid.into_flows d inside) some.1;
        of_flow = some.2;
      }) (journal_accesses journal d) carried

  -- the reply address of a word of the journal tells the host that asked
  told : (d i : ℕ) (x : Access) → i < length (journal_accesses journal d) → (o : Origin network d (get_or (journal_accesses journal d) i x)) → (get_or (journal_accesses journal d) i x).src / 2 ^ 40 ≡ o.flow.host
  told d i x inside o =
      let part = subst (λ (e : ℕ). All (λ a. a.src / 2 ^ 40 ≡ o.flow.host) (words_of_flow network o.flow (journal_accesses journal e))) o.device
      (All-prefix (λ (a : Access). a.src / 2 ^ 40 ≡ o.flow.host) (history o.flow) (asked_told network laid.scripts o.flow)) in
      All-kept (is_of network o.flow) (λ a. a.src / 2 ^ 40 ≡ o.flow.host) (journal_accesses journal d) part i x inside o.of_flow

  -- no two words of a journal at a device are answered at one address
  pub journal_differs : (d : ℕ) → d < length network.devices → AllPairs (λ a b. a.src ≢ b.src) (journal_accesses journal d)
  journal_differs d there i j x below inside same =
      let words = journal_accesses journal d in
      let a = origin d there i x (omega arith) in
      let b = origin d there j x inside in
      let host : a.flow.host ≡ b.flow.host = sym (told d i x (omega arith) a) ∙ ap (λ n. n / 2 ^ 40) same ∙ told d j x inside b in
      let one : b.flow ≡ a.flow = same_flow a.flow b.flow (same_flow_from a.flow b.flow host (let devices : a.flow.device ≡ b.flow.device = a.device ∙ sym b.device in grind (arith, nat_tests))) in
      let rises = subst (λ (e : ℕ). AllPairs (λ x y. x.src < y.src) (words_of_flow network a.flow (journal_accesses journal e))) a.device (AllPairs-prefix (λ (x y : Access). x.src < y.src) (history a.flow) (asked_rises network laid.scripts a.flow)) in
      let apart = AllPairs-kept (λ x y. x.src < y.src) (is_of network a.flow) words rises i j x below inside a.of_flow (subst (λ (g : NetFlow). is_of network g (get_or words j x) ≡ true) one b.of_flow) in
      absurd (omega arith)
