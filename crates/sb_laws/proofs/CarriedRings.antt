-- What the rings of a network carry, and how much they may, by its ways.
use Rattle.std.proofs.Common.{◌≡◌, ◌≢◌, ◌<◌, ℕ, ◌+◌, ◌*◌, ◌/◌, ◌%◌, Bool, true, false, cond, List, [], ◌∷◌, length, refl, sym, ap, ◌∙◌, arith, subst}
use Rattle.std.specs.Prelude.{◌==◌, nat_lt, map, filter, filter_map, sum_by, All, Contains, IsTrue, get_or}
use Rattle.std.specs.List.{list_any}
use Rattle.std.proofs.lemmas.Bool.Decides.{nat_tests}
use Rattle.std.proofs.lemmas.List.{get_or-map, length-map}
use Rattle.std.proofs.lemmas.List.Elements.{All-head, All-tail, All-weaker, All-filter, All-contains}
use Rattle.std.proofs.lemmas.List.Sums.{sum_by-cons}
use Rattle.sb_packet.specs.Accesses.{Access}
use Rattle.sb_packet.specs.Networks.{Network}
use Rattle.sb_packet.specs.Scripts.{script_accesses}
use Rattle.sb_packet.specs.Journals.{flow_part}
use Rattle.sb_packet.specs.Answers.{access_reply, flow_answers}
use Rattle.sb_link.specs.RingPlans.{NetFlow}
use Rattle.sb_flow.specs.Ways.{NetWay, network_ways}
use Rattle.sb_flow.specs.Rings.{is_upward, has_link, link_ways, ring_ways, way_accesses, counted_accesses, ring_budget, is_answered, carried_accesses, is_on_way, IsCarried}
use Rattle.sb_packet.specs.declared.entry.Entry.{Entry}
use Rattle.sb_flow.proofs.LinkMarks.{list_any-map}
use Rattle.sb_laws.specs.Flows.{answered_of, asked_words, budget_over, flows_over, goes_over, is_of, replies_to, words_of_flow}
use Rattle.sb_laws.specs.Moments.{Moment, arrived}
use Rattle.sb_laws.specs.NetworkLayouts.{HasWays, answer_ring, network_answers, network_layout, network_requests, request_ring, ring_count, way_flow}
use Rattle.sb_laws.specs.Runs.{IsWholeRun}
use Rattle.sb_laws.proofs.ScriptFacts.{own_script}
use Rattle.sb_laws.proofs.LinksOfWays.{is_in}
use Rattle.sb_laws.proofs.NetworkLaidOut.{FlowWay, way_flows, goes_there, goes_back, has_request, has_answer}

pub All-unmap : {X Y : Type 0} (P : Y → Type 0) (f : X → Y) (xs : List X) → All P (map f xs) → All (λ x. P (f x)) xs
All-unmap P f xs h k d below = subst P (get_or-map f xs k d (f d) below) (h k (f d) (omega (arith, length-map xs f)))

filter-map : {X Y : Type 0} (p : Y → Bool) (q : X → Bool) (f : X → Y) (xs : List X) → All (λ x. p (f x) ≡ q x) xs → filter p (map f xs) ≡ map f (filter q xs)
filter-map p q f [] same = refl
filter-map {X} {Y} p q f (x ∷ xs) same = rw (All-head (λ x. p (f x) ≡ q x) x xs same) (by_test (q x) (filter-map p q f xs (All-tail (λ x. p (f x) ≡ q x) x xs same)))
  where
    by_test : (b : Bool) → filter p (map f xs) ≡ map f (filter q xs) → cond b (f x ∷ filter p (map f xs)) (filter p (map f xs)) ≡ map f (cond b (x ∷ filter q xs) (filter q xs))
    by_test true rest = ap (λ (l : List Y). f x ∷ l) rest
    by_test false rest = rest

sum_by-map : {X Y : Type 0} (g : Y → ℕ) (h : X → ℕ) (f : X → Y) (xs : List X) → All (λ x. g (f x) ≡ h x) xs → sum_by g (map f xs) ≡ sum_by h xs
sum_by-map g h f [] same = refl
sum_by-map g h f (x ∷ xs) same =
    let rest = sum_by-map g h f xs (All-tail (λ x. g (f x) ≡ h x) x xs same) in
    let here : g (f x) ≡ h x = All-head (λ x. g (f x) ≡ h x) x xs same in
    omega (arith, sum_by-cons g (f x) (map f xs), sum_by-cons h x xs)

module _ (network : Network) (ways : HasWays network) where
  -- what the host of a way asks of its device is what the flow asks for
  own_asked : All (λ way. way_accesses network way ≡ asked_words network (way_flow way)) (network_ways network)
  own_asked = All-weaker (λ way. Contains network.hosts way.host) (λ way. way_accesses network way ≡ asked_words network (way_flow way))
      (λ way inside. All-contains (λ host. (d : ℕ) → (let f : NetFlow = record { host = host.id; device = d } in flow_part network host d (script_accesses host) ≡ asked_words network f)) network.hosts way.host (own_script network ways.scripts) inside way.device)
      (network_ways network) ways.hosts

  -- the flows over the rings of a link are those of the ways that have it
  pub flows_there : (k : ℕ) → flows_over (network_requests network) (request_ring k) ≡ map way_flow (link_ways network k)
  flows_there k = filter-map (goes_over (network_requests network) (request_ring k)) (has_link k) way_flow (network_ways network)
      (λ i w below. let way = get_or (network_ways network) i w in let flow : FlowWay network (way_flow way) = way_flows network ways i w below in
      goes_there network (way_flow way) flow k ∙ ap (is_in k) (sym flow.links ∙ ways.found i w below))

  pub flows_back : (k : ℕ) → flows_over (network_answers network) (answer_ring k) ≡ map way_flow (link_ways network k)
  flows_back k = filter-map (goes_over (network_answers network) (answer_ring k)) (has_link k) way_flow (network_ways network)
      (λ i w below. let way = get_or (network_ways network) i w in let flow : FlowWay network (way_flow way) = way_flows network ways i w below in
      goes_back network (way_flow way) flow k ∙ ap (is_in k) (sym flow.links ∙ ways.found i w below))

  pub request_ways : (k : ℕ) → k < length network.links → ring_ways network (request_ring k) ≡ link_ways network k
  request_ways k here =
      let half : 2 * k / 2 ≡ k = omega arith in
      let there : nat_lt k (length network.links) ≡ true = grind (arith, nat_tests) in
      rw (half, there) refl

  pub answer_ways : (k : ℕ) → k < length network.links → ring_ways network (answer_ring k) ≡ link_ways network k
  answer_ways k here =
      let half : (2 * k + 1) / 2 ≡ k = omega arith in
      let there : nat_lt k (length network.links) ≡ true = grind (arith, nat_tests) in
      rw (half, there) refl

  pub not_up : (k : ℕ) → is_upward (request_ring k) ≡ false
  not_up k = let even : 2 * k % 2 ≡ 0 = omega arith in rw even refl

  pub up : (k : ℕ) → is_upward (answer_ring k) ≡ true
  up k = let odd : (2 * k + 1) % 2 ≡ 1 = omega arith in rw odd refl

  link_asked : (k : ℕ) → All (λ way. way_accesses network way ≡ asked_words network (way_flow way)) (link_ways network k)
  link_asked k = All-filter (has_link k) (λ way. way_accesses network way ≡ asked_words network (way_flow way)) (network_ways network) own_asked

  pub request_budget : (k : ℕ) → request_ring k < ring_count network → budget_over (network_requests network) (request_ring k) ≡ ring_budget network (request_ring k)
  request_budget k here =
      ap (sum_by (network_requests network).allowance) (flows_there k)
      ∙ sum_by-map (network_requests network).allowance (λ way. length (counted_accesses network (request_ring k) way)) way_flow (link_ways network k)
      (All-weaker (λ way. way_accesses network way ≡ asked_words network (way_flow way)) (λ way. length (asked_words network (way_flow way)) ≡ length (counted_accesses network (request_ring k) way))
      (λ way e. ap length (sym e) ∙ ap (λ (b : Bool). length (cond b (filter (λ a. is_answered a.op) (way_accesses network way)) (way_accesses network way))) (sym (not_up k))) (link_ways network k) (link_asked k))
      ∙ ap (sum_by (λ way. length (counted_accesses network (request_ring k) way))) (sym (request_ways k (omega arith)))

  pub answer_budget : (k : ℕ) → answer_ring k < ring_count network → budget_over (network_answers network) (answer_ring k) ≡ ring_budget network (answer_ring k)
  answer_budget k here =
      ap (sum_by (network_answers network).allowance) (flows_back k)
      ∙ sum_by-map (network_answers network).allowance (λ way. length (counted_accesses network (answer_ring k) way)) way_flow (link_ways network k)
      (All-weaker (λ way. way_accesses network way ≡ asked_words network (way_flow way)) (λ way. length (answered_of network (way_flow way)) ≡ length (counted_accesses network (answer_ring k) way))
      (λ way e. ap (λ (l : List Access). length (filter (λ a. is_answered a.op) l)) (sym e) ∙ ap (λ (b : Bool). length (cond b (filter (λ a. is_answered a.op) (way_accesses network way)) (way_accesses network way))) (sym (up k))) (link_ways network k) (link_asked k))
      ∙ ap (sum_by (λ way. length (counted_accesses network (answer_ring k) way))) (sym (answer_ways k (omega arith)))

  module _ (journal : List Entry) (m : Moment) (whole : IsWholeRun network (network_layout network) journal m) where
    -- all that came by a ring of some flows is of the ways of these
    on_ways : (fs : List NetFlow) (ws : List NetWay) (list : List Access) → fs ≡ map way_flow ws → All (λ a. list_any (λ f. is_of network f a) fs ≡ true) list → All (λ a. IsTrue (list_any (is_on_way network a) ws)) list
    on_ways fs ws list same all = All-weaker (λ a. list_any (λ f. is_of network f a) fs ≡ true) (λ a. IsTrue (list_any (is_on_way network a) ws))
        (λ a e. sym (list_any-map (λ f. is_of network f a) way_flow ws) ∙ ap (list_any (λ f. is_of network f a)) (sym same) ∙ e) list all

    -- a ring carried its flows, if by the ways of its link it did
    carried_by : (ring k : ℕ) → ring_ways network ring ≡ link_ways network k → All (λ way. flow_part network way.host way.device (arrived m ring) ≡ carried_accesses network journal ring way) (link_ways network k) →
        All (λ a. IsTrue (list_any (is_on_way network a) (link_ways network k))) (arrived m ring) → IsCarried network journal ring (arrived m ring)
    carried_by ring k same parts others = record {
      parts = subst (All (λ way. flow_part network way.host way.device (arrived m ring) ≡ carried_accesses network journal ring way)) (sym same) parts;
      no_others = subst (λ (ws : List NetWay). All (λ a. IsTrue (list_any (is_on_way network a) ws)) (arrived m ring)) (sym same) others;
    }

    carried_request : (k : ℕ) → request_ring k < ring_count network → IsCarried network journal (request_ring k) (arrived m (request_ring k))
    carried_request k here = carried_by (request_ring k) k (request_ways k (omega arith)) parts
        (on_ways (flows_over (network_requests network) (request_ring k)) (link_ways network k) list (flows_there k) (whole.no_others (request_ring k) (has_request network k (omega arith))))
      where
        list : List Access
        list = arrived m (request_ring k)

        parts : All (λ way. flow_part network way.host way.device list ≡ carried_accesses network journal (request_ring k) way) (link_ways network k)
        parts i w below =
            let way = get_or (link_ways network k) i w in
            let came = All-unmap (λ f. words_of_flow network f list ≡ asked_words network f) way_flow (link_ways network k) (subst (All (λ f. words_of_flow network f list ≡ asked_words network f)) (flows_there k) (whole.requests (request_ring k))) i w below in
            came ∙ sym (link_asked k i w below) ∙ ap (λ (b : Bool). cond b (flow_answers network journal way.host way.device) (way_accesses network way)) (sym (not_up k))

    carried_answer : (k : ℕ) → answer_ring k < ring_count network → IsCarried network journal (answer_ring k) (arrived m (answer_ring k))
    carried_answer k here = carried_by (answer_ring k) k (answer_ways k (omega arith)) parts
        (on_ways (flows_over (network_answers network) (answer_ring k)) (link_ways network k) list (flows_back k) (whole.no_other_answers (answer_ring k) (has_answer network k (omega arith))))
      where
        list : List Access
        list = arrived m (answer_ring k)

        parts : All (λ way. flow_part network way.host way.device list ≡ carried_accesses network journal (answer_ring k) way) (link_ways network k)
        parts i w below =
            let way = get_or (link_ways network k) i w in
            let came = All-unmap (λ f. words_of_flow network f list ≡ replies_to network journal f) way_flow (link_ways network k) (subst (All (λ f. words_of_flow network f list ≡ replies_to network journal f)) (flows_back k) (whole.answers (answer_ring k))) i w below in
            came ∙ ap (filter_map (access_reply network journal)) (sym (link_asked k i w below)) ∙ ap (λ (b : Bool). cond b (flow_answers network journal way.host way.device) (way_accesses network way)) (sym (up k))

    pub carried : (ring : ℕ) → ring < ring_count network → IsCarried network journal ring (arrived m ring)
    carried ring here = by_direction (ring % 2 == 1) refl
      where
        by_direction : (b : Bool) → (ring % 2 == 1) ≡ b → IsCarried network journal ring (arrived m ring)
        by_direction false even =
            let not_odd : ring % 2 ≢ 1 = grind (arith, nat_tests) in
            let is : request_ring (ring / 2) ≡ ring = omega arith in
            subst (λ (r : ℕ). IsCarried network journal r (arrived m r)) is (carried_request (ring / 2) (omega arith))
        by_direction true odd =
            let one : ring % 2 ≡ 1 = grind (arith, nat_tests) in
            let is : answer_ring (ring / 2) ≡ ring = omega arith in
            subst (λ (r : ℕ). IsCarried network journal r (arrived m r)) is (carried_answer (ring / 2) (omega arith))
