-- Composition along ways: what holds of each step of a way holds of all of it.
use Rattle.std.proofs.Common.{◌≡◌, ◌≤◌, ℕ, true, false, List, [], ◌∷◌, ◌++◌, length, refl, sym, ap, ◌∙◌, arith}
use Rattle.std.specs.Prelude.{All, get_or}
use Rattle.std.proofs.lemmas.List.{append-nil}
use Rattle.std.proofs.lemmas.List.Elements.{All-nil, All-cons, All-head, All-tail, All-weaker}
use Rattle.std.proofs.lemmas.List.Concat.{flat_map-append}
use Rattle.sb_packet.specs.Accesses.{Access, accesses_of_item}
use Rattle.sb_packet.specs.Networks.{Network}
use Rattle.sb_packet.specs.Cuts.{IsSound}
use Rattle.sb_link.specs.RingPlans.{NetFlow}
use Rattle.sb_link.specs.Traffic.{has_close, item_accesses, item_messages}
use Rattle.sb_packet.specs.declared.item.Item.{Item}
use Rattle.sb_packet.specs.declared.item.Item.TheVariants as items
use Rattle.sb_link.specs.Prefixes.{IsPrefix, IsSubsequence, begins_further}
use Rattle.sb_device.proofs.Requests.{messages_joined}
use Rattle.sb_laws.specs.Flows.{AlongWay, Course, budget_over, came_for_ring, is_of, way_rings, words_of_flow}
use Rattle.sb_device.specs.Served.{AreSound}
use Rattle.sb_laws.specs.Moments.{Moment, arrived, ClosesLast}
use Rattle.sb_laws.specs.Runs.{BeginsSources, CarriesSources, ForwardsFlow, HasEnded, IsFlowSource, IsLink, IsPort, KeepsOrder, KeepsPromises, PicksSources}
use Rattle.sb_node.proofs.Answering.{prefix_length}
use Rattle.sb_node.proofs.Subsequences.{subsequence_then}
use Rattle.sb_laws.proofs.Prefixes.{front_prefix, IsPrefix-filter, All-prefix, length-subsequence, prefix_subsequence}
use Rattle.sb_laws.proofs.Budgets.{IsModest, came_within}
use Rattle.sb_laws.proofs.Ways.{at_number, All-at_ring}

pub IsPrefix-item_accesses : {xs ys : List Item} → IsPrefix xs ys → IsPrefix (item_accesses xs) (item_accesses ys)
IsPrefix-item_accesses {xs} {ys} p = record { rest = item_accesses p.rest; joined = sym (flat_map-append accesses_of_item xs p.rest) ∙ ap item_accesses p.joined }

IsPrefix-item_messages : {xs ys : List Item} → IsPrefix xs ys → IsPrefix (item_messages xs) (item_messages ys)
IsPrefix-item_messages {xs} {ys} p = record { rest = item_messages p.rest; joined = sym (messages_joined xs p.rest) ∙ ap item_messages p.joined }

-- what has had the Close has had all
after_close : (xs rest : List Item) → has_close xs ≡ true → ClosesLast (xs ++ rest) → rest ≡ []
after_close xs [] h last = refl
after_close xs (item ∷ rest) h last = absurd (let open_still : has_close xs ≡ false = last xs rest item refl in cc)

pub closed_link : (m : Moment) (r : ℕ) → IsLink m r → has_close (m.received r) ≡ true → m.received r ≡ m.sent r
closed_link m r link h =
    let front = link.in_order in
    let none : front.rest ≡ [] = after_close (m.received r) front.rest h (rw front.joined link.closes_last) in
    sym (append-nil (m.received r)) ∙ ap (λ (l : List Item). m.received r ++ l) (sym none) ∙ front.joined

module _ (network : Network) (c : Course) (m : Moment) (links : (r : ℕ) → IsLink m r) (ports : (r : ℕ) → IsPort m r) where
  -- what came of a flow by a ring begins what the port in front of it was offered of the flow
  pub ring_prefix : (f : NetFlow) (r : ℕ) → IsPrefix (words_of_flow network f (arrived m r)) (words_of_flow network f (m.offered r))
  ring_prefix f r = IsPrefix-filter (is_of network f)
      (begins_further (IsPrefix-item_accesses (links r).in_order) (ports r).in_order)

  -- no more of a flow comes by any ring than its first port was offered
  pub counts_along : (f : NetFlow) (most k : ℕ) (js : List ℕ) → AlongWay (ForwardsFlow network c m f) k js → length (words_of_flow network f (m.offered k)) ≤ most →
      All (λ r. length (words_of_flow network f (arrived m r)) ≤ most) (k ∷ js)
  counts_along f most k [] ways h =
      let few = prefix_length (ring_prefix f k) in
      All-cons (λ r. length (words_of_flow network f (arrived m r)) ≤ most) k [] (omega arith) (All-nil (λ r. length (words_of_flow network f (arrived m r)) ≤ most))
  counts_along f most k (j ∷ js) ways h =
      let few = prefix_length (ring_prefix f k) in
      let next = length-subsequence ways.0.in_order in
      All-cons (λ r. length (words_of_flow network f (arrived m r)) ≤ most) k (j ∷ js) (omega arith) (counts_along f most j js ways.1 (omega arith))

  -- all that came is sound
  pub all_sound : (r : ℕ) → AreSound (m.received r)
  all_sound r = All-prefix IsSound (IsPrefix-item_messages (links r).in_order) (ports r).sound

  -- whatever is dropped, what comes is what there was, with some left out
  pub subsequences_along : (f : NetFlow) (source : List Access) (k : ℕ) (js : List ℕ) → AlongWay (ForwardsFlow network c m f) k js → IsSubsequence (words_of_flow network f (m.offered k)) source →
      All (λ r. IsSubsequence (words_of_flow network f (arrived m r)) source) (k ∷ js)
  subsequences_along f source k [] ways h =
      All-cons (λ r. IsSubsequence (words_of_flow network f (arrived m r)) source) k [] (subsequence_then (prefix_subsequence (ring_prefix f k)) h) (All-nil (λ r. IsSubsequence (words_of_flow network f (arrived m r)) source))
  subsequences_along f source k (j ∷ js) ways h =
      let here = subsequence_then (prefix_subsequence (ring_prefix f k)) h in
      All-cons (λ r. IsSubsequence (words_of_flow network f (arrived m r)) source) k (j ∷ js) here (subsequences_along f source j js ways.1 (subsequence_then ways.0.in_order here))

  -- where nothing is dropped, what comes begins what there was
  pub prefixes_along : (f : NetFlow) (source : List Access) → ((r : ℕ) → came_for_ring network c m r ≤ budget_over c r) → (k : ℕ) (js : List ℕ) → AlongWay (ForwardsFlow network c m f) k js →
      IsPrefix (words_of_flow network f (m.offered k)) source → All (λ r. IsPrefix (words_of_flow network f (arrived m r)) source) (k ∷ js)
  prefixes_along f source room k [] ways h =
      All-cons (λ r. IsPrefix (words_of_flow network f (arrived m r)) source) k [] (begins_further (ring_prefix f k) h) (All-nil (λ r. IsPrefix (words_of_flow network f (arrived m r)) source))
  prefixes_along f source room k (j ∷ js) ways h =
      let here = begins_further (ring_prefix f k) h in
      let next = front_prefix (words_of_flow network f (m.held k)) (ways.0.whole (λ i d below. all_sound (get_or (c.ins j) i d)) (room j)) in
      All-cons (λ r. IsPrefix (words_of_flow network f (arrived m r)) source) k (j ∷ js) here (prefixes_along f source room j js ways.1 (begins_further next here))

  -- a Close that came was sent
  pub closed_sender : (r : ℕ) → has_close (m.received r) ≡ true → has_close (m.sent r) ≡ true
  closed_sender r h = ap has_close (sym (closed_link m r (links r) h)) ∙ h

  -- where a Close came, all came that was offered
  closed_ring : (f : NetFlow) (source : List Access) (r : ℕ) → has_close (m.received r) ≡ true → words_of_flow network f (m.offered r) ≡ source → words_of_flow network f (arrived m r) ≡ source
  closed_ring f source r h e = ap (λ (list : List Item). words_of_flow network f (item_accesses list)) (closed_link m r (links r) h) ∙ ap (words_of_flow network f) ((ports r).closed (closed_sender r h)) ∙ e

  -- where all rings of a way have given their Close, each brought all that there was
  pub whole_along : (f : NetFlow) (source : List Access) → ((r : ℕ) → came_for_ring network c m r ≤ budget_over c r) → (k : ℕ) (js : List ℕ) → AlongWay (ForwardsFlow network c m f) k js →
      All (λ r. has_close (m.received r) ≡ true) (k ∷ js) → words_of_flow network f (m.offered k) ≡ source → All (λ r. words_of_flow network f (arrived m r) ≡ source) (k ∷ js)
  whole_along f source room k [] ways ended e =
      All-cons (λ r. words_of_flow network f (arrived m r) ≡ source) k [] (closed_ring f source k (All-head (λ r. has_close (m.received r) ≡ true) k [] ended) e) (All-nil (λ r. words_of_flow network f (arrived m r) ≡ source))
  whole_along f source room k (j ∷ js) ways ended e =
      let here = closed_ring f source k (All-head (λ r. has_close (m.received r) ≡ true) k (j ∷ js) ended) e in
      let later = All-tail (λ r. has_close (m.received r) ≡ true) k (j ∷ js) ended in
      let close_sent : has_close (m.received j) ≡ true = All-head (λ r. has_close (m.received r) ≡ true) j js later in
      let none : words_of_flow network f (m.held k) ≡ [] = ways.0.closed (closed_sender j close_sent) in
      All-cons (λ r. words_of_flow network f (arrived m r) ≡ source) k (j ∷ js) here (whole_along f source room j js ways.1 later
      (sym (append-nil (words_of_flow network f (m.offered j))) ∙ ap (λ (l : List Access). words_of_flow network f (m.offered j) ++ l) (sym none)
      ∙ sym (ways.0.whole (λ i d below. all_sound (get_or (c.ins j) i d)) (room j)) ∙ here))

  -- each flow's words by each ring that it goes over are no more than it may bring
  pub modest : (source : NetFlow → List Access) → All (λ f. length (source f) ≤ c.allowance f) c.flows →
      All (λ f. IsSubsequence (words_of_flow network f (m.offered (c.first f))) (source f)) c.flows → All (λ f. AlongWay (ForwardsFlow network c m f) (c.first f) (c.rest f)) c.flows → All (IsModest network c m) c.flows
  modest source allowed starts ways i d below = of_flow (get_or c.flows i d) (allowed i d below) (starts i d below) (ways i d below)
    where
      of_flow : (f : NetFlow) → length (source f) ≤ c.allowance f → IsSubsequence (words_of_flow network f (m.offered (c.first f))) (source f) → AlongWay (ForwardsFlow network c m f) (c.first f) (c.rest f) → IsModest network c m f
      of_flow f most start on k over =
          let few = length-subsequence start in
          at_number (λ r. length (words_of_flow network f (arrived m r)) ≤ c.allowance f) k (way_rings c f) (counts_along f (c.allowance f) (c.first f) (c.rest f) on (omega arith)) over

module _ (network : Network) (c : Course) (m : Moment) (source : NetFlow → List Access) where
  pub subsequence_law : KeepsOrder network c m source → (r : ℕ) → PicksSources network c m source r
  subsequence_law keeps = All-at_ring c (λ f r. IsSubsequence (words_of_flow network f (arrived m r)) (source f))
      (λ i d below. subsequences_along network c m keeps.links keeps.ports (get_or c.flows i d) (source (get_or c.flows i d)) (c.first (get_or c.flows i d)) (c.rest (get_or c.flows i d))
      (keeps.routers i d below) (keeps.sources i d below))

  module _ (keeps : KeepsPromises network c m source) where
    starts : All (λ f. IsPrefix (words_of_flow network f (m.offered (c.first f))) (source f)) c.flows
    starts = All-weaker (IsFlowSource network c m source) (λ f. IsPrefix (words_of_flow network f (m.offered (c.first f))) (source f))
        (λ f h. h.in_order) c.flows keeps.sources

    -- nothing is dropped for want of budget
    pub room : (r : ℕ) → came_for_ring network c m r ≤ budget_over c r
    room r = came_within network c m r (keeps.one_way r) keeps.carried (modest network c m keeps.links keeps.ports source keeps.allowed
        (All-weaker (λ f. IsPrefix (words_of_flow network f (m.offered (c.first f))) (source f)) (λ f. IsSubsequence (words_of_flow network f (m.offered (c.first f))) (source f)) (λ f h. prefix_subsequence h) c.flows starts) keeps.routers)

    pub prefix_law : All (λ f. All (λ r. IsPrefix (words_of_flow network f (arrived m r)) (source f)) (way_rings c f)) c.flows
    prefix_law i d below =
        let f = get_or c.flows i d in
        prefixes_along network c m keeps.links keeps.ports f (source f) room (c.first f) (c.rest f) (keeps.routers i d below) (starts i d below)

    pub ring_prefix_law : (r : ℕ) → BeginsSources network c m source r
    ring_prefix_law = All-at_ring c (λ f r. IsPrefix (words_of_flow network f (arrived m r)) (source f)) prefix_law

    pub whole_law : All (HasEnded c m) c.flows → All (λ f. All (λ r. words_of_flow network f (arrived m r) ≡ source f) (way_rings c f)) c.flows
    whole_law ended i d below =
        let f = get_or c.flows i d in
        let over : All (λ r. has_close (m.received r) ≡ true) (way_rings c f) = ended i d below in
        let close_sent = closed_sender network c m keeps.links keeps.ports (c.first f) (All-head (λ r. has_close (m.received r) ≡ true) (c.first f) (c.rest f) over) in
        whole_along network c m keeps.links keeps.ports f (source f) room (c.first f) (c.rest f) (keeps.routers i d below) over ((keeps.sources i d below).closed close_sent)

    pub ring_whole_law : All (HasEnded c m) c.flows → (r : ℕ) → CarriesSources network c m source r
    ring_whole_law ended = All-at_ring c (λ f r. words_of_flow network f (arrived m r) ≡ source f) (whole_law ended)
