-- Requests and answers together: what came back by some moment, and what a whole run is.
use Rattle.std.proofs.Common.{◌≡◌, ◌≤◌, ◌<◌, ℕ, Bool, true, false, cond, List, [], ◌∷◌, length, refl, sym, ap, ◌∙◌, arith, subst}
use Rattle.std.specs.Prelude.{◌==◌, filter_map, sum_by, All, Option, Some, None, get_or}
use Rattle.std.specs.List.{cons_option}
use Rattle.std.specs.Option.{option_map_or}
use Rattle.std.proofs.lemmas.Bool.Decides.{nat_tests}
use Rattle.std.proofs.lemmas.List.Elements.{All-nil, All-cons, All-head, All-tail, All-weaker, All-filter, filter_passes}
use Rattle.sb_packet.specs.Accesses.{Access}
use Rattle.sb_packet.specs.Memories.{MemoryState, access_step, access_answer}
use Rattle.sb_packet.specs.Networks.{Network, device_at, opening_memory}
use Rattle.sb_packet.specs.Journals.{journal_accesses, is_request}
use Rattle.sb_packet.specs.Answers.{answer_at_first, access_reply, answer_from}
use Rattle.sb_link.specs.RingPlans.{NetFlow}
use Rattle.sb_packet.specs.declared.entry.Entry.{Entry}
use Rattle.sb_packet.proofs.Lists.{filter_all}
use Rattle.sb_flow.specs.Rings.{is_answered}
use Rattle.sb_laws.specs.Flows.{AlongWay, answered_of, asked_words, budget_over, device_answers, flows_over, given_to, goes_over, is_of, is_of_ring, replies_to, words_of_flow, words_of_script}
use Rattle.sb_laws.specs.Moments.{Moment}
use Rattle.sb_laws.specs.Runs.{CarriesSources, ForwardsFlow, HasEnded, IsFlowSource, IsMomentOf, IsWholeRun, KeepsPromises}
use Rattle.sb_laws.specs.Layouts.{Layout, IsLayout}
use Rattle.sb_node.proofs.Answering.{prefix_length}
use Rattle.sb_laws.proofs.Prefixes.{IsPrefix-filter, same_prefix}
use Rattle.sb_laws.proofs.Sums.{sum_by_le, sum_by_same}
use Rattle.sb_laws.proofs.FlowMembers.{of_device}
use Rattle.sb_laws.proofs.Counts.{is_of_some, flows_cover}
use Rattle.sb_laws.proofs.Courses.{all_sound, whole_law, ring_whole_law}
use Rattle.sb_laws.proofs.ScriptFacts.{asked_asks, own_script}
use Rattle.sb_laws.proofs.Answering.{given, IsAnswerOf, answer_is, flow_answers_found, answers_are_few}
use Rattle.sb_laws.proofs.Journals.{request_course, at_device, each_flow, history, journal_differs}
use Rattle.sb_host.specs.Places.{asked_of}

-- what holds of each word holds of its answer, so of all answers
pub All-given : (P : Access → Type 0) → ((m : MemoryState) (a b : Access) → access_answer m a ≡ Some b → P a → P b) → (m : MemoryState) (list : List Access) → All P list → All P (given m list)
All-given P keeps m [] h = All-nil P
All-given P keeps m (a ∷ list) h = by_answer (access_answer m a) refl (All-given P keeps (access_step m a) list (All-tail P a list h))
  where
    by_answer : (o : Option Access) → access_answer m a ≡ o → All P (given (access_step m a) list) → All P (cons_option o (given (access_step m a) list))
    by_answer None e rest = rest
    by_answer (Some b) e rest = All-cons P b (given (access_step m a) list) (keeps m a b e (All-head P a list h)) rest

filter_map_same : {A B : Type 0} (g h : A → Option B) (xs : List A) → All (λ x. g x ≡ h x) xs → filter_map g xs ≡ filter_map h xs
filter_map_same g h [] same = refl
filter_map_same g h (x ∷ xs) same = rw (All-head (λ x. g x ≡ h x) x xs same, filter_map_same g h xs (All-tail (λ x. g x ≡ h x) x xs same)) refl

module _ (network : Network) where
  some_same : (fs : List NetFlow) (a b : Access) → IsAnswerOf network a b → is_of_some network fs a ≡ true → is_of_some network fs b ≡ true
  some_same fs a b is e = ap_any fs ∙ e
    where
      ap_any : (gs : List NetFlow) → is_of_some network gs b ≡ is_of_some network gs a
      ap_any [] = refl
      ap_any (g ∷ gs) = rw (is.flow g, ap_any gs) refl

  -- the journal's answer to a word that a flow asks for is the one at its first place at the flow's device
  pub reply_at_first : (journal : List Entry) (f : NetFlow) (a : Access) → is_request a.op ≡ true → is_of network f a ≡ true →
      access_reply network journal a ≡ answer_at_first (opening_memory network f.device) (journal_accesses journal f.device) a
  reply_at_first journal f a asks e = by_place (device_at network a.dst) (ap (λ (b : Bool). option_map_or (λ k. k == f.device) (device_at network (cond b a.dst a.src)) false) (sym asks) ∙ of_device network f a e)
    where
      by_place : (o : Option ℕ) → option_map_or (λ k. k == f.device) o false ≡ true → answer_from network journal a o ≡ answer_at_first (opening_memory network f.device) (journal_accesses journal f.device) a
      by_place None e = absurd (cc)
      by_place (Some k) e = let same : k ≡ f.device = grind (arith, nat_tests) in ap (λ (d : ℕ). answer_at_first (opening_memory network d) (journal_accesses journal d) a) same

  -- so of all words that it asks for
  pub replies_at_first : (journal : List Entry) (f : NetFlow) → All (λ a. is_request a.op ≡ true) (asked_words network f) →
      All (λ a. access_reply network journal a ≡ answer_at_first (opening_memory network f.device) (journal_accesses journal f.device) a) (asked_words network f)
  replies_at_first journal f asks k a below =
      reply_at_first journal f (get_or (asked_words network f) k a) (asks k a below) (filter_passes (is_of network f) (words_of_script network f.host) k a below)

module _ (network : Network) (layout : Layout) (journal : List Entry) (m : Moment) (laid : IsLayout network layout) (now : IsMomentOf network layout journal m) where
  -- no more of a flow is answered than its script has that is answered
  few_answers : (f : NetFlow) → length (given_to network journal f) ≤ length (answered_of network f)
  few_answers f =
      let given = answers_are_few network f (opening_memory network f.device) (journal_accesses journal f.device) in
      let asked = prefix_length (IsPrefix-filter (λ a. is_answered a.op) (history network layout journal m laid now f)) in
      omega arith

  -- a device's answers are no more than the ring out of it may carry
  answers_within : (f : NetFlow) → f.device < length network.devices → flows_over layout.answers (layout.answers.first f) ≡ flows_over layout.requests (layout.into f.device) →
      All (λ g. length (given_to network journal g) ≤ layout.answers.allowance g) layout.answers.flows →
      length (device_answers network journal f.device) ≤ budget_over layout.answers (layout.answers.first f)
  answers_within f there same allowed =
      let d = f.device in
      let ring = layout.into d in
      let fs = flows_over layout.requests ring in
      let words : All (λ a. is_of_some network fs a ≡ true) (journal_accesses journal d) = subst (All (λ a. is_of_ring network layout.requests ring a ≡ true)) (sym (now.recorded d there)) (now.carried ring (laid.into_has d there)) in
      let answers = All-given (λ a. is_of_some network fs a ≡ true) (λ k a b e h. some_same network fs a b (answer_is network k a b e) h) (opening_memory network d) (journal_accesses journal d) words in
      let kept = ap length (filter_all (is_of_some network fs) (device_answers network journal d) answers) in
      let cover = flows_cover network fs (device_answers network journal d) in
      let each = sum_by_same (λ g. length (words_of_flow network g (device_answers network journal d))) (λ g. length (given_to network journal g)) fs
      (All-weaker (λ g. g.device ≡ d) (λ g. length (words_of_flow network g (device_answers network journal d)) ≡ length (given_to network journal g))
      (λ g e. ap (λ (k : ℕ). length (words_of_flow network g (device_answers network journal k))) (sym e)) fs (laid.into_flows d there)) in
      let moved : sum_by (λ g. length (given_to network journal g)) (flows_over layout.answers (layout.answers.first f)) ≡ sum_by (λ g. length (given_to network journal g)) fs =
      ap (λ (gs : List NetFlow). sum_by (λ g. length (given_to network journal g)) gs) same in
      let few = sum_by_le (λ g. length (given_to network journal g)) layout.answers.allowance (flows_over layout.answers (layout.answers.first f))
      (All-filter (goes_over layout.answers (layout.answers.first f)) (λ g. length (given_to network journal g) ≤ layout.answers.allowance g) layout.answers.flows allowed) in
      omega arith

  allowed_back : All (λ g. length (given_to network journal g) ≤ layout.answers.allowance g) layout.answers.flows
  allowed_back = subst (All (λ g. length (given_to network journal g) ≤ layout.answers.allowance g)) (sym laid.same_flows)
      (All-weaker (λ f. length (answered_of network f) ≤ layout.answers.allowance f) (λ f. length (given_to network journal f) ≤ layout.answers.allowance f)
      (λ f h. let few = few_answers f in omega arith) layout.requests.flows laid.answered)

  -- a device offers all its answers
  pub device_offers : All (λ f. m.offered (layout.answers.first f) ≡ device_answers network journal f.device) layout.requests.flows
  device_offers i d below =
      let f = get_or layout.requests.flows i d in
      (now.devices i d below).whole (all_sound network layout.requests m now.links now.ports (layout.into f.device))
      (answers_within f (laid.devices i d below) (laid.back_flows i d below) allowed_back)

  pub answer_course : KeepsPromises network layout.answers m (given_to network journal)
  answer_course = record {
    links = now.links;
    ports = now.ports;
    one_way = laid.one_way_back;
    carried = now.carried_back;
    allowed = allowed_back;
    sources = subst (All (IsFlowSource network layout.answers m (given_to network journal))) (sym laid.same_flows)
        (All-weaker (λ f. m.offered (layout.answers.first f) ≡ device_answers network journal f.device) (IsFlowSource network layout.answers m (given_to network journal))
        (λ f e. record { in_order = same_prefix (ap (words_of_flow network f) e); closed = λ close_sent. ap (words_of_flow network f) e }) layout.requests.flows device_offers);
    routers = subst (All (λ f. AlongWay (ForwardsFlow network layout.answers m f) (layout.answers.first f) (layout.answers.rest f))) (sym laid.same_flows) now.routers_back;
  }

  -- where the journal has all that a flow asks for, what its device answers is what the journal replies
  given_are_replies : (f : NetFlow) → f.device < length network.devices → words_of_flow network f (journal_accesses journal f.device) ≡ asked_words network f → given_to network journal f ≡ replies_to network journal f
  given_are_replies f there whole =
      let memory = opening_memory network f.device in
      let words = journal_accesses journal f.device in
      flow_answers_found network f memory words (journal_differs network layout journal m laid now f.device there)
      ∙ ap (filter_map (answer_at_first memory words)) whole
      ∙ sym (filter_map_same (access_reply network journal) (answer_at_first memory words) (asked_words network f) (replies_at_first network journal f (asked_asks network laid.scripts f)))

  module _ (ended : All (HasEnded layout.requests m) layout.requests.flows) (ended_back : All (HasEnded layout.answers m) layout.requests.flows) where
    pub whole_history : (f : NetFlow) → words_of_flow network f (journal_accesses journal f.device) ≡ asked_words network f
    whole_history = each_flow network layout journal m laid now (λ f list. list ≡ asked_words network f) (λ f none. sym none)
        (at_device network layout journal m laid now (λ f list. list ≡ asked_words network f)
        (whole_law network layout.requests m (asked_words network) (request_course network layout journal m laid now) ended))

    pub ended_answers : All (HasEnded layout.answers m) layout.answers.flows
    ended_answers = subst (All (HasEnded layout.answers m)) (sym laid.same_flows) ended_back

    -- what a device answers is what the journal replies, for each flow
    pub all_replies : All (λ f. given_to network journal f ≡ replies_to network journal f) layout.answers.flows
    all_replies = subst (All (λ f. given_to network journal f ≡ replies_to network journal f)) (sym laid.same_flows)
        (All-weaker (λ f. f.device < length network.devices) (λ f. given_to network journal f ≡ replies_to network journal f) (λ f there. given_are_replies f there (whole_history f)) layout.requests.flows laid.devices)

    pub carried_replies : (r : ℕ) → CarriesSources network layout.answers m (replies_to network journal) r
    carried_replies r k f below =
        ring_whole_law network layout.answers m (given_to network journal) answer_course ended_answers r k f below
        ∙ All-filter (goes_over layout.answers r) (λ f. given_to network journal f ≡ replies_to network journal f) layout.answers.flows all_replies k f below

    pub whole_run_law : IsWholeRun network layout journal m
    whole_run_law = record {
      history = λ k h below d. (let f : NetFlow = record { host = (get_or network.hosts k h).id; device = d } in whole_history f) ∙ sym (own_script network laid.scripts k h below d);
      requests = ring_whole_law network layout.requests m (asked_words network) (request_course network layout journal m laid now) ended;
      answers = carried_replies;
      no_others = now.carried;
      no_other_answers = now.carried_back;
    }
