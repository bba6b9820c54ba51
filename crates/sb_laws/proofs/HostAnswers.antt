-- After a whole run each host has, for each word that it asked for, the answer that the journal gives.
use Rattle.std.proofs.Common.{◌≡◌, ◌≢◌, ◌<◌, ℕ, ◌/◌, ◌^◌, true, List, length, sym, ap, ◌∙◌, arith, subst}
use Rattle.std.specs.Prelude.{filter_map, All, AllPairs, Contains, get_or}
use Rattle.std.specs.List.{find}
use Rattle.std.proofs.lemmas.List.Elements.{All-weaker, All-filter, All-contains_itself, filter_passes}
use Rattle.sb_packet.specs.Accesses.{Access}
use Rattle.sb_packet.specs.Memories.{access_answer}
use Rattle.sb_packet.specs.Networks.{Network, opening_memory}
use Rattle.sb_packet.specs.Journals.{journal_accesses}
use Rattle.sb_packet.specs.Answers.{answer_at_first, access_reply}
use Rattle.sb_link.specs.RingPlans.{NetFlow}
use Rattle.sb_packet.specs.declared.entry.Entry.{Entry}
use Rattle.sb_packet.proofs.Lists.{All-kept}
use Rattle.sb_laws.specs.Flows.{asked_words, flows_over, given_to, goes_over, is_of, replies_to, words_of_flow, words_of_script}
use Rattle.sb_laws.specs.Moments.{Moment, arrived}
use Rattle.sb_laws.specs.Runs.{AreAnswered, HasEnded, IsMomentOf}
use Rattle.sb_laws.specs.Layouts.{Layout, IsLayout, ring_home}
use Rattle.sb_host.specs.Outcomes.{is_answer_to}
use Rattle.sb_laws.proofs.FlowMembers.{some_flow, at_flow}
use Rattle.sb_laws.proofs.Ways.{at_last}
use Rattle.sb_laws.proofs.Courses.{whole_law}
use Rattle.sb_laws.proofs.ScriptFacts.{script_rises, asked_asks, asked_rises, asked_told}
use Rattle.sb_laws.proofs.Answering.{IsAnswerOf, answer_is}
use Rattle.sb_laws.proofs.Journals.{journal_differs}
use Rattle.sb_laws.proofs.WholeRuns.{answer_course, replies_at_first, whole_history, ended_answers, all_replies, carried_replies}
use Rattle.sb_laws.proofs.FoundReplies.{own_answers, goes_there, IsRepliedTo, found_replies, All-replies, found_within, one_by_address}

module _ (network : Network) (layout : Layout) (journal : List Entry) (m : Moment) (laid : IsLayout network layout) (now : IsMomentOf network layout journal m)
    (ended : All (HasEnded layout.requests m) layout.requests.flows) (ended_back : All (HasEnded layout.answers m) layout.requests.flows) where
  -- what a journal replies to a word of a flow is an answer to it
  flow_replied : (f : NetFlow) → f.device < length network.devices → All (IsRepliedTo network (access_reply network journal)) (asked_words network f)
  flow_replied f there =
      let memory = opening_memory network f.device in
      let words = journal_accesses journal f.device in
      let own = All-filter (is_of network f) (λ a. (k : _) × (answer_at_first memory words a ≡ access_answer k a)) words (own_answers memory words (journal_differs network layout journal m laid now f.device there)) in
      let asked = subst (All (λ a. (k : _) × (answer_at_first memory words a ≡ access_answer k a))) (whole_history network layout journal m laid now ended ended_back f) own in
      let first = replies_at_first network journal f (asked_asks network laid.scripts f) in
      λ i d below b e. answer_is network (asked i d below).0 (get_or (asked_words network f) i d) b (sym (asked i d below).1 ∙ sym (first i d below) ∙ e)

  -- the word of a script that a word which came back answers
  record Answered (x : Access) : Type 0 where
    flow : NetFlow
    asked : Access
    in_script : Contains (words_of_script network flow.host) asked
    told : asked.src / 2 ^ 40 ≡ flow.host
    answer : IsAnswerOf network asked x

  answered_of_flow : (g : NetFlow) → g.device < length network.devices → All Answered (filter_map (access_reply network journal) (asked_words network g))
  answered_of_flow g there = All-replies Answered (access_reply network journal) (asked_words network g)
      (λ i d below b e. record {
        flow = g;
        asked = get_or (asked_words network g) i d;
        in_script = All-filter (is_of network g) (Contains (words_of_script network g.host)) (words_of_script network g.host) (All-contains_itself (words_of_script network g.host)) i d below;
        told = asked_told network laid.scripts g i d below;
        answer = flow_replied g there i d below b e;
      })

  -- each word that came by a ring of answers answers a word of a script
  came_answers : (r : ℕ) → layout.answers.has r ≡ true → All Answered (arrived m r)
  came_answers r has i d below =
      let fs = flows_over layout.answers r in
      let some = some_flow network (get_or (arrived m r) i d) fs (now.carried_back r has i d below) in
      let g = some.0 in
      let devices = subst (All (λ f. f.device < length network.devices)) (sym laid.same_flows) laid.devices in
      let there = at_flow (λ f. f.device < length network.devices) g fs (All-filter (goes_over layout.answers r) (λ f. f.device < length network.devices) layout.answers.flows devices) some.1 in
      let part = at_flow (λ f. words_of_flow network f (arrived m r) ≡ replies_to network journal f) g fs (carried_replies network layout journal m laid now ended ended_back r) some.1 in
      All-kept (is_of network g) Answered (arrived m r) (subst (All Answered) (sym part) (answered_of_flow g there)) i d below some.2

  -- what came to a host of a flow is what the journal replies
  came_home : All (λ f. words_of_flow network f (arrived m (ring_home layout f)) ≡ replies_to network journal f) layout.requests.flows
  came_home = subst (All (λ f. words_of_flow network f (arrived m (ring_home layout f)) ≡ replies_to network journal f)) laid.same_flows
      (λ i d below. let f = get_or layout.answers.flows i d in
      at_last (λ r. words_of_flow network f (arrived m r) ≡ given_to network journal f) (layout.answers.first f) (layout.answers.rest f)
      (whole_law network layout.answers m (given_to network journal) (answer_course network layout journal m laid now) (ended_answers network layout journal m laid now ended ended_back) i d below)
      ∙ all_replies network layout journal m laid now ended ended_back i d below)

  -- a word that looks like the answer to a word of a flow is of that flow
  of_its_flow : (f : NetFlow) (a x : Access) → Contains (words_of_script network f.host) a → a.src / 2 ^ 40 ≡ f.host → is_of network f a ≡ true → Answered x → is_answer_to a x ≡ true → is_of network f x ≡ true
  of_its_flow f a x inside told of_f answered looks =
      let y = answered.asked in
      let same : y.src ≡ a.src = sym answered.answer.address ∙ goes_there a x looks in
      let host : answered.flow.host ≡ f.host = sym answered.told ∙ ap (λ (n : ℕ). n / 2 ^ 40) same ∙ told in
      let in_script = subst (λ (id : ℕ). Contains (words_of_script network id) y) host answered.in_script in
      let one : y ≡ a = one_by_address (words_of_script network f.host) (script_rises network laid.scripts f.host) y a in_script inside same in
      answered.answer.flow f ∙ ap (is_of network f) one ∙ of_f

  pub host_answers_law : All (AreAnswered network layout journal m) layout.requests.flows
  host_answers_law k g below j a inside =
      let f = get_or layout.requests.flows k g in
      let asked = get_or (asked_words network f) j a in
      let home = ring_home layout f in
      let in_script = All-filter (is_of network f) (Contains (words_of_script network f.host)) (words_of_script network f.host) (All-contains_itself (words_of_script network f.host)) j a inside in
      let of_f = filter_passes (is_of network f) (words_of_script network f.host) j a inside in
      let told = asked_told network laid.scripts f j a inside in
      let within = found_within (is_answer_to asked) (is_of network f) (arrived m home)
      (All-weaker Answered (λ x. is_answer_to asked x ≡ true → is_of network f x ≡ true) (λ x answered looks. of_its_flow f asked x in_script told of_f answered looks) (arrived m home) (came_answers home (laid.back_has k g below))) in
      let differ : AllPairs (λ a b. a.src ≢ b.src) (asked_words network f) = λ i h d below within same. let rises = asked_rises network laid.scripts f i h d below within in absurd (omega arith) in
      within ∙ ap (find (is_answer_to asked)) (came_home k g below) ∙ found_replies network (access_reply network journal) (asked_words network f) differ (flow_replied f (laid.devices k g below)) j a inside
