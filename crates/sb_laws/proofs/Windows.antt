-- In a round without a move no host misses an answer: all that was offered was taken, and all answers came back.
use Rattle.std.proofs.Common.{◌≡◌, ◌≤◌, ◌<◌, ℕ, zero, suc, Bool, true, false, cond, List, [], ◌∷◌, ◌++◌, refl, sym, ap, ◌∙◌, arith, subst}
use Rattle.std.specs.Prelude.{All, Contains, Option, Some, None, get_or}
use Rattle.std.specs.List.{find, cons_option}
use Rattle.std.proofs.lemmas.List.{append-nil}
use Rattle.std.proofs.lemmas.List.Elements.{All-nil, All-cons, All-head, All-tail, All-weaker, All-filter, All-contains, All-contains_itself, filter_passes}
use Rattle.sb_packet.specs.Accesses.{Access}
use Rattle.sb_packet.specs.Memories.{MemoryState, access_step, access_answer}
use Rattle.sb_packet.specs.Networks.{Network, opening_memory}
use Rattle.sb_packet.specs.Journals.{journal_accesses, is_request}
use Rattle.sb_link.specs.RingPlans.{NetFlow}
use Rattle.sb_link.specs.Traffic.{item_accesses}
use Rattle.sb_packet.specs.declared.entry.Entry.{Entry}
use Rattle.sb_packet.proofs.Lists.{All-kept}
use Rattle.sb_flow.specs.Rings.{is_answered}
use Rattle.sb_laws.specs.Flows.{AlongWay, Course, asked_words, budget_over, came_for_ring, given_to, is_of, way_rings, words_of_flow}
use Rattle.sb_laws.specs.Moments.{Moment, arrived}
use Rattle.sb_laws.specs.Runs.{ForwardsFlow, IsLink, IsMomentOf, IsPort}
use Rattle.sb_laws.specs.Layouts.{Layout, IsLayout, ring_home}
use Rattle.sb_host.specs.Outcomes.{is_answer_to}
use Rattle.sb_laws.specs.Standstills.{IsStandstill, IsWithin, MissesAnswer, RoundEnd, Stages}
use Rattle.sb_laws.proofs.FlowMembers.{at_flow}
use Rattle.sb_laws.proofs.Ways.{at_number, at_last}
use Rattle.sb_laws.proofs.Courses.{all_sound, room}
use Rattle.sb_laws.proofs.Answering.{given, answer_is, answered_has_one}
use Rattle.sb_laws.proofs.Journals.{request_course, history}
use Rattle.sb_laws.proofs.Prefixes.{All-prefix}
use Rattle.sb_laws.proofs.ScriptFacts.{asked_asks}
use Rattle.sb_laws.proofs.WholeRuns.{answer_course, device_offers}
use Rattle.sb_laws.proofs.FoundReplies.{looks_like}
use Rattle.sb_laws.proofs.Stillness.{quiet_sender, quiet_receiver}
use Rattle.sb_host.specs.Places.{asked_of}

-- nothing is under way over a ring
record Rests (m : Moment) (r : ℕ) : Type 0 where
  received : arrived m r ≡ m.offered r
  held : m.held r ≡ []

-- where nothing is under way, all that was offered first has come by each ring of the way
settled_along : (network : Network) (c : Course) (m : Moment) → ((r : ℕ) → IsLink m r) → ((r : ℕ) → IsPort m r) → ((r : ℕ) → came_for_ring network c m r ≤ budget_over c r) →
    (f : NetFlow) (source : List Access) (k : ℕ) (js : List ℕ) → AlongWay (ForwardsFlow network c m f) k js → All (Rests m) (k ∷ js) → words_of_flow network f (m.offered k) ≡ source →
    All (λ r. words_of_flow network f (arrived m r) ≡ source) (k ∷ js)
settled_along network c m links ports room f source k [] ways rests e =
    All-cons (λ r. words_of_flow network f (arrived m r) ≡ source) k [] (ap (words_of_flow network f) (All-head (Rests m) k [] rests).received ∙ e) (All-nil (λ r. words_of_flow network f (arrived m r) ≡ source))
settled_along network c m links ports room f source k (j ∷ js) ways rests e =
    let rest = All-head (Rests m) k (j ∷ js) rests in
    let here : words_of_flow network f (arrived m k) ≡ source = ap (words_of_flow network f) rest.received ∙ e in
    let none : words_of_flow network f (m.held k) ≡ [] = ap (words_of_flow network f) rest.held in
    All-cons (λ r. words_of_flow network f (arrived m r) ≡ source) k (j ∷ js) here
    (settled_along network c m links ports room f source j js ways.1 (All-tail (Rests m) k (j ∷ js) rests)
    (sym (append-nil (words_of_flow network f (m.offered j))) ∙ ap (λ (l : List Access). words_of_flow network f (m.offered j) ++ l) (sym none)
    ∙ sym (ways.0.whole (λ i d below. all_sound network c m links ports (get_or (c.ins j) i d)) (room j)) ∙ here))

-- a word that is answered has among the answers one of its flow that looks like it
module _ (network : Network) (f : NetFlow) (a : Access) (of_f : is_of network f a ≡ true) (asks : is_request a.op ≡ true) (answered : is_answered a.op ≡ true) where
  never_missing : (m : MemoryState) (list : List Access) → Contains list a → All (λ x. is_of network f x ≡ true → is_answer_to a x ≡ false) (given m list) → ⊥
  never_missing m [] (i, inside, is) none = absurd (omega arith)
  never_missing m (x ∷ list) (zero, inside, is) none = by_answer (access_answer m a) refl (subst (λ (y : Access). All (λ z. is_of network f z ≡ true → is_answer_to a z ≡ false) (cons_option (access_answer m y) (given (access_step m y) list))) same none)
    where
      same : x ≡ a
      same = is

      by_answer : (o : Option Access) → access_answer m a ≡ o → All (λ z. is_of network f z ≡ true → is_answer_to a z ≡ false) (cons_option o (given (access_step m a) list)) → ⊥
      by_answer None e rest = answered_has_one m a asks answered e
      by_answer (Some b) e rest =
          let is = answer_is network m a b e in
          let yes = looks_like network a b is in
          let no = All-head (λ z. is_of network f z ≡ true → is_answer_to a z ≡ false) b (given (access_step m a) list) rest (is.flow f ∙ of_f) in cc
  never_missing m (x ∷ list) (suc i, inside, is) none = never_missing (access_step m x) list (i, omega arith, is) (by_answer (access_answer m x) none)
    where
      by_answer : (o : Option Access) → All (λ z. is_of network f z ≡ true → is_answer_to a z ≡ false) (cons_option o (given (access_step m x) list)) → All (λ z. is_of network f z ≡ true → is_answer_to a z ≡ false) (given (access_step m x) list)
      by_answer None rest = rest
      by_answer (Some b) rest = All-tail (λ z. is_of network f z ≡ true → is_answer_to a z ≡ false) b (given (access_step m x) list) rest

none_found : (test : Access → Bool) (list : List Access) → find test list ≡ None → All (λ x. test x ≡ false) list
none_found test [] e = All-nil (λ (x : Access). test x ≡ false)
none_found test (x ∷ list) e = by_test (test x) refl e (none_found test list)
  where
    by_test : (b : Bool) → test x ≡ b → cond b (Some x) (find test list) ≡ None → (find test list ≡ None → All (λ x. test x ≡ false) list) → All (λ x. test x ≡ false) (x ∷ list)
    by_test true t e later = absurd (cc)
    by_test false t e later = All-cons (λ x. test x ≡ false) x list t (later e)

module _ (network : Network) (layout : Layout) (journal : List Entry) (stages : Stages) (s : RoundEnd) (laid : IsLayout network layout) (still : IsStandstill stages s) (now : IsMomentOf network layout journal s.at)
    (inside : (r : ℕ) → r < stages.rings → (stages.comes_in r ≡ false) × (stages.goes_out r ≡ false)) (within : All (IsWithin stages layout) layout.requests.flows) where
  rests : (r : ℕ) → r < stages.rings → Rests s.at r
  rests r here =
      let sender = quiet_sender stages s still r here (inside r here).0 in
      let receiver = quiet_receiver stages s still r here (inside r here).1 in
      record {
        received = ap item_accesses (receiver.received (inside r here).0) ∙ sender.sent;
        held = (still.receivers r here (inside r here).1).none_held receiver.holds;
      }

  -- what a flow's host has offered was taken, and what its device answered came back
  record AllCame (f : NetFlow) : Type 0 where
    taken : words_of_flow network f (journal_accesses journal f.device) ≡ words_of_flow network f (s.at.offered (layout.requests.first f))
    back : words_of_flow network f (arrived s.at (ring_home layout f)) ≡ given_to network journal f

  all_came : All AllCame layout.requests.flows
  all_came i d below =
      let f = get_or layout.requests.flows i d in
      let ways : IsWithin stages layout f = within i d below in
      let there = All-weaker (λ r. r < stages.rings) (Rests s.at) rests (way_rings layout.requests f) ways.there in
      let back = All-weaker (λ r. r < stages.rings) (Rests s.at) rests (way_rings layout.answers f) ways.back in
      let asked = settled_along network layout.requests s.at now.links now.ports (room network layout.requests s.at (asked_words network) (request_course network layout journal s.at laid now))
      f (words_of_flow network f (s.at.offered (layout.requests.first f))) (layout.requests.first f) (layout.requests.rest f) (now.routers i d below) there refl in
      let given = settled_along network layout.answers s.at now.links now.ports (room network layout.answers s.at (given_to network journal) (answer_course network layout journal s.at laid now))
      f (given_to network journal f) (layout.answers.first f) (layout.answers.rest f) (now.routers_back i d below) back (ap (words_of_flow network f) (device_offers network layout journal s.at laid now i d below)) in
      record {
        taken = ap (words_of_flow network f) (now.recorded f.device (laid.devices i d below))
            ∙ at_number (λ r. words_of_flow network f (arrived s.at r) ≡ words_of_flow network f (s.at.offered (layout.requests.first f))) (layout.into f.device) (way_rings layout.requests f) asked (laid.leads i d below);
        back = at_last (λ r. words_of_flow network f (arrived s.at r) ≡ given_to network journal f) (layout.answers.first f) (layout.answers.rest f) given;
      }

  -- so no host misses an answer
  pub none_misses : (r : ℕ) → MissesAnswer network layout s.at r → ⊥
  none_misses r misses = by_flow (at_flow AllCame misses.flow layout.requests.flows all_came misses.is_flow)
    where
      f : NetFlow
      f = misses.flow

      by_flow : AllCame f → ⊥
      by_flow came =
          let offered : words_of_flow network f (s.at.offered (layout.requests.first f)) ≡ words_of_flow network f (s.at.offered r) = ap (λ (k : ℕ). words_of_flow network f (s.at.offered k)) misses.leaves in
          let taken = subst (λ (list : List Access). Contains list misses.word) (sym (came.taken ∙ offered)) misses.offered in
          let words = journal_accesses journal f.device in
          let of_f = All-contains (λ a. is_of network f a ≡ true) (words_of_flow network f words) misses.word (filter_passes (is_of network f) words) taken in
          let asks = All-contains (λ a. is_request a.op ≡ true) (words_of_flow network f words) misses.word (All-prefix (λ (a : Access). is_request a.op ≡ true) (history network layout journal s.at laid now f) (asked_asks network laid.scripts f)) taken in
          let in_journal = All-contains (Contains words) (words_of_flow network f words) misses.word (All-filter (is_of network f) (Contains words) words (All-contains_itself words)) taken in
          let home = arrived s.at (ring_home layout f) in
          let missing = All-filter (is_of network f) (λ x. is_answer_to misses.word x ≡ false) home (none_found (is_answer_to misses.word) home misses.missing) in
          let not_given = subst (All (λ x. is_answer_to misses.word x ≡ false)) came.back missing in
          never_missing network f misses.word of_f asks misses.answered (opening_memory network f.device) words in_journal
          (All-kept (is_of network f) (λ x. is_answer_to misses.word x ≡ false) (given (opening_memory network f.device) words) not_given)
