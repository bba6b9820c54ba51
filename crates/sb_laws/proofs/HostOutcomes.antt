-- What has become of a host's transactions, by the words that came to it in a whole run, is what the journal says.
use Rattle.std.proofs.Common.{◌≡◌, ◌<◌, ℕ, Bool, ◌+◌, ◌%◌, true, false, cond, List, [], ◌∷◌, length, refl, sym, ap, ◌∙◌, arith, subst}
use Rattle.std.specs.Prelude.{◌==◌, nat_lt, filter, filter_map, map, All, Contains, Option, Some, None, is_some, get_or}
use Rattle.std.specs.List.{enumerate_from, find, list_all}
use Rattle.std.specs.Option.{option_map_or}
use Rattle.std.proofs.lemmas.Bool.Decides.{nat_tests}
use Rattle.std.proofs.lemmas.List.{length-map}
use Rattle.std.proofs.lemmas.List.Elements.{All-filter, All-head, All-nil, All-tail}
use Rattle.std.proofs.lemmas.Bool.{and_from}
use Rattle.sb_word.specs.declared.command.Op.{Op}
use Rattle.sb_word.specs.declared.command.Op.TheVariants.{ReqRd, ReqWr, ReqWrPosted, ReqAtomic, RespRd, RespWr}
use Rattle.sb_packet.specs.Accesses.{Access, access_at}
use Rattle.sb_packet.specs.Answers.{Outcome, access_reply, answer_at_first, answer_from, host_outcomes, outcome_of, transaction_answers, unreached_by}
use Rattle.sb_packet.specs.Journals.{device_address, is_at, is_request, journal_accesses}
use Rattle.sb_packet.specs.Memories.{MemoryState, access_answer, answer_by}
use Rattle.sb_packet.specs.Networks.{NetHost, Network, device_at, opening_memory}
use Rattle.sb_link.specs.RingPlans.{NetFlow}
use Rattle.sb_flow.specs.Rings.{is_answered}
use Rattle.sb_packet.specs.Scripts.{IsTransaction, request_of, script_accesses, transaction_accesses, transaction_message}
use Rattle.sb_link.specs.Traffic.{item_accesses}
use Rattle.sb_packet.specs.declared.entry.Entry.{Entry}
use Rattle.sb_packet.specs.declared.transaction.Kind.{Kind}
use Rattle.sb_packet.specs.declared.transaction.Kind.TheVariants.{Read, Write, Posted, Atomic}
use Rattle.sb_packet.specs.declared.transaction.Txn.{Txn}
use Rattle.sb_packet.proofs.Lists.{All-kept, All-made, All-pieces}
use Rattle.sb_link.proofs.Truths.{same_number}
use Rattle.sb_flow.proofs.FlowWords.{request_asks}
use Rattle.sb_host.specs.declared.transaction_plan.TransactionPlan.{TransactionPlan}
use Rattle.sb_host.specs.Asked.{Asked, asked_by, line_in}
use Rattle.sb_host.specs.Hosts.{HostSide, IsWholeHost}
use Rattle.sb_host.specs.Outcomes.{answer_so_far, first_answer, is_answer_to, line_outcome, outcome_so_far, outcomes_so_far}
use Rattle.sb_node.specs.Sides.{received_words}
use Rattle.sb_laws.specs.Flows.{asked_words, is_among_flows, is_of}
use Rattle.sb_laws.specs.NodeSides.{HasRing, IsHostOf}
use Rattle.sb_laws.specs.Layouts.{IsLayout, Layout, ring_home}
use Rattle.sb_laws.specs.Moments.{Moment, arrived}
use Rattle.sb_laws.specs.Runs.{AreAnswered, HasAllEnded, IsMomentOf}
use Rattle.sb_laws.proofs.AskedWays.{word_device}
use Rattle.sb_laws.proofs.FlowMembers.{at_flow}
use Rattle.sb_laws.proofs.FoundReplies.{own_answers}
use Rattle.sb_laws.proofs.HostAnswers.{host_answers_law}
use Rattle.sb_laws.proofs.HostSides.{at_listed, told_at_end}
use Rattle.sb_laws.proofs.Journals.{journal_differs}
use Rattle.sb_laws.proofs.ListPlaces.{All-enumerated}
use Rattle.sb_laws.proofs.ScriptFacts.{asked_asks, found_by_id}
use Rattle.sb_laws.proofs.WholeRuns.{replies_at_first, whole_history}

-- a word that asks and is answered has an answer, of its device or of none
answer_is_some : (op : Op) (memory : MemoryState) (a : Access) → is_request op ≡ true → is_answered op ≡ true → is_some (answer_by op memory a) ≡ true
answer_is_some ReqRd memory a asks t = refl
answer_is_some ReqWr memory a asks t = refl
answer_is_some ReqWrPosted memory a asks t = absurd (cc)
answer_is_some ReqAtomic memory a asks t = refl
answer_is_some RespRd memory a asks t = absurd (cc)
answer_is_some RespWr memory a asks t = absurd (cc)

unreached_is_some : (op : Op) (a : Access) → is_request op ≡ true → is_answered op ≡ true → is_some (unreached_by op a) ≡ true
unreached_is_some ReqRd a asks t = refl
unreached_is_some ReqWr a asks t = refl
unreached_is_some ReqWrPosted a asks t = absurd (cc)
unreached_is_some ReqAtomic a asks t = refl
unreached_is_some RespRd a asks t = absurd (cc)
unreached_is_some RespWr a asks t = absurd (cc)

-- where what is known of each word is what the journal replies, and it replies to each, all is known
all_known : (known reply : Access → Option Access) (list : List Access) → All (λ a. (known a ≡ reply a) × (is_some (reply a) ≡ true)) list →
    (list_all is_some (map known list) ≡ true) × (filter_map (λ a. a) (map known list) ≡ filter_map reply list)
all_known known reply [] all = (refl, refl)
all_known known reply (a ∷ list) all =
    let first = All-head (λ a. (known a ≡ reply a) × (is_some (reply a) ≡ true)) a list all in
    let later = all_known known reply list (All-tail (λ a. (known a ≡ reply a) × (is_some (reply a) ≡ true)) a list all) in
    (rw (first.0, first.1) later.0, rw (first.0, later.1) refl)

-- then the outcome is that of the journal's answers; a posted transaction has the same outcome anyhow
same_outcome : (kind : Kind) (known : List (Option Access)) (answers : List Access) →
    (is_answered (request_of kind) ≡ true → (list_all is_some known ≡ true) × (filter_map (λ a. a) known ≡ answers)) → outcome_so_far kind known ≡ outcome_of kind answers
same_outcome Read known answers all = let told = all refl in rw (told.0, told.1) refl
same_outcome Write known answers all = let told = all refl in rw (told.0, told.1) refl
same_outcome Posted known answers all = refl
same_outcome (Atomic type) known answers all = let told = all refl in rw (told.0, told.1) refl

-- line by line
same_lines : (network : Network) (of_line : ℕ → TransactionPlan → Outcome) (of_pair : ℕ × Txn → Outcome) (n : ℕ) (txns : List Txn) → All (λ p. of_line p.0 (line_in network p.1) ≡ of_pair p) (enumerate_from n txns) →
    map (λ p. of_line p.0 p.1) (enumerate_from n (map (line_in network) txns)) ≡ map of_pair (enumerate_from n txns)
same_lines network of_line of_pair n [] same = refl
same_lines network of_line of_pair n (t ∷ txns) same =
    let p : ℕ × Txn = (n, t) in
    let first : of_line n (line_in network t) ≡ of_pair p = All-head (λ p. of_line p.0 (line_in network p.1) ≡ of_pair p) p (enumerate_from (n + 1) txns) same in
    let rest = same_lines network of_line of_pair (n + 1) txns (All-tail (λ p. of_line p.0 (line_in network p.1) ≡ of_pair p) p (enumerate_from (n + 1) txns) same) in
    rw (first, rest) refl

module _ (network : Network) (layout : Layout) (journal : List Entry) (m : Moment) (laid : IsLayout network layout) (now : IsMomentOf network layout journal m) (ended : HasAllEnded layout m)
    (pages : All (λ d. d.base % 4096 ≡ 0) network.devices) (host : NetHost) (inside : Contains network.hosts host) (home : ℕ) (at_home : All (λ f. f.host ≡ host.id → ring_home layout f ≡ home) layout.requests.flows) where
  -- what the host finds for a word is what the journal replies, and that is what its device answered from some memory
  pub record IsFound (a : Access) : Type 0 where
    pub reply : first_answer (arrived m home) a ≡ access_reply network journal a
    pub memory : MemoryState
    pub given : access_reply network journal a ≡ access_answer memory a

  flow_found : (f : NetFlow) → f.host ≡ host.id → is_among_flows f layout.requests.flows ≡ true → All IsFound (asked_words network f)
  flow_found f mine among i d below =
      let word = get_or (asked_words network f) i d in
      let there = at_flow (λ g. g.device < length network.devices) f layout.requests.flows laid.devices among in
      let opening = opening_memory network f.device in
      let words = journal_accesses journal f.device in
      let own = All-filter (is_of network f) (λ a. (k : MemoryState) × (answer_at_first opening words a ≡ access_answer k a)) words (own_answers opening words (journal_differs network layout journal m laid now f.device there)) in
      let asked = subst (All (λ a. (k : MemoryState) × (answer_at_first opening words a ≡ access_answer k a))) (whole_history network layout journal m laid now ended.there ended.back f) own in
      let first = replies_at_first network journal f (asked_asks network laid.scripts f) in
      let answered = at_flow (AreAnswered network layout journal m) f layout.requests.flows (host_answers_law network layout journal m laid now ended.there ended.back) among in
      let ring = at_flow (λ g. g.host ≡ host.id → ring_home layout g ≡ home) f layout.requests.flows at_home among mine in
      record {
        reply = ap (λ (r : ℕ). find (is_answer_to word) (arrived m r)) (sym ring) ∙ answered i d below;
        memory = (asked i d below).0;
        given = first i d below ∙ (asked i d below).1;
      }

  -- the host's flow to a device, which it may not have
  abbrev flow_to : ℕ → NetFlow
  flow_to d = record { host = host.id; device = d }

  device_found : (d : ℕ) → All IsFound (asked_words network (flow_to d))
  device_found d = by_test (is_among_flows (flow_to d) layout.requests.flows) refl
    where
      by_test : (b : Bool) → is_among_flows (flow_to d) layout.requests.flows ≡ b → All IsFound (asked_words network (flow_to d))
      by_test true e = flow_found (flow_to d) refl e
      by_test false e = subst (All IsFound) (sym (laid.all_flows (flow_to d) e)) (All-nil IsFound)

  -- so of all words of its script
  script_found : (d : ℕ) → All (λ a. is_of network (flow_to d) a ≡ true → IsFound a) (script_accesses host)
  script_found d = All-kept (is_of network (flow_to d)) IsFound (script_accesses host)
      (subst (λ (o : Option NetHost). All IsFound (filter (is_of network (flow_to d)) (option_map_or script_accesses o [])))
      (at_listed (λ h. find (λ x. x.id == h.id) network.hosts ≡ Some h) network.hosts host (found_by_id network.hosts laid.scripts.ids) inside) (device_found d))

  lines_found : All (λ p. (d : ℕ) → All (λ a. is_of network (flow_to d) a ≡ true → IsFound a) (transaction_accesses host p.0 p.1)) (enumerate_from 0 host.script)
  lines_found i p below d = All-pieces (λ a. is_of network (flow_to d) a ≡ true → IsFound a) (λ p. transaction_accesses host p.0 p.1) (enumerate_from 0 host.script) (script_found d) i p below

  module _ (i : ℕ) (t : Txn) (is : IsTransaction t) (found : (d : ℕ) → All (λ a. is_of network (flow_to d) a ≡ true → IsFound a) (transaction_accesses host i t)) where
    -- all words of a transaction are of the flow to its device
    own_words : (d : ℕ) → device_at network t.addr ≡ Some d → All (λ a. is_of network (flow_to d) a ≡ true) (transaction_accesses host i t)
    own_words d e = All-made (λ a. is_of network (flow_to d) a ≡ true) (access_at (transaction_message host i t)) t.count
        (λ j below.
        let a = access_at (transaction_message host i t) j in
        let at : device_at network (device_address a) ≡ Some d = ap (λ (b : Bool). device_at network (cond b a.dst a.src)) (request_asks t.kind) ∙ word_device network pages t is j below ∙ e in
        and_from (a.host == host.id) (is_at network d a) (same_number host.id) (ap (λ (o : Option ℕ). option_map_or (λ k. k == d) o false) at ∙ same_number d))

    -- so what is known of each word is what the journal replies
    pub known_words : is_answered (request_of t.kind) ≡ true →
        All (λ a. (answer_so_far (arrived m home) (is_some (device_at network t.addr)) true a ≡ access_reply network journal a) × (is_some (access_reply network journal a) ≡ true)) (transaction_accesses host i t)
    known_words answered = by_place (device_at network t.addr) refl
      where
        by_place : (o : Option ℕ) → device_at network t.addr ≡ o →
            All (λ a. (answer_so_far (arrived m home) (is_some o) true a ≡ access_reply network journal a) × (is_some (access_reply network journal a) ≡ true)) (transaction_accesses host i t)
        by_place None e = All-made (λ a. (unreached_by a.op a ≡ access_reply network journal a) × (is_some (access_reply network journal a) ≡ true)) (access_at (transaction_message host i t)) t.count
            (λ j below.
            let a = access_at (transaction_message host i t) j in
            let same : unreached_by a.op a ≡ access_reply network journal a = ap (answer_from network journal a) (sym (word_device network pages t is j below ∙ e)) in
            (same, ap is_some (sym same) ∙ unreached_is_some (request_of t.kind) a (request_asks t.kind) answered))
        by_place (Some d) e = λ k x below.
            let a = get_or (transaction_accesses host i t) k x in
            let at = found d k x below (own_words d e k x below) in
            let op : a.op ≡ request_of t.kind = All-made (λ a. a.op ≡ request_of t.kind) (access_at (transaction_message host i t)) t.count (λ j less. refl) k x below in
            (at.reply, ap is_some at.given ∙ ap (λ (o : Op). is_some (answer_by o at.memory a)) op ∙ answer_is_some (request_of t.kind) at.memory a (request_asks t.kind) answered)

    pub line_is_told : line_outcome (asked_by network host) (arrived m home) true i (line_in network t) ≡ outcome_of t.kind (transaction_answers network journal host i t)
    line_is_told = same_outcome t.kind (map (answer_so_far (arrived m home) (is_some (device_at network t.addr)) true) (transaction_accesses host i t)) (transaction_answers network journal host i t)
        (λ answered. all_known (answer_so_far (arrived m home) (is_some (device_at network t.addr)) true) (access_reply network journal) (transaction_accesses host i t) (known_words answered))

  -- A host that has come to the end of its script knows of each transaction what the journal says.
  pub outcomes_are_told : (next : ℕ) → next ≡ length host.script → outcomes_so_far (asked_by network host) (arrived m home) next ≡ host_outcomes network journal host
  outcomes_are_told next all = same_lines network (λ i line. line_outcome (asked_by network host) (arrived m home) (nat_lt i next) i line) (λ p. outcome_of p.1.kind (transaction_answers network journal host p.0 p.1)) 0 host.script each
    where
      passed : All (λ p. nat_lt p.0 next ≡ true) (enumerate_from 0 host.script)
      passed = All-enumerated (λ p. nat_lt p.0 next ≡ true) 0 host.script (λ k d below. let less : 0 + k < next = omega (arith, below, all) in grind (arith, nat_tests))

      transactions : All (λ p. IsTransaction p.1) (enumerate_from 0 host.script)
      transactions = All-enumerated (λ p. IsTransaction p.1) 0 host.script (λ k d below. at_listed (λ h. All IsTransaction h.script) network.hosts host laid.scripts.transactions inside k d below)

      each : All (λ p. line_outcome (asked_by network host) (arrived m home) (nat_lt p.0 next) p.0 (line_in network p.1) ≡ outcome_of p.1.kind (transaction_answers network journal host p.0 p.1)) (enumerate_from 0 host.script)
      each k p below =
          let q = get_or (enumerate_from 0 host.script) k p in
          ap (λ (b : Bool). line_outcome (asked_by network host) (arrived m home) b q.0 (line_in network q.1)) (passed k p below) ∙ line_is_told q.0 q.1 (transactions k p below) (lines_found k p below)

-- So does a host that told its port to close, by the words that came to it.
pub outcomes_found : (network : Network) (layout : Layout) (journal : List Entry) (m : Moment) (host : NetHost) (h : HostSide) →
    IsLayout network layout → All (λ d. d.base % 4096 ≡ 0) network.devices → IsMomentOf network layout journal m → HasAllEnded layout m → IsHostOf network layout host h → IsWholeHost h →
    h.requests.state.close_requested ≡ true → HasRing m h.answers.plan.ring h.answers → outcomes_so_far h.transactions.asked (received_words h.answers) h.transactions.next ≡ host_outcomes network journal host
outcomes_found network layout journal m host h laid pages now ended of whole told got =
    let t = h.transactions in
    let ring = h.answers.plan.ring in
    let all : t.next ≡ length host.script = told_at_end h whole told ∙ ap (λ (a : Asked). length a.lines) of.asked ∙ length-map host.script (line_in network) in
    ap (λ (l : List Access). outcomes_so_far t.asked l t.next) (ap item_accesses (sym got.received))
    ∙ ap (λ (a : Asked). outcomes_so_far a (arrived m ring) t.next) of.asked
    ∙ outcomes_are_told network layout journal m laid now ended pages host of.listed ring of.answered t.next all
