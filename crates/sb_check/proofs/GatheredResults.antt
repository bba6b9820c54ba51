-- Where the entries are a lawful journal, what is gathered of them is what the journal comes to.
use Rattle.std.proofs.Common.{◌≡◌, ◌≤◌, ◌<◌, ℕ, zero, suc, ◌+◌, false, List, [], ◌∷◌, length, get_or, refl, ap, sym, ◌∙◌, arith, subst, Option, Some, None}
use Rattle.std.specs.Prelude.{All, filter, filter_map, map, slice_get}
use Rattle.std.specs.List.{enumerate_from, range_with_len}
use Rattle.std.specs.Option.{option_map_or}
use Rattle.std.proofs.lemmas.List.{append-nil, get_or-map, length-map}
use Rattle.std.proofs.lemmas.List.Elements.{All-cons, All-nil}
use Rattle.std.proofs.lemmas.Option.{slice_get-get_or, slice_get_within}
use Rattle.sb_packet.specs.Accesses.{Access, access_at}
use Rattle.sb_packet.specs.Answers.{Outcome, RunResults, access_reply, answer_at_first, answer_body, answer_code, answer_from, final_memory, host_outcomes, outcome_of, run_results, transaction_answers, unreached_by}
use Rattle.sb_packet.specs.Journals.{IsLawful, flow_part, journal_accesses}
use Rattle.sb_packet.specs.Memories.{MemoryState, access_answer, access_step, answers_in, answers_to}
use Rattle.sb_packet.specs.Networks.{NetDevice, NetHost, Network, device_at, device_size, opening_memory}
use Rattle.sb_packet.specs.Scripts.{IsTransaction, script_accesses, transaction_accesses, transaction_message}
use Rattle.sb_packet.specs.declared.entry.Entry.{Entry}
use Rattle.sb_packet.specs.declared.transaction.Kind.{Kind}
use Rattle.sb_packet.specs.declared.transaction.Kind.TheVariants.{Read, Write, Posted, Atomic}
use Rattle.sb_packet.specs.declared.transaction.Txn.{Txn}
use Rattle.sb_packet.proofs.FoundAnswers.{answers_found}
use Rattle.sb_packet.proofs.LawfulReplies.{lawful_replies_differ}
use Rattle.sb_flow.specs.Accepted.{IsAccepted}
use Rattle.sb_text.specs.Told.{FitsNetwork}
use Rattle.sb_check.specs.Gathering.{AreNoted, Gathers, device_replies, gathered_results, is_reply_to, replies_so_far}
use Rattle.sb_check.specs.AnswerNotes.{NotedAnswers, is_posted, noted_at, noted_outcome}
use Rattle.sb_check.specs.declared.gathered.Gathered.{Gathered}
use Rattle.sb_check.proofs.NextEntries.{at_place, host_few, host_lines}
use Rattle.sb_check.proofs.OpeningMemories.{opened_long}
use Rattle.sb_check.proofs.OwnWords.{is_word_of, own_so_far, word_place, words_there}
use Rattle.sb_check.proofs.ReplyLemmas.{IsReplyOf, answer_is, own_answers_are}

-- where functions agree on made accesses, they find the same
found_alike : (f g : Access → Option Access) (made : ℕ → Access) (n : ℕ) → ((j : ℕ) → j < n → f (made j) ≡ g (made j)) → (a k : ℕ) → a + k ≤ n
    → filter_map f (map made (range_with_len a k)) ≡ filter_map g (map made (range_with_len a k))
found_alike f g made n same a zero h = refl
found_alike f g made n same a (suc k) h = rw (same a (omega arith), found_alike f g made n same (a + 1) k (omega arith)) refl

-- what a function finds in a list is what stands in the list of its findings
found_by_map : (g : Access → Option Access) (xs : List Access) → filter_map (λ (o : Option Access). o) (map g xs) ≡ filter_map g xs
found_by_map g [] = refl
found_by_map g (x ∷ xs) = rw (found_by_map g xs) refl

-- where a function finds for each access what it is answered in a run, what it finds is an answer to it
found_is_reply : (g : Access → Option Access) (m : MemoryState) (list : List Access) → map g list ≡ answers_in m list → All (λ a. (b : Access) → g a ≡ Some b → IsReplyOf a b) list
found_is_reply g m [] same = All-nil (λ a. (b : Access) → g a ≡ Some b → IsReplyOf a b)
found_is_reply g m (x ∷ list) same =
    let here : g x ≡ access_answer m x = cc in
    let rest : map g list ≡ answers_in (access_step m x) list = cc in
    All-cons (λ a. (b : Access) → g a ≡ Some b → IsReplyOf a b) x list (λ b is. answer_is x.op m x b (sym here ∙ is)) (found_is_reply g (access_step m x) list rest)

abbrev none : NotedAnswers
none = record { posted = false; code = 0; body = []; room = 0 }

module _ (network : Network) (good : IsAccepted network) (journal : List Entry) (lawful : IsLawful network journal) where
  -- what was answered to a transaction so far is all that was answered to it
  lawful_replies : (k : ℕ) (host : NetHost) → slice_get network.hosts k ≡ Some host → (i : ℕ) (t : Txn) → slice_get host.script i ≡ Some t
      → replies_so_far network journal host i t ≡ transaction_answers network journal host i t
  lawful_replies k host at i t there = by_place (device_at network t.addr) refl
    where
      lines : All IsTransaction host.script
      lines = host_lines network good k host at

      line : IsTransaction t
      line = at_place IsTransaction host.script i t lines there

      word : ℕ → Access
      word = access_at (transaction_message host i t)

      few : All (λ h. length h.script ≤ 65536) network.hosts
      few n h below = host_few network good n (get_or network.hosts n h) (slice_get-get_or network.hosts n h below)

      by_place : (o : Option ℕ) → device_at network t.addr ≡ o
          → option_map_or (device_replies network journal host.id i) o (filter_map (λ a. unreached_by a.op a) (transaction_accesses host i t)) ≡ transaction_answers network journal host i t
      by_place None e = found_alike (λ a. unreached_by a.op a) (access_reply network journal) word t.count
          (λ j below. sym (ap (answer_from network journal (word j)) (word_place network good.placed t line j below ∙ e))) 0 t.count (omega arith)
      by_place (Some d) e =
          let words = journal_accesses journal d in
          let opening = opening_memory network d in
          let g : Access → Option Access = answer_at_first opening words in
          let found : map g words ≡ answers_in opening words = answers_found opening words (lawful_replies_differ network journal good.lines few lawful d) in
          let given : answers_to opening words ≡ filter_map g words = ap (filter_map (λ (o : Option Access). o)) (sym found) ∙ found_by_map g words in
          let script : flow_part network host d words ≡ flow_part network host d (script_accesses host) =
          at_place (λ h. (d : ℕ) → flow_part network h d (journal_accesses journal d) ≡ flow_part network h d (script_accesses h)) network.hosts k host lawful.in_script_order at d in
          let own : filter (is_word_of host.id i) words ≡ transaction_accesses host i t =
          sym (append-nil (filter (is_word_of host.id i) words))
          ∙ own_so_far network host good.placed lines (host_few network good k host at) d i t words [] line there e (words_there network d journal lawful.at_target) (append-nil (flow_part network host d words) ∙ script) in
          ap (filter (is_reply_to host.id i)) given
          ∙ own_answers_are host.id i g words (found_is_reply g opening words found)
          ∙ ap (filter_map g) own
          ∙ found_alike g (access_reply network journal) word t.count (λ j below. sym (ap (answer_from network journal (word j)) (word_place network good.placed t line j below ∙ e))) 0 t.count (omega arith)

  -- what is noted of a transaction is its outcome
  noted_told : (kind : Kind) (n : NotedAnswers) (answers : List Access) → n.posted ≡ is_posted kind → n.code ≡ answer_code answers → n.body ≡ answer_body answers → noted_outcome n ≡ outcome_of kind answers
  noted_told Read n answers posted code body = rw (posted, code, body) refl
  noted_told Write n answers posted code body = rw (posted, code, body) refl
  noted_told Posted n answers posted code body = rw posted refl
  noted_told (Atomic atomic) n answers posted code body = rw (posted, code, body) refl

  outcome_told : (k : ℕ) (host : NetHost) → slice_get network.hosts k ≡ Some host → (i : ℕ) (t : Txn) → slice_get host.script i ≡ Some t → (n : NotedAnswers) → AreNoted network journal host i t n
      → noted_outcome n ≡ outcome_of t.kind (transaction_answers network journal host i t)
  outcome_told k host at i t there n noted =
      let same = lawful_replies k host at i t there in
      noted_told t.kind n (transaction_answers network journal host i t) noted.posted (noted.code ∙ ap answer_code same) (noted.body ∙ ap answer_body same)

  -- row by row, and host by host
  row_told : (row : List NotedAnswers) (txns : List Txn) (n : ℕ) (f : ℕ × Txn → Outcome) → length row ≡ length txns
      → ((j : ℕ) (t : Txn) → slice_get txns j ≡ Some t → noted_outcome (get_or row j none) ≡ f (n + j, t)) → map noted_outcome row ≡ map f (enumerate_from n txns)
  row_told [] [] n f long each = refl
  row_told [] (t ∷ txns) n f long each = absurd (omega (arith, long))
  row_told (x ∷ row) [] n f long each = absurd (omega (arith, long))
  row_told (x ∷ row) (t ∷ txns) n f long each =
      let number : n + 0 ≡ n = omega arith in
      let first : noted_outcome x ≡ f (n, t) = each 0 t refl ∙ ap (λ (m : ℕ). f (m, t)) number in
      let rest = row_told row txns (n + 1) f (omega (arith, long)) (λ j y at. let next : n + suc j ≡ n + 1 + j = omega arith in each (suc j) y at ∙ ap (λ (m : ℕ). f (m, y)) next) in
      rw (first, rest) refl

  hosts_told : (notes : List (List NotedAnswers)) (hosts : List NetHost) → map length notes ≡ map (λ h. length h.script) hosts
      → ((k : ℕ) (host : NetHost) → slice_get hosts k ≡ Some host → length (get_or notes k []) ≡ length host.script → map noted_outcome (get_or notes k []) ≡ host_outcomes network journal host)
      → map (map noted_outcome) notes ≡ map (host_outcomes network journal) hosts
  hosts_told [] [] counts each = refl
  hosts_told [] (h ∷ hosts) counts each = absurd (cc)
  hosts_told (row ∷ notes) [] counts each = absurd (cc)
  hosts_told (row ∷ notes) (h ∷ hosts) counts each =
      let long : length row ≡ length h.script = cc in
      let counts_rest : map length notes ≡ map (λ h. length h.script) hosts = cc in
      rw (each 0 h refl long, hosts_told notes hosts counts_rest (λ k host at. each (suc k) host at)) refl

  -- memory by memory
  images_told : (memories : List MemoryState) (n count : ℕ) (f : ℕ → List ℕ) → length memories ≡ count → ((d : ℕ) (m : MemoryState) → d < count → (get_or memories d m).bytes ≡ f (n + d))
      → map (λ m. m.bytes) memories ≡ map f (range_with_len n count)
  images_told [] n zero f long each = refl
  images_told [] n (suc count) f long each = absurd (omega (arith, long))
  images_told (x ∷ memories) n zero f long each = absurd (omega (arith, long))
  images_told (x ∷ memories) n (suc count) f long each =
      let number : n + 0 ≡ n = omega arith in
      let first : x.bytes ≡ f n = each 0 x (omega arith) ∙ ap f number in
      let rest = images_told memories (n + 1) count f (omega (arith, long)) (λ d m below. let next : n + suc d ≡ n + 1 + d = omega arith in each (suc d) m (omega (arith, below)) ∙ ap f next) in
      rw (first, rest) refl

-- Of a lawful journal what is gathered is what it comes to.
pub gathered_told : (network : Network) (journal : List Entry) (g : Gathered) → IsAccepted network → Gathers network journal g → IsLawful network journal → gathered_results g ≡ run_results network journal
gathered_told network journal g good gathers lawful =
    let results : List (List Outcome) → List (List ℕ) → RunResults = λ outcomes images. record { outcomes = outcomes; images = images } in
    let outcomes : map (map noted_outcome) g.notes.items ≡ map (host_outcomes network journal) network.hosts =
    hosts_told network good journal lawful g.notes.items network.hosts gathers.note_counts (λ k host at long.
    row_told network good journal lawful (get_or g.notes.items k []) host.script 0 (λ p. outcome_of p.1.kind (transaction_answers network journal host p.0 p.1)) long (λ j t there.
    let same : 0 + j ≡ j = omega arith in
    outcome_told network good journal lawful k host at j t there (noted_at g.notes.items k j) (gathers.notes k j host t at there)
    ∙ ap (λ (m : ℕ). outcome_of t.kind (transaction_answers network journal host m t)) (sym same))) in
    let images : map (λ m. m.bytes) g.memories.items ≡ map (λ d. (final_memory network journal d).bytes) (range_with_len 0 (length network.devices)) =
    images_told network good journal lawful g.memories.items 0 (length network.devices) (λ d. (final_memory network journal d).bytes) gathers.memory_count (λ d m below.
    let same : 0 + d ≡ d = omega arith in
    ap (λ (x : MemoryState). x.bytes) (gathers.memories d m below).stepped ∙ ap (λ (n : ℕ). (final_memory network journal n).bytes) (sym same)) in
    ap (λ (o : List (List Outcome)). results o (map (λ m. m.bytes) g.memories.items)) outcomes ∙ ap (results (map (host_outcomes network journal) network.hosts)) images

-- What is gathered is of the network's size.
pub gathered_fit : (network : Network) (journal : List Entry) (g : Gathered) → IsAccepted network → Gathers network journal g → FitsNetwork network (gathered_results g)
gathered_fit network journal g good gathers = record {
  outcomes = outcomes_long g.notes.items ∙ gathers.note_counts;
  images = images_long g.memories.items network.devices gathers.memory_count (λ d m dev at.
      let below = slice_get_within network.devices d dev at in
      (gathers.memories d m below).size ∙ opened_long network d dev good at);
}
  where
    outcomes_long : (notes : List (List NotedAnswers)) → map length (map (map noted_outcome) notes) ≡ map length notes
    outcomes_long [] = refl
    outcomes_long (row ∷ notes) = rw (length-map row noted_outcome, outcomes_long notes) refl

    images_long : (memories : List MemoryState) (devices : List NetDevice) → length memories ≡ length devices
        → ((d : ℕ) (m : MemoryState) (dev : NetDevice) → slice_get devices d ≡ Some dev → length (get_or memories d m).bytes ≡ device_size dev)
        → map length (map (λ m. m.bytes) memories) ≡ map device_size devices
    images_long [] [] long each = refl
    images_long [] (dev ∷ devices) long each = absurd (omega (arith, long))
    images_long (m ∷ memories) [] long each = absurd (omega (arith, long))
    images_long (m ∷ memories) (dev ∷ devices) long each =
        let first : length m.bytes ≡ device_size dev = each 0 m dev refl in
        rw (first, images_long memories devices (omega (arith, long)) (λ d x y at. each (suc d) x y at)) refl

-- what is told of a transaction is the outcome of its notes
pub told_at : (notes : List (List NotedAnswers)) (host index : ℕ) (row : List NotedAnswers) (n : NotedAnswers) (none : Outcome) → row ≡ get_or notes host row
    → index < length (get_or (map (map noted_outcome) notes) host []) → get_or (get_or (map (map noted_outcome) notes) host []) index none ≡ noted_outcome (get_or row index n)
told_at [] host index row n none at inside = absurd (omega (arith, inside))
told_at (r ∷ notes) zero index row n none at inside =
    ap (λ (l : List NotedAnswers). get_or (map noted_outcome l) index none) (sym at)
    ∙ get_or-map noted_outcome row index n none (omega (arith, inside, length-map r noted_outcome, ap length at))
told_at (r ∷ notes) (suc host) index row n none at inside = told_at notes host index row n none at inside

pub told_here : (g : Gathered) (told : RunResults) (host index : ℕ) (row : List NotedAnswers) (n : NotedAnswers) (none : Outcome) → row ≡ get_or g.notes.items host row → told ≡ gathered_results g
    → index < length (get_or told.outcomes host []) → get_or (get_or told.outcomes host []) index none ≡ noted_outcome (get_or row index n)
told_here g told host index row n none at is inside =
    ap (λ (t : RunResults). get_or (get_or t.outcomes host []) index none) is
    ∙ told_at g.notes.items host index row n none at (subst (λ (t : RunResults). index < length (get_or t.outcomes host [])) is inside)

-- So what is gathered of a lawful journal tells it, in the network's size.
pub gathered_tells : (network : Network) (journal : List Entry) (g : Gathered) → IsAccepted network → Gathers network journal g → IsLawful network journal
    → (run_results network journal ≡ gathered_results g) × FitsNetwork network (run_results network journal)
gathered_tells network journal g good gathers lawful =
    let same = gathered_told network journal g good gathers lawful in
    (sym same, subst (FitsNetwork network) same (gathered_fit network journal g good gathers))
