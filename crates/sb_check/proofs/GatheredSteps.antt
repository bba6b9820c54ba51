-- What one entry more does to the answers of each transaction: it adds to those of its own, and leaves the others as they are.
use Rattle.std.proofs.Common.{◌≡◌, ◌≢◌, ◌≤◌, ◌<◌, ℕ, zero, suc, ◌*◌, ◌^◌, Bool, true, false, List, [], ◌∷◌, ◌++◌, length, get_or, refl, ap, sym, ◌∙◌, arith, subst, Option, Some, None, inl, inr}
use Rattle.std.specs.Prelude.{◌==◌, ◌&&◌, ◌⊎◌, All, filter, filter_map, map, set, slice_get, sum_by}
use Rattle.std.specs.Option.{option_map_or}
use Rattle.std.proofs.lemmas.Bool.{and_parts, cases_eq}
use Rattle.std.proofs.lemmas.Bool.Decides.{nat_tests}
use Rattle.std.proofs.lemmas.List.{append-nil, get_or-set_other, get_or-set_same, length-set}
use Rattle.std.proofs.lemmas.List.Elements.{All-weaker, filter-append}
use Rattle.std.proofs.lemmas.List.Sums.{sum_by-append}
use Rattle.sb_packet.specs.Accesses.{Access, access_at, accesses_of}
use Rattle.sb_packet.specs.Answers.{answer_body, unreached_by}
use Rattle.sb_packet.specs.Journals.{flow_part, journal_accesses}
use Rattle.sb_packet.specs.Memories.{MemoryState, answers_to, memory_after}
use Rattle.sb_packet.specs.Networks.{NetHost, Network, device_at, opening_memory}
use Rattle.sb_packet.specs.Scripts.{IsTransaction, script_accesses, transaction_accesses, transaction_message}
use Rattle.sb_packet.specs.declared.entry.Entry.{Entry}
use Rattle.sb_packet.specs.declared.transaction.Txn.{Txn}
use Rattle.sb_flow.specs.Accepted.{IsAccepted}
use Rattle.sb_check.specs.Beginnings.{IsLawfulSoFar}
use Rattle.sb_link.specs.Prefixes.{IsPrefix}
use Rattle.sb_check.specs.Gathering.{device_replies, is_reply_to, replies_so_far, transaction_number}
use Rattle.sb_check.specs.AnswerNotes.{NotedAnswers, noted_at, notes_with, with_reply}
use Rattle.sb_check.proofs.NextEntries.{NextEntry, at_place, host_few, host_lines}
use Rattle.sb_check.proofs.OwnWords.{is_word_of, journal_more, journal_same, own_so_far, words_there}
use Rattle.sb_check.proofs.ReplyLemmas.{all_own, answers_to-append, none_own, own_answers_short, unreached_short, words_long}

-- what was answered, by the place of the transaction's device
abbrev replies_by : Network → List Entry → NetHost → ℕ → Txn → Option ℕ → List Access
replies_by network journal host i t o = option_map_or (device_replies network journal host.id i) o (filter_map (λ a. unreached_by a.op a) (transaction_accesses host i t))

-- the answers to a transaction bring no more bytes than it speaks of
pub replies_short : (network : Network) (journal : List Entry) → IsAccepted network → IsLawfulSoFar network journal → (k : ℕ) (host : NetHost) → slice_get network.hosts k ≡ Some host
    → (i : ℕ) (t : Txn) → slice_get host.script i ≡ Some t → length (answer_body (replies_so_far network journal host i t)) ≤ t.count * 2 ^ t.size
replies_short network journal good so k host at i t there = by_place (device_at network t.addr) refl
  where
    lines : All IsTransaction host.script
    lines = host_lines network good k host at

    whole : sum_by (λ a. 2 ^ a.size) (transaction_accesses host i t) ≡ t.count * 2 ^ t.size
    whole = words_long (access_at (transaction_message host i t)) t.size (λ j. refl) 0 t.count

    by_place : (o : Option ℕ) → device_at network t.addr ≡ o → length (answer_body (replies_by network journal host i t o)) ≤ t.count * 2 ^ t.size
    by_place None e = omega (arith, unreached_short (transaction_accesses host i t), whole)
    by_place (Some d) e =
        let words = journal_accesses journal d in
        let test = is_word_of host.id i in
        let begins : IsPrefix (flow_part network host d words) (flow_part network host d (script_accesses host)) =
        at_place (λ h. (d : ℕ) → IsPrefix (flow_part network h d (journal_accesses journal d)) (flow_part network h d (script_accesses h))) network.hosts k host so.in_script_order at d in
        let own = own_so_far network host good.placed lines (host_few network good k host at) d i t words begins.rest (at_place IsTransaction host.script i t lines there) there e
        (words_there network d journal so.at_target) begins.joined in
        omega (arith, own_answers_short host.id i (opening_memory network d) words, whole, sum_by-append (λ (a : Access). 2 ^ a.size) (filter test words) (filter test begins.rest), ap (sum_by (λ (a : Access). 2 ^ a.size)) own)

-- words of one transaction are of no other
not_others : (id i id_b i_b : ℕ) → (id_b ≢ id) ⊎ (i_b ≢ i) → (list : List Access) → All (λ a. is_word_of id i a ≡ true) list → All (λ a. is_word_of id_b i_b a ≡ false) list
not_others id i id_b i_b other list own = All-weaker (λ a. is_word_of id i a ≡ true) (λ a. is_word_of id_b i_b a ≡ false) (λ a is. one a is other) list own
  where
    left : (x y : Bool) → x ≡ false → (x && y) ≡ false
    left false y e = refl
    left true y e = absurd (cc)

    right : (x y : Bool) → y ≡ false → (x && y) ≡ false
    right true y e = e
    right false y e = refl

    one : (a : Access) → is_word_of id i a ≡ true → (id_b ≢ id) ⊎ (i_b ≢ i) → is_word_of id_b i_b a ≡ false
    one a is (inl apart) =
        let host = (and_parts (a.host == id) (transaction_number a.src == i) is).0 in
        let no : (a.host == id_b) ≡ false = grind (arith, nat_tests) in
        left (a.host == id_b) (transaction_number a.src == i_b) no
    one a is (inr apart) =
        let number = (and_parts (a.host == id) (transaction_number a.src == i) is).1 in
        let n = transaction_number a.src in
        let no : (n == i_b) ≡ false = tells n number in
        right (a.host == id_b) (n == i_b) no
      where
        tells : (n : ℕ) → (n == i) ≡ true → (n == i_b) ≡ false
        tells n same = grind (arith, nat_tests)

module _ (network : Network) (journal : List Entry) (e : Entry) (next : NextEntry network e) where
  -- the memory of the entry's device before it
  abbrev pub memory_before : MemoryState
  memory_before = memory_after (opening_memory network e.device) (journal_accesses journal e.device)

  -- what the device answers to it
  abbrev pub new_answers : List Access
  new_answers = answers_to memory_before (accesses_of e.packet)

  -- the answers of its device
  replies_there : (id i : ℕ) → device_replies network (journal ++ e ∷ []) id i e.device ≡ device_replies network journal id i e.device ++ filter (is_reply_to id i) new_answers
  replies_there id i =
      ap (λ (words : List Access). filter (is_reply_to id i) (answers_to (opening_memory network e.device) words)) (journal_more journal e e.device refl)
      ∙ ap (filter (is_reply_to id i)) (answers_to-append (opening_memory network e.device) (journal_accesses journal e.device) (accesses_of e.packet))
      ∙ filter-append (is_reply_to id i) (answers_to (opening_memory network e.device) (journal_accesses journal e.device)) new_answers

  replies_elsewhere : (id i d : ℕ) → e.device ≢ d → device_replies network (journal ++ e ∷ []) id i d ≡ device_replies network journal id i d
  replies_elsewhere id i d other = ap (λ (words : List Access). filter (is_reply_to id i) (answers_to (opening_memory network d) words)) (journal_same journal e d other)

  -- The answers to the entry come to its transaction ..
  pub replies_more : replies_so_far network (journal ++ e ∷ []) next.found.host next.number next.txn ≡ replies_so_far network journal next.found.host next.number next.txn ++ new_answers
  replies_more =
      let host = next.found.host in
      let kept = all_own host.id next.number memory_before (accesses_of e.packet) next.own in
      ap (replies_by network (journal ++ e ∷ []) host next.number next.txn) next.device
      ∙ replies_there host.id next.number
      ∙ ap (λ (l : List Access). device_replies network journal host.id next.number e.device ++ l) kept
      ∙ ap (λ (l : List Access). l ++ new_answers) (ap (replies_by network journal host next.number next.txn) (sym next.device))

  -- .. and to no other.
  pub replies_same : (host : NetHost) (i : ℕ) (t : Txn) → (host.id ≢ next.found.host.id) ⊎ (i ≢ next.number) → replies_so_far network (journal ++ e ∷ []) host i t ≡ replies_so_far network journal host i t
  replies_same host i t other = by_place (device_at network t.addr)
    where
      none : filter (is_reply_to host.id i) new_answers ≡ []
      none = none_own host.id i memory_before (accesses_of e.packet) (not_others next.found.host.id next.number host.id i other (accesses_of e.packet) next.own)

      by_device : (d : ℕ) → (e.device ≡ d) ⊎ (e.device ≢ d) → device_replies network (journal ++ e ∷ []) host.id i d ≡ device_replies network journal host.id i d
      by_device d (inl same) = subst (λ (d : ℕ). device_replies network (journal ++ e ∷ []) host.id i d ≡ device_replies network journal host.id i d) same
          (replies_there host.id i ∙ ap (λ (l : List Access). device_replies network journal host.id i e.device ++ l) none ∙ append-nil (device_replies network journal host.id i e.device))
      by_device d (inr apart) = replies_elsewhere host.id i d apart

      by_place : (o : Option ℕ) → replies_by network (journal ++ e ∷ []) host i t o ≡ replies_by network journal host i t o
      by_place None = refl
      by_place (Some d) = by_device d (cases_eq e.device d)

-- a table of notes has a row for each host, as long as its script
pub record IsRow (notes : List (List NotedAnswers)) (k : ℕ) (host : NetHost) : Type 0 where
  pub inside : k < length notes
  pub long : length (get_or notes k []) ≡ length host.script

pub row_there : (notes : List (List NotedAnswers)) (hosts : List NetHost) (k : ℕ) (host : NetHost) → map length notes ≡ map (λ h. length h.script) hosts → slice_get hosts k ≡ Some host → IsRow notes k host
row_there notes [] k host counts at = absurd (cc)
row_there [] (h ∷ hosts) k host counts at = absurd (cc)
row_there (row ∷ notes) (h ∷ hosts) zero host counts at =
    let same : h ≡ host = cc in
    let long : length row ≡ length h.script = cc in
    record { inside = omega arith; long = long ∙ ap (λ (x : NetHost). length x.script) same }
row_there (row ∷ notes) (h ∷ hosts) (suc k) host counts at =
    let rest : map length notes ≡ map (λ h. length h.script) hosts = cc in
    let later = row_there notes hosts k host rest at in
    record { inside = omega (arith, later.inside); long = later.long }

-- one answer more leaves the rows as long as they are
pub rows_as_long : (notes : List (List NotedAnswers)) (k i code : ℕ) (bytes : List ℕ) → map length (notes_with notes k i code bytes) ≡ map length notes
rows_as_long [] k i code bytes = refl
rows_as_long (row ∷ notes) zero i code bytes = ap (λ (n : ℕ). n ∷ map length notes) (length-set row i (with_reply (noted_at (row ∷ notes) 0 i) code bytes))
rows_as_long (row ∷ notes) (suc k) i code bytes = ap (λ (l : List ℕ). length row ∷ l) (rows_as_long notes k i code bytes)

-- it comes to its transaction
pub noted_here : (notes : List (List NotedAnswers)) (k i code : ℕ) (bytes : List ℕ) → k < length notes → i < length (get_or notes k []) → noted_at (notes_with notes k i code bytes) k i ≡ with_reply (noted_at notes k i) code bytes
noted_here notes k i code bytes host there =
    let none : NotedAnswers = record { posted = false; code = 0; body = []; room = 0 } in
    let new = with_reply (noted_at notes k i) code bytes in
    ap (λ (row : List NotedAnswers). get_or row i none) (get_or-set_same notes k (set (get_or notes k []) i new) [] host) ∙ get_or-set_same (get_or notes k []) i new none there

-- and to no other
pub noted_elsewhere : (notes : List (List NotedAnswers)) (k i code : ℕ) (bytes : List ℕ) (k_b i_b : ℕ) → k < length notes → (k_b ≢ k) ⊎ ((k_b ≡ k) × (i_b ≢ i))
    → noted_at (notes_with notes k i code bytes) k_b i_b ≡ noted_at notes k_b i_b
noted_elsewhere notes k i code bytes k_b i_b host (inl other) =
    let none : NotedAnswers = record { posted = false; code = 0; body = []; room = 0 } in
    ap (λ (row : List NotedAnswers). get_or row i_b none) (get_or-set_other notes k k_b (set (get_or notes k []) i (with_reply (noted_at notes k i) code bytes)) [] other)
noted_elsewhere notes k i code bytes k_b i_b host (inr (same, other)) =
    let none : NotedAnswers = record { posted = false; code = 0; body = []; room = 0 } in
    let new = with_reply (noted_at notes k i) code bytes in
    subst (λ (m : ℕ). noted_at (notes_with notes k i code bytes) m i_b ≡ noted_at notes m i_b) (sym same)
    (ap (λ (row : List NotedAnswers). get_or row i_b none) (get_or-set_same notes k (set (get_or notes k []) i new) [] host) ∙ get_or-set_other (get_or notes k []) i i_b new none other)
