-- What a solo journal comes to is what its script comes to, transaction by transaction.
use Rattle.std.proofs.Common.{◌≡◌, ◌≤◌, ◌<◌, ℕ, zero, suc, ◌+◌, List, [], ◌∷◌, ◌++◌, ap, sym, ◌∙◌, refl, arith, subst, Bool, true, false, cond, length}
use Rattle.std.specs.Prelude.{Option, Some, None, map, filter_map, All, AllPairs, if◌then◌else◌}
use Rattle.std.specs.List.{range_with_len, enumerate_from}
use Rattle.std.proofs.lemmas.List.{map-append, length-map}
use Rattle.std.proofs.lemmas.List.Kept.{AllPairs-filter}
use Rattle.std.proofs.lemmas.List.Elements.{All-head, All-tail}
use Rattle.sb_packet.specs.Accesses.{Access, access_at}
use Rattle.sb_packet.specs.Memories.{MemoryState, memory_after, answers_in}
use Rattle.sb_packet.specs.Networks.{opening_memory, has_address}
use Rattle.sb_packet.specs.Scripts.{IsTransaction, transaction_message, transaction_accesses, script_accesses}
use Rattle.sb_packet.specs.Journals.{journal_accesses}
use Rattle.sb_packet.specs.Answers.{Outcome, RunResults, access_reply, answer_at_first, answer_from, final_memory, host_outcomes, outcome_of, run_results, transaction_answers, unreached_by}
use Rattle.sb_solo.specs.Solo.{solo_network, solo_host, solo_device, IsSoloJournal}
use Rattle.sb_solo.specs.SoloRuns.{solo_opening, solo_outcomes_from, solo_memory_from, solo_results}
use Rattle.sb_packet.specs.declared.entry.Entry.{Entry}
use Rattle.sb_packet.specs.declared.transaction.Txn.{Txn}
use Rattle.sb_packet.proofs.FoundAnswers.{answers_found, apart_from_rising, answers_in-append, memory_after-append, length-answers_in}
use Rattle.sb_packet.proofs.Lists.{split_alike}
use Rattle.sb_packet.proofs.ReplyAddresses.{reply_addresses_rise}
use Rattle.sb_solo.proofs.SoloWords.{aimed_words, is_in_flow, words_of_journal, flow_of_script, word_place}

-- what a function finds in a list is what stands in the list of its findings
filter_map_by_map : (g : Access → Option Access) (xs : List Access) → filter_map g xs ≡ filter_map (λ a. a) (map g xs)
filter_map_by_map g [] = refl
filter_map_by_map g (x ∷ xs) = rw (filter_map_by_map g xs) refl

-- where two functions agree on the words of a transaction, they find the same
filter_map_agrees : (f g : Access → Option Access) (made : ℕ → Access) (n : ℕ) → ((j : ℕ) → j < n → f (made j) ≡ g (made j)) → (a k : ℕ) → a + k ≤ n → filter_map f (map made (range_with_len a k)) ≡ filter_map g (map made (range_with_len a k))
filter_map_agrees f g made n same a zero h = refl
filter_map_agrees f g made n same a (suc k) h = rw (same a (omega arith), filter_map_agrees f g made n same (a + 1) k (omega arith)) refl

-- the network's one device begins as the memory of solo
pub opening_is : (script : List Txn) → opening_memory (solo_network script) 0 ≡ solo_opening
unfolding solo_opening
opening_is script = refl

-- how a journal answers a word: as the memory where that has the word, and as no device elsewhere
abbrev pub reply_by : (Access → Option Access) → Bool → Access → Option Access
reply_by g aimed a = if aimed then g a else unreached_by a.op a

-- the first answer to an access in the run of these words
abbrev pub found_in : List Access → Access → Option Access
found_in words a = answer_at_first solo_opening words a

-- a word of a transaction is answered so
word_reply : (script : List Txn) (journal : List Entry) (i j : ℕ) (t : Txn) → IsSoloJournal script journal → IsTransaction t → j < t.count
    → access_reply (solo_network script) journal (access_at (transaction_message (solo_host script) i t) j) ≡ reply_by (found_in (aimed_words script 0 script)) (has_address t.addr solo_device) (access_at (transaction_message (solo_host script) i t) j)
word_reply script journal i j t is txn below =
    let a = access_at (transaction_message (solo_host script) i t) j in
    let there : answer_at_first (opening_memory (solo_network script) 0) (journal_accesses journal 0) a ≡ found_in (aimed_words script 0 script) a =
    ap (λ (m : MemoryState). answer_at_first m (journal_accesses journal 0) a) (opening_is script) ∙ ap (λ (words : List Access). answer_at_first solo_opening words a) (words_of_journal script journal is) in
    ap (answer_from (solo_network script) journal a) (word_place script i j t txn below)
    ∙ elim (has_address t.addr solo_device) as (λ b. answer_from (solo_network script) journal a (cond b (Some 0) None) ≡ reply_by (found_in (aimed_words script 0 script)) b a) [ true ↦ there | false ↦ refl ]

-- the answers to a transaction where each word of it that the memory has is answered by a function
abbrev pub answers_by : List Txn → (Access → Option Access) → ℕ → Txn → List Access
answers_by script g i t = if has_address t.addr solo_device then filter_map g (transaction_accesses (solo_host script) i t) else filter_map (λ a. unreached_by a.op a) (transaction_accesses (solo_host script) i t)

-- the answers to a transaction by the journal
answers_of_transaction : (script : List Txn) (journal : List Entry) (i : ℕ) (t : Txn) → IsSoloJournal script journal → IsTransaction t
    → transaction_answers (solo_network script) journal (solo_host script) i t ≡ answers_by script (found_in (aimed_words script 0 script)) i t
answers_of_transaction script journal i t is txn =
    let g = found_in (aimed_words script 0 script) in
    let words = transaction_accesses (solo_host script) i t in
    filter_map_agrees (access_reply (solo_network script) journal) (reply_by g (has_address t.addr solo_device)) (access_at (transaction_message (solo_host script) i t)) t.count (λ j below. word_reply script journal i j t is txn below) 0 t.count (omega arith)
    ∙ elim (has_address t.addr solo_device) as (λ b. filter_map (reply_by g b) words ≡ (if b then filter_map g words else filter_map (λ a. unreached_by a.op a) words)) [ true ↦ refl | false ↦ refl ]

outcomes_of_journal : (script : List Txn) (journal : List Entry) (i : ℕ) (txns : List Txn) → IsSoloJournal script journal → All IsTransaction txns
    → map (λ p. outcome_of p.1.kind (transaction_answers (solo_network script) journal (solo_host script) p.0 p.1)) (enumerate_from i txns)
    ≡ map (λ p. outcome_of p.1.kind (answers_by script (found_in (aimed_words script 0 script)) p.0 p.1)) (enumerate_from i txns)
outcomes_of_journal script journal i [] is all = refl
outcomes_of_journal script journal i (t ∷ txns) is all =
    rw (answers_of_transaction script journal i t is (All-head IsTransaction t txns all), outcomes_of_journal script journal (i + 1) txns is (All-tail IsTransaction t txns all)) refl

-- where each word finds its answer in the run, the outcomes are those of the transactions one after another
outcomes_one_by_one : (script : List Txn) (g : Access → Option Access) (i : ℕ) (m : MemoryState) (txns : List Txn) → map g (aimed_words script i txns) ≡ answers_in m (aimed_words script i txns)
    → map (λ p. outcome_of p.1.kind (answers_by script g p.0 p.1)) (enumerate_from i txns) ≡ solo_outcomes_from script i m txns
outcomes_one_by_one script g i m [] finds = refl
outcomes_one_by_one script g i m (t ∷ txns) finds =
    let words = transaction_accesses (solo_host script) i t in
    let lost = filter_map (λ a. unreached_by a.op a) words in
    let rest = aimed_words script (i + 1) txns in
    let more = map (λ p. outcome_of p.1.kind (answers_by script g p.0 p.1)) (enumerate_from (i + 1) txns) in
    let P : Bool → Type 0 = λ b.
    map g ((if b then words else []) ++ rest) ≡ answers_in m ((if b then words else []) ++ rest)
    → outcome_of t.kind (if b then filter_map g words else lost) ∷ more
    ≡ outcome_of t.kind (if b then filter_map (λ a. a) (answers_in m words) else lost) ∷ solo_outcomes_from script (i + 1) (if b then memory_after m words else m) txns in
    elim (has_address t.addr solo_device) as P [
      | true ↦ λ finds.
          let joined : map g words ++ map g rest ≡ answers_in m words ++ answers_in (memory_after m words) rest = sym (map-append g words rest) ∙ finds ∙ answers_in-append m words rest in
          let long : length (map g words) ≡ length (answers_in m words) = length-map words g ∙ sym (length-answers_in m words) in
          let both = split_alike (map g words) (map g rest) (answers_in m words) (answers_in (memory_after m words) rest) long joined in
          let here : filter_map g words ≡ filter_map (λ a. a) (answers_in m words) = filter_map_by_map g words ∙ ap (filter_map (λ a. a)) both.0 in
          rw (here, outcomes_one_by_one script g (i + 1) (memory_after m words) txns both.1) refl
      | false ↦ λ finds. rw (outcomes_one_by_one script g (i + 1) m txns finds) refl
    ] finds

-- the memory after the aimed words is the memory after the transactions one after another
memory_one_by_one : (script : List Txn) (i : ℕ) (m : MemoryState) (txns : List Txn) → memory_after m (aimed_words script i txns) ≡ solo_memory_from script i m txns
memory_one_by_one script i m [] = refl
memory_one_by_one script i m (t ∷ txns) =
    let words = transaction_accesses (solo_host script) i t in
    let rest = aimed_words script (i + 1) txns in
    elim (has_address t.addr solo_device) as (λ b. memory_after m ((if b then words else []) ++ rest) ≡ solo_memory_from script (i + 1) (if b then memory_after m words else m) txns) [
      | true ↦ memory_after-append m words rest ∙ memory_one_by_one script (i + 1) (memory_after m words) txns
      | false ↦ memory_one_by_one script (i + 1) m txns
    ]

-- the reply addresses of the aimed words rise
aimed_words_rise : (script : List Txn) → All IsTransaction script → AllPairs (λ a b. a.src < b.src) (aimed_words script 0 script)
aimed_words_rise script all =
    subst (AllPairs (λ a b. a.src < b.src)) (flow_of_script script 0 script all)
    (AllPairs-filter (λ a b. a.src < b.src) (is_in_flow script 0) (script_accesses (solo_host script)) (reply_addresses_rise (solo_host script) all))

pub solo_results_are : (script : List Txn) (journal : List Entry) → All IsTransaction script → IsSoloJournal script journal → run_results (solo_network script) journal ≡ solo_results script
solo_results_are script journal all is =
    let words = aimed_words script 0 script in
    let outcomes : host_outcomes (solo_network script) journal (solo_host script) ≡ solo_outcomes_from script 0 solo_opening script =
    outcomes_of_journal script journal 0 script is all
    ∙ outcomes_one_by_one script (found_in words) 0 solo_opening script (answers_found solo_opening words (apart_from_rising words (aimed_words_rise script all))) in
    let memory : final_memory (solo_network script) journal 0 ≡ solo_memory_from script 0 solo_opening script =
    ap (λ (m : MemoryState). memory_after m (journal_accesses journal 0)) (opening_is script)
    ∙ ap (memory_after solo_opening) (words_of_journal script journal is)
    ∙ memory_one_by_one script 0 solo_opening script in
    let results : List Outcome → MemoryState → RunResults = λ o m. record { outcomes = o ∷ []; images = m.bytes ∷ [] } in
    ap (λ (o : List Outcome). results o (final_memory (solo_network script) journal 0)) outcomes
    ∙ ap (results (solo_outcomes_from script 0 solo_opening script)) memory
