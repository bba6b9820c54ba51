-- The words of one transaction among others: their reply addresses tell them.
use Rattle.std.proofs.Common.{◌≡◌, ◌≢◌, ◌≤◌, ◌<◌, ℕ, zero, suc, ◌+◌, ◌*◌, ◌/◌, ◌%◌, ◌^◌, Bool, true, false, cond, List, [], ◌∷◌, ◌++◌, length, refl, ap, sym, ◌∙◌, arith, subst, Option, Some, None}
use Rattle.std.specs.Prelude.{◌==◌, ◌&&◌, All, IsTrue, filter, flat_map, get_or, slice_get}
use Rattle.std.specs.Option.{option_map_or}
use Rattle.std.proofs.Math.Pow.{pow_pos}
use Rattle.std.proofs.lemmas.Bool.{and_parts}
use Rattle.std.proofs.lemmas.Bool.Decides.{nat_tests}
use Rattle.std.proofs.lemmas.Grind.{flat_map-append}
use Rattle.std.proofs.lemmas.List.{append-nil}
use Rattle.std.proofs.lemmas.List.Elements.{All-filter, All-head, All-tail, filter-append, filter_passes}
use Rattle.sb_packet.specs.Accesses.{Access, access_at, accesses_of}
use Rattle.sb_packet.specs.Journals.{IsPlaced, flow_part, is_at, journal_accesses}
use Rattle.sb_packet.specs.Networks.{NetHost, Network, device_at}
use Rattle.sb_packet.specs.Scripts.{IsTransaction, reply_address, script_accesses, transaction_accesses, transaction_message}
use Rattle.sb_packet.specs.declared.entry.Entry.{Entry}
use Rattle.sb_packet.specs.declared.transaction.Txn.{Txn}
use Rattle.sb_packet.proofs.Lists.{All-joined, All-made, filter_all, filter_none}
use Rattle.sb_packet.proofs.ReplyAddresses.{span_of_transaction, word_within, words_from}
use Rattle.sb_flow.specs.Accepted.{misplaced_device}
use Rattle.sb_flow.proofs.FlowWords.{request_asks}
use Rattle.sb_flow.proofs.Pages.{device_at-page}
use Rattle.sb_check.specs.Gathering.{transaction_number}

-- a word of transaction i of the host with that id
abbrev pub is_word_of : ℕ → ℕ → Access → Bool
is_word_of id i a = (a.host == id) && (transaction_number a.src == i)

pub same_number : (n : ℕ) → (n == n) ≡ true
same_number n = grind (arith, nat_tests)

other_number : (m n : ℕ) → m ≢ n → (m == n) ≡ false
other_number m n other = grind (arith, nat_tests)

number_behind : (id i x : ℕ) → i < 65536 → x < 2048 → (id * 2 ^ 40 + i * 2 ^ 11 + x) % 2 ^ 40 / 2 ^ 11 ≡ i
number_behind id i x few short = omega arith

-- a word's reply address tells the number of its transaction
pub number_of_word : (id i : ℕ) (t : Txn) (j : ℕ) → IsTransaction t → i < 65536 → j < t.count → transaction_number (reply_address id i + j * 2 ^ t.size) ≡ i
number_of_word id i t j is few below =
    let within = word_within t.size t.count j below in
    let short = span_of_transaction t is in
    let some : 0 < 2 ^ t.size = pow_pos t.size in
    number_behind id i (j * 2 ^ t.size) few (omega (arith, within, short, some))

module _ (host : NetHost) where
  own_word : (i : ℕ) (t : Txn) → IsTransaction t → i < 65536 → (j : ℕ) → j < t.count → is_word_of host.id i (access_at (transaction_message host i t) j) ≡ true
  own_word i t is few j below = rw (same_number host.id, number_of_word host.id i t j is few below) (same_number i)

  other_word : (i n : ℕ) (t : Txn) → IsTransaction t → n < 65536 → n ≢ i → (j : ℕ) → j < t.count → is_word_of host.id i (access_at (transaction_message host n t) j) ≡ false
  other_word i n t is few other j below = rw (same_number host.id, number_of_word host.id n t j is few below) (other_number n i other)

  -- no word of later transactions is of an earlier one
  no_later_words : (i n : ℕ) (txns : List Txn) → All IsTransaction txns → n + length txns ≤ 65536 → i < n → filter (is_word_of host.id i) (words_from host n txns) ≡ []
  no_later_words i n [] all few before = refl
  no_later_words i n (t ∷ txns) all few before =
      let test = is_word_of host.id i in
      let is = All-head IsTransaction t txns all in
      let none : filter test (transaction_accesses host n t) ≡ [] =
      filter_none test (transaction_accesses host n t) (All-made (λ a. test a ≡ false) (access_at (transaction_message host n t)) t.count (λ j below. other_word i n t is (omega arith) (omega arith) j below)) in
      let rest = no_later_words i (n + 1) txns (All-tail IsTransaction t txns all) (omega arith) (omega arith) in
      filter-append test (transaction_accesses host n t) (words_from host (n + 1) txns) ∙ rw (none, rest) refl

  -- of all words of a script those of one transaction are its own
  own_words_from : (n : ℕ) (txns : List Txn) (j : ℕ) (t : Txn) → All IsTransaction txns → n + length txns ≤ 65536 → slice_get txns j ≡ Some t → (i : ℕ) → n + j ≡ i
      → filter (is_word_of host.id i) (words_from host n txns) ≡ transaction_accesses host i t
  own_words_from n [] j t all few at i e = absurd (cc)
  own_words_from n (x ∷ txns) zero t all few at i e =
      let test = is_word_of host.id i in
      let same : x ≡ t = cc in
      let number : n ≡ i = omega (arith, e) in
      let is = All-head IsTransaction x txns all in
      let own : filter test (transaction_accesses host n x) ≡ transaction_accesses host n x =
      filter_all test (transaction_accesses host n x) (All-made (λ a. test a ≡ true) (access_at (transaction_message host n x)) x.count
      (λ k below. subst (λ (m : ℕ). is_word_of host.id m (access_at (transaction_message host n x) k) ≡ true) number (own_word n x is (omega arith) k below))) in
      let rest = no_later_words i (n + 1) txns (All-tail IsTransaction x txns all) (omega arith) (omega (arith, number)) in
      filter-append test (transaction_accesses host n x) (words_from host (n + 1) txns)
      ∙ rw (own, rest) (append-nil (transaction_accesses host n x))
      ∙ ap (λ (m : ℕ). transaction_accesses host m x) number ∙ ap (transaction_accesses host i) same
  own_words_from n (x ∷ txns) (suc j) t all few at i e =
      let test = is_word_of host.id i in
      let is = All-head IsTransaction x txns all in
      let none : filter test (transaction_accesses host n x) ≡ [] =
      filter_none test (transaction_accesses host n x) (All-made (λ a. test a ≡ false) (access_at (transaction_message host n x)) x.count (λ k below. other_word i n x is (omega arith) (omega (arith, e)) k below)) in
      let rest = own_words_from (n + 1) txns j t (All-tail IsTransaction x txns all) (omega arith) at i (omega (arith, e)) in
      filter-append test (transaction_accesses host n x) (words_from host (n + 1) txns) ∙ rw (none, rest) refl

-- two tests may change places
tests_change : {A : Type 0} (p q : A → Bool) (xs : List A) → filter p (filter q xs) ≡ filter q (filter p xs)
tests_change p q [] = refl
tests_change {A} p q (x ∷ xs) = by_tests (p x) refl (q x) refl (tests_change p q xs)
  where
    by_tests : (b : Bool) → p x ≡ b → (c : Bool) → q x ≡ c → filter p (filter q xs) ≡ filter q (filter p xs)
        → filter p (cond c (x ∷ filter q xs) (filter q xs)) ≡ filter q (cond b (x ∷ filter p xs) (filter p xs))
    by_tests true t true u rest = rw (t, u, rest) refl
    by_tests true t false u rest = rw (u, rest) refl
    by_tests false t true u rest = rw (t, rest) refl
    by_tests false t false u rest = rest

-- where all that passes one test passes another, the first keeps the same of what the other keeps
kept_within : {A : Type 0} (p q : A → Bool) (xs : List A) → All (λ x. p x ≡ true → q x ≡ true) xs → filter p (filter q xs) ≡ filter p xs
kept_within p q [] h = refl
kept_within {A} p q (x ∷ xs) h = by_tests (p x) refl (q x) refl (kept_within p q xs (All-tail (λ x. p x ≡ true → q x ≡ true) x xs h))
  where
    here : p x ≡ true → q x ≡ true
    here = All-head (λ x. p x ≡ true → q x ≡ true) x xs h

    by_tests : (b : Bool) → p x ≡ b → (c : Bool) → q x ≡ c → filter p (filter q xs) ≡ filter p xs → filter p (cond c (x ∷ filter q xs) (filter q xs)) ≡ cond b (x ∷ filter p xs) (filter p xs)
    by_tests true t true u rest = rw (t, rest) refl
    by_tests true t false u rest = absurd (let yes = here t in cc)
    by_tests false t true u rest = rw (t, rest) refl
    by_tests false t false u rest = rest

-- each word of a transaction is at the device that the transaction is aimed at
pub word_place : (network : Network) → misplaced_device network ≡ None → (t : Txn) → IsTransaction t → (j : ℕ) → j < t.count → device_at network (t.addr + j * 2 ^ t.size) ≡ device_at network t.addr
word_place network placed t is j below =
    let within = word_within t.size t.count j below in
    let some : 0 < 2 ^ t.size = pow_pos t.size in
    let page : t.addr % 4096 + t.count * 2 ^ t.size ≤ 4096 = is.page in
    device_at-page network t.addr (j * 2 ^ t.size) placed (omega (arith, within, some, page))

-- an access of a host, at a device
abbrev pub is_in_flow : Network → NetHost → ℕ → Access → Bool
is_in_flow network host d a = (a.host == host.id) && is_at network d a

module _ (network : Network) (host : NetHost) (placed : misplaced_device network ≡ None) (lines : All IsTransaction host.script) (few : length host.script ≤ 65536) where
  -- the words of a transaction at a device are in its host's flow there
  pub words_in_flow : (d i : ℕ) (t : Txn) → IsTransaction t → device_at network t.addr ≡ Some d → filter (is_in_flow network host d) (transaction_accesses host i t) ≡ transaction_accesses host i t
  words_in_flow d i t is at =
      filter_all (is_in_flow network host d) (transaction_accesses host i t) (All-made (λ a. is_in_flow network host d a ≡ true) (access_at (transaction_message host i t)) t.count (λ j below.
      let here : is_at network d (access_at (transaction_message host i t) j) ≡ true =
      ap (λ (b : Bool). option_map_or (λ k. k == d) (device_at network (cond b (t.addr + j * 2 ^ t.size) (reply_address host.id i + j * 2 ^ t.size))) false) (request_asks t.kind)
      ∙ ap (λ (o : Option ℕ). option_map_or (λ k. k == d) o false) (word_place network placed t is j below ∙ at) ∙ same_number d in
      rw (same_number host.id, here) refl))

  -- Of what a host's script asks of a device, the words of one of its transactions there are all that transaction's.
  own_words : (d i : ℕ) (t : Txn) → IsTransaction t → slice_get host.script i ≡ Some t → device_at network t.addr ≡ Some d
      → filter (is_word_of host.id i) (flow_part network host d (script_accesses host)) ≡ transaction_accesses host i t
  own_words d i t is there at =
      tests_change (is_word_of host.id i) (is_in_flow network host d) (script_accesses host)
      ∙ ap (filter (is_in_flow network host d)) (own_words_from host 0 host.script i t lines (omega (arith, few)) there i (omega arith))
      ∙ words_in_flow d i t is at

  -- So where a device's words of a host begin those of the script, those of one transaction begin its own.
  pub own_so_far : (d i : ℕ) (t : Txn) (words rest : List Access) → IsTransaction t → slice_get host.script i ≡ Some t → device_at network t.addr ≡ Some d
      → All (λ a. is_at network d a ≡ true) words → flow_part network host d words ++ rest ≡ flow_part network host d (script_accesses host)
      → filter (is_word_of host.id i) words ++ filter (is_word_of host.id i) rest ≡ transaction_accesses host i t
  own_so_far d i t words rest is there at here joined =
      let test = is_word_of host.id i in
      let kept : filter test (flow_part network host d words) ≡ filter test words =
      kept_within test (is_in_flow network host d) words (λ k a below own.
      let one = (and_parts ((get_or words k a).host == host.id) (transaction_number (get_or words k a).src == i) own).0 in rw (one, here k a below) refl) in
      ap (λ (l : List Access). l ++ filter test rest) (sym kept) ∙ sym (filter-append test (flow_part network host d words) rest) ∙ ap (filter test) joined ∙ own_words d i t is there at

-- the words that entries at their targets have at a device are at it
pub words_there : (network : Network) (d : ℕ) (journal : List Entry) → All (IsPlaced network) journal → All (λ a. is_at network d a ≡ true) (journal_accesses journal d)
words_there network d journal placed =
    let here = filter (λ (e : Entry). e.device == d) journal in
    let all = All-filter (λ (e : Entry). e.device == d) (IsPlaced network) journal placed in
    let there = filter_passes (λ (e : Entry). e.device == d) journal in
    All-joined (λ a. is_at network d a ≡ true) (λ (e : Entry). accesses_of e.packet) here (λ k e below.
    let test : ((get_or here k e).device == d) ≡ true = there k e below in
    let same : (get_or here k e).device ≡ d = grind (arith, nat_tests) in
    let aimed : All (λ a. IsTrue (is_at network (get_or here k e).device a)) (accesses_of (get_or here k e).packet) = (all k e below).aimed in
    subst (λ (n : ℕ). All (λ a. is_at network n a ≡ true) (accesses_of (get_or here k e).packet)) same aimed)

-- one entry more brings its words to its device, and to no other
pub journal_more : (journal : List Entry) (e : Entry) (d : ℕ) → e.device ≡ d → journal_accesses (journal ++ e ∷ []) d ≡ journal_accesses journal d ++ accesses_of e.packet
journal_more journal e d at =
    let test : Entry → Bool = λ x. x.device == d in
    let words : Entry → List Access = λ x. accesses_of x.packet in
    let own : (e.device == d) ≡ true = grind (arith, nat_tests) in
    let one : filter test (e ∷ []) ≡ e ∷ [] = rw own refl in
    ap (flat_map words) (filter-append test journal (e ∷ []) ∙ ap (λ (l : List Entry). filter test journal ++ l) one)
    ∙ flat_map-append words (filter test journal) (e ∷ [])
    ∙ ap (λ (l : List Access). flat_map words (filter test journal) ++ l) (append-nil (accesses_of e.packet))

pub journal_same : (journal : List Entry) (e : Entry) (d : ℕ) → e.device ≢ d → journal_accesses (journal ++ e ∷ []) d ≡ journal_accesses journal d
journal_same journal e d other =
    let test : Entry → Bool = λ x. x.device == d in
    let words : Entry → List Access = λ x. accesses_of x.packet in
    let none : filter test (e ∷ []) ≡ [] = rw (other_number e.device d other) refl in
    ap (flat_map words) (filter-append test journal (e ∷ []) ∙ ap (λ (l : List Entry). filter test journal ++ l) none)
    ∙ flat_map-append words (filter test journal) []
    ∙ append-nil (flat_map words (filter test journal))
