-- The words of a solo journal, and those of its script that are aimed at the memory.
use Rattle.std.proofs.Common.{◌≡◌, ◌<◌, ℕ, suc, ◌+◌, ◌*◌, ◌^◌, List, [], ◌∷◌, ◌++◌, ap, sym, ◌∙◌, refl, arith, Bool, true, false, cond}
use Rattle.std.specs.Prelude.{◌==◌, ◌&&◌, Option, Some, None, filter, flat_map, All, if◌then◌else◌}
use Rattle.std.specs.List.{enumerate_from}
use Rattle.std.specs.Option.{option_map_or}
use Rattle.std.proofs.Math.Pow.{pow_pos}
use Rattle.std.proofs.lemmas.Grind.{flat_map-append}
use Rattle.std.proofs.lemmas.List.Folds.{flat_map-map}
use Rattle.std.proofs.lemmas.List.Elements.{All-nil, All-append, All-head, All-tail, All-weaker, filter-append}
use Rattle.sb_packet.specs.Accesses.{Access, access_at, accesses_of, message_accesses}
use Rattle.sb_packet.specs.Messages.{message_of}
use Rattle.sb_packet.specs.Cuts.{transaction_packets}
use Rattle.sb_packet.specs.Networks.{has_address, device_at}
use Rattle.sb_packet.specs.Scripts.{IsTransaction, request_of, transaction_message, transaction_accesses}
use Rattle.sb_packet.specs.Journals.{journal_accesses, is_at, is_request}
use Rattle.sb_solo.specs.Solo.{solo_network, solo_host, solo_device, solo_packets_from, IsSoloJournal}
use Rattle.sb_packet.specs.declared.entry.Entry.{Entry}
use Rattle.sb_packet.specs.declared.transaction.Kind.{Kind}
use Rattle.sb_packet.specs.declared.transaction.Kind.TheVariants.{Read, Write, Posted, Atomic}
use Rattle.sb_packet.specs.declared.transaction.Txn.{Txn}
use Rattle.sb_packet.proofs.CutWords.{words_of_cut}
use Rattle.sb_packet.proofs.FoundAnswers.{eq_below}
use Rattle.sb_packet.proofs.Lists.{All-made, filter_all, filter_none}
use Rattle.sb_packet.proofs.Pages.{has_all_or_none}
use Rattle.sb_packet.proofs.ReplyAddresses.{words_from, word_within}

-- the words of the transactions that are aimed at the memory, from number i on
abbrev pub aimed_words : List Txn → ℕ → List Txn → List Access
aimed_words script i txns = flat_map (λ p. if has_address p.1.addr solo_device then transaction_accesses (solo_host script) p.0 p.1 else []) (enumerate_from i txns)

-- an access of the one host that is at that device
abbrev pub is_in_flow : List Txn → ℕ → Access → Bool
is_in_flow script d a = (a.host == 0) && is_at (solo_network script) d a

-- the words of the packets of a script are its words
pub words_of_packets : (script : List Txn) (i : ℕ) (txns : List Txn) → flat_map message_accesses (solo_packets_from script i txns) ≡ aimed_words script i txns
words_of_packets script i [] = refl
words_of_packets script i (t ∷ txns) =
    let packets = transaction_packets (solo_host script) i t in
    let rest = solo_packets_from script (i + 1) txns in
    let P : Bool → Type 0 = λ b. flat_map message_accesses ((if b then packets else []) ++ rest) ≡ (if b then transaction_accesses (solo_host script) i t else []) ++ aimed_words script (i + 1) txns in
    let later = words_of_packets script (i + 1) txns in
    elim (has_address t.addr solo_device) as P [
      | true ↦ flat_map-append message_accesses packets rest ∙ rw (words_of_cut 32 (transaction_message (solo_host script) i t), later) refl
      | false ↦ later
    ]

-- every entry of a journal that has them all at device 0 is kept there
entries_there : (journal : List Entry) → All (λ e. e.device ≡ 0) journal → filter (λ e. e.device == 0) journal ≡ journal
entries_there journal there = filter_all (λ e. e.device == 0) journal (All-weaker (λ e. e.device ≡ 0) (λ e. (e.device == 0) ≡ true) (λ e at. rw at refl) journal there)

-- and none at another
pub no_entries : (journal : List Entry) (d : ℕ) → All (λ e. e.device ≡ 0) journal → filter (λ e. e.device == suc d) journal ≡ []
no_entries journal d there = filter_none (λ e. e.device == suc d) journal (All-weaker (λ e. e.device ≡ 0) (λ e. (e.device == suc d) ≡ false) (λ e at. rw at (eq_below 0 (suc d) (omega arith))) journal there)

-- the words of a solo journal's entries are those of the script that are aimed at the memory
pub words_of_entries : (script : List Txn) (journal : List Entry) → IsSoloJournal script journal → flat_map (λ (e : Entry). accesses_of e.packet) journal ≡ aimed_words script 0 script
words_of_entries script journal is =
    sym (flat_map-map message_accesses (λ (e : Entry). message_of e.packet) journal)
    ∙ ap (flat_map message_accesses) is.packets
    ∙ words_of_packets script 0 script

-- and they all stand at the memory
pub words_of_journal : (script : List Txn) (journal : List Entry) → IsSoloJournal script journal → journal_accesses journal 0 ≡ aimed_words script 0 script
words_of_journal script journal is =
    ap (flat_map (λ (e : Entry). accesses_of e.packet)) (entries_there journal is.one_device)
    ∙ words_of_entries script journal is

asks : (k : Kind) → is_request (request_of k) ≡ true
asks Read = refl
asks Write = refl
asks Posted = refl
asks (Atomic type) = refl

-- the memory has a word of a transaction where it has its first byte
pub word_aimed : (script : List Txn) (i j : ℕ) (t : Txn) → IsTransaction t → j < t.count → has_address (access_at (transaction_message (solo_host script) i t) j).dst solo_device ≡ has_address t.addr solo_device
word_aimed script i j t is below =
    let within = word_within t.size t.count j below in
    let some : 0 < 2 ^ t.size = pow_pos t.size in
    has_all_or_none solo_device t.addr (t.count * 2 ^ t.size) (j * 2 ^ t.size) refl is.page (omega (arith, within, some))

-- the device that a word of a transaction is at
pub word_place : (script : List Txn) (i j : ℕ) (t : Txn) → IsTransaction t → j < t.count → device_at (solo_network script) (access_at (transaction_message (solo_host script) i t) j).dst ≡ cond (has_address t.addr solo_device) (Some 0) None
word_place script i j t is below = ap (λ (b : Bool). cond b (Some 0) None) (word_aimed script i j t is below)

-- a word of a transaction is in the flow to device d where the memory has it and d is the memory
word_in_flow : (script : List Txn) (d i j : ℕ) (t : Txn) → IsTransaction t → j < t.count → is_in_flow script d (access_at (transaction_message (solo_host script) i t) j) ≡ option_map_or (λ k. k == d) (cond (has_address t.addr solo_device) (Some 0) None) false
word_in_flow script d i j t is below =
    let a = access_at (transaction_message (solo_host script) i t) j in
    ap (λ (b : Bool). option_map_or (λ k. k == d) (device_at (solo_network script) (cond b a.dst a.src)) false) (asks t.kind)
    ∙ ap (λ (o : Option ℕ). option_map_or (λ k. k == d) o false) (word_place script i j t is below)

-- every word of the transactions that are aimed at the memory is in the flow to it
pub aimed_in_flow : (script : List Txn) (i : ℕ) (txns : List Txn) → All IsTransaction txns → All (λ a. is_in_flow script 0 a ≡ true) (aimed_words script i txns)
aimed_in_flow script i [] all = All-nil (λ a. is_in_flow script 0 a ≡ true)
aimed_in_flow script i (t ∷ txns) all =
    let is : IsTransaction t = All-head IsTransaction t txns all in
    let words = transaction_accesses (solo_host script) i t in
    let P : Access → Type 0 = λ a. is_in_flow script 0 a ≡ true in
    let here : All P (if has_address t.addr solo_device then words else []) =
    elim (has_address t.addr solo_device) as (λ b. has_address t.addr solo_device ≡ b → All P (if b then words else [])) [
      | true ↦ λ aimed. All-made P (access_at (transaction_message (solo_host script) i t)) t.count (λ j below.
          word_in_flow script 0 i j t is below ∙ ap (λ (b : Bool). option_map_or (λ k. k == 0) (cond b (Some 0) None) false) aimed)
      | false ↦ λ aimed. All-nil P
    ] refl in
    All-append P (if has_address t.addr solo_device then words else []) (aimed_words script (i + 1) txns) here (aimed_in_flow script (i + 1) txns (All-tail IsTransaction t txns all))

-- what is in the flow to the memory of a script's words is what is aimed at it
pub flow_of_script : (script : List Txn) (i : ℕ) (txns : List Txn) → All IsTransaction txns → filter (is_in_flow script 0) (words_from (solo_host script) i txns) ≡ aimed_words script i txns
flow_of_script script i [] all = refl
flow_of_script script i (t ∷ txns) all =
    let is : IsTransaction t = All-head IsTransaction t txns all in
    let words = transaction_accesses (solo_host script) i t in
    let rest = aimed_words script (i + 1) txns in
    let here : filter (is_in_flow script 0) words ≡ (if has_address t.addr solo_device then words else []) =
    elim (has_address t.addr solo_device) as (λ b. has_address t.addr solo_device ≡ b → filter (is_in_flow script 0) words ≡ (if b then words else [])) [
      | true ↦ λ aimed. filter_all (is_in_flow script 0) words (All-made (λ a. is_in_flow script 0 a ≡ true) (access_at (transaction_message (solo_host script) i t)) t.count (λ j below.
          word_in_flow script 0 i j t is below ∙ ap (λ (b : Bool). option_map_or (λ k. k == 0) (cond b (Some 0) None) false) aimed))
      | false ↦ λ aimed. filter_none (is_in_flow script 0) words (All-made (λ a. is_in_flow script 0 a ≡ false) (access_at (transaction_message (solo_host script) i t)) t.count (λ j below.
          word_in_flow script 0 i j t is below ∙ ap (λ (b : Bool). option_map_or (λ k. k == 0) (cond b (Some 0) None) false) aimed))
    ] refl in
    filter-append (is_in_flow script 0) words (words_from (solo_host script) (i + 1) txns)
    ∙ rw (here, flow_of_script script (i + 1) txns (All-tail IsTransaction t txns all)) refl

-- no word of a script is in the flow to another device
pub none_elsewhere : (script : List Txn) (d i : ℕ) (txns : List Txn) → All IsTransaction txns → All (λ a. is_in_flow script (suc d) a ≡ false) (words_from (solo_host script) i txns)
none_elsewhere script d i [] all = All-nil (λ a. is_in_flow script (suc d) a ≡ false)
none_elsewhere script d i (t ∷ txns) all =
    let is : IsTransaction t = All-head IsTransaction t txns all in
    let P : Access → Type 0 = λ a. is_in_flow script (suc d) a ≡ false in
    let other : (0 == suc d) ≡ false = eq_below 0 (suc d) (omega arith) in
    let nowhere : option_map_or (λ k. k == suc d) (cond (has_address t.addr solo_device) (Some 0) None) false ≡ false =
    elim (has_address t.addr solo_device) as (λ b. option_map_or (λ k. k == suc d) (cond b (Some 0) None) false ≡ false) [ true ↦ other | false ↦ refl ] in
    All-append P (transaction_accesses (solo_host script) i t) (words_from (solo_host script) (i + 1) txns)
    (All-made P (access_at (transaction_message (solo_host script) i t)) t.count (λ j below. word_in_flow script (suc d) i j t is below ∙ nowhere))
    (none_elsewhere script d (i + 1) txns (All-tail IsTransaction t txns all))
