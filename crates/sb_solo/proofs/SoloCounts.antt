-- How many packets and outcomes a script has.
use Rattle.std.proofs.Common.{◌≡◌, ◌≤◌, ◌<◌, ℕ, zero, suc, ◌+◌, ◌-◌, ◌/◌, ◌^◌, List, [], ◌∷◌, ◌++◌, ap, refl, arith, true, false, length, length-append}
use Rattle.std.specs.Prelude.{sum_by, All, if◌then◌else◌}
use Rattle.std.proofs.lemmas.List.Elements.{All-head, All-tail}
use Rattle.std.proofs.lemmas.List.Sums.{sum_by-cons}
use Rattle.sb_packet.specs.Messages.{Message}
use Rattle.sb_packet.specs.Memories.{MemoryState}
use Rattle.sb_packet.specs.Networks.{has_address}
use Rattle.sb_packet.specs.Cuts.{first_part, other_parts, words_in, is_one_part, parts_in, transaction_packets}
use Rattle.sb_packet.specs.Scripts.{IsTransaction, transaction_message}
use Rattle.sb_solo.specs.Solo.{solo_host, solo_device, solo_packets_from, solo_packets}
use Rattle.sb_solo.specs.SoloRuns.{solo_step, solo_outcomes_from}
use Rattle.sb_packet.specs.declared.transaction.Txn.{Txn}
use Rattle.sb_packet.proofs.CutWords.{more_than_fit}

-- a message has no more parts than words, where a word fits the width
parts_are_few : (n width : ℕ) (m : Message) → 0 < m.count → 0 < words_in width m → length (parts_in n width m) ≤ m.count
parts_are_few zero width m some fits = omega arith
parts_are_few (suc n) width m some fits =
    elim (is_one_part width m) as (λ b. is_one_part width m ≡ b → length (if b then m ∷ [] else first_part width m ∷ parts_in n width (other_parts width m)) ≤ m.count) [
      | true ↦ λ h. omega arith
      | false ↦ λ h.
          let more : words_in width m < m.count = more_than_fit width m h in
          let left : 0 < m.count - words_in width m = omega arith in
          let rest : length (parts_in n width (other_parts width m)) ≤ m.count - words_in width m = parts_are_few n width (other_parts width m) left fits in
          omega (arith, more, rest, fits)
    ] refl

-- a word of at most 8 bytes fits 32
a_word_fits : (size : ℕ) → size ≤ 3 → 0 < 32 / 2 ^ size
a_word_fits zero h = omega arith
a_word_fits (suc zero) h = omega arith
a_word_fits (suc (suc zero)) h = omega arith
a_word_fits (suc (suc (suc zero))) h = omega arith
a_word_fits (suc (suc (suc (suc n)))) h = absurd (omega arith)

packets_are_few : (script : List Txn) (i : ℕ) (txns : List Txn) → All IsTransaction txns → length (solo_packets_from script i txns) ≤ sum_by (λ t. t.count) txns
packets_are_few script i [] all = omega arith
packets_are_few script i (t ∷ txns) all =
    let is : IsTransaction t = All-head IsTransaction t txns all in
    let packets = transaction_packets (solo_host script) i t in
    let rest = solo_packets_from script (i + 1) txns in
    let few : length packets ≤ t.count = parts_are_few t.count 32 (transaction_message (solo_host script) i t) is.some (a_word_fits t.size is.size) in
    let later : length rest ≤ sum_by (λ t. t.count) txns = packets_are_few script (i + 1) txns (All-tail IsTransaction t txns all) in
    rw (sum_by-cons (λ (t : Txn). t.count) t txns) (elim (has_address t.addr solo_device) as (λ b. length ((if b then packets else []) ++ rest) ≤ t.count + sum_by (λ t. t.count) txns) [
      | true ↦ rw length-append (omega (arith, few, later))
      | false ↦ omega (arith, later)
    ])

-- a script has no more packets than words
pub solo_packets_few : (script : List Txn) → All IsTransaction script → length (solo_packets script) ≤ sum_by (λ t. t.count) script
solo_packets_few script all = packets_are_few script 0 script all

-- each transaction has an outcome
pub length-solo_outcomes_from : (script : List Txn) (i : ℕ) (m : MemoryState) (txns : List Txn) → length (solo_outcomes_from script i m txns) ≡ length txns
length-solo_outcomes_from script i m [] = refl
length-solo_outcomes_from script i m (t ∷ txns) = ap (λ (n : ℕ). suc n) (length-solo_outcomes_from script (i + 1) (solo_step script i m t) txns)
