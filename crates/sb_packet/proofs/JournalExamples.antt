-- Journals that are lawful histories, and journals that are not.
use Rattle.std.proofs.Common.{◌≡◌, ◌<◌, refl, ap, arith, [], ◌∷◌, List, ℕ, zero, suc, true, false}
use Rattle.std.specs.Prelude.{All, map, IsTrue, slice_index, length}
use Rattle.std.specs.List.{AllByRecursion}
use Rattle.std.proofs.lemmas.List.Elements.{All-from_recursion}
use Rattle.sb_word.specs.Words.{opcode_of}
use Rattle.sb_packet.specs.Accesses.{Access, accesses_of}
use Rattle.sb_packet.specs.Networks.{NetHost}
use Rattle.sb_packet.specs.Scripts.{script_accesses}
use Rattle.sb_packet.specs.Journals.{journal_accesses, flow_part, is_at, IsPlaced, IsLawful}
use Rattle.sb_packet.specs.declared.entry.Entry.{Entry}
use Rattle.sb_packet.specs.declared.packet.Packet.{Packet}
use Rattle.sb_packet.proofs.FoundAnswers.{eq_below}
use Rattle.sb_packet.proofs.ExampleRuns.{alpha, beta, one_host, two_hosts, two_rounds, one_page, write_and_read, write_packet, read_packet, alpha_write, alpha_read, beta_write, beta_addition}

-- the words of a host at each device are those of its script there
abbrev IsKept : List Entry → NetHost → Type 0
IsKept journal host = (d : ℕ) → flow_part two_hosts host d (journal_accesses journal d) ≡ flow_part two_hosts host d (script_accesses host)

-- each host has a transaction at `a` and one at `b`, and nothing is at a third device
alpha_is_kept : IsKept two_rounds alpha
alpha_is_kept zero = refl
alpha_is_kept (suc zero) = refl
alpha_is_kept (suc (suc d)) = rw (eq_below 0 (suc (suc d)) (omega arith), eq_below 1 (suc (suc d)) (omega arith)) refl

beta_is_kept : IsKept two_rounds beta
beta_is_kept zero = refl
beta_is_kept (suc zero) = refl
beta_is_kept (suc (suc d)) = rw (eq_below 0 (suc (suc d)) (omega arith), eq_below 1 (suc (suc d)) (omega arith)) refl

-- an entry's words are at its device
abbrev IsAimed : ℕ → Packet → Type 0
IsAimed d p = All (λ a. IsTrue (is_at two_hosts d a)) (accesses_of p)

aimed_from_each : (d : ℕ) (p : Packet) → AllByRecursion (λ a. IsTrue (is_at two_hosts d a)) (accesses_of p) → IsAimed d p
aimed_from_each d p each = All-from_recursion (λ a. IsTrue (is_at two_hosts d a)) (accesses_of p) each

-- The journal of two rounds is lawful, though beta's words stand at `b` before they stand at `a`.
pub two_rounds_are_lawful : IsLawful two_hosts two_rounds
two_rounds_are_lawful =
    let first : IsPlaced two_hosts (record { round = 1; device = 0; packet = alpha_write }) = record { host = (0, omega arith, refl); device = omega arith; aimed = aimed_from_each 0 alpha_write (refl, tt); narrow = omega arith } in
    let second : IsPlaced two_hosts (record { round = 1; device = 1; packet = beta_write }) = record { host = (1, omega arith, refl); device = omega arith; aimed = aimed_from_each 1 beta_write (refl, tt); narrow = omega arith } in
    let third : IsPlaced two_hosts (record { round = 2; device = 0; packet = beta_addition }) = record { host = (1, omega arith, refl); device = omega arith; aimed = aimed_from_each 0 beta_addition (refl, tt); narrow = omega arith } in
    let fourth : IsPlaced two_hosts (record { round = 2; device = 1; packet = alpha_read }) = record { host = (0, omega arith, refl); device = omega arith; aimed = aimed_from_each 1 alpha_read (refl, (refl, tt)); narrow = omega arith } in
    record {
      in_script_order = All-from_recursion (IsKept two_rounds) (alpha ∷ beta ∷ []) (alpha_is_kept, (beta_is_kept, tt));
      at_target = All-from_recursion (IsPlaced two_hosts) two_rounds (first, (second, (third, (fourth, tt))));
      in_round_order = refl;
    }

-- the opcodes of accesses, in order
abbrev opcodes : List Access → List ℕ
opcodes list = map (λ a. opcode_of a.op) list

-- A journal that has the read before the write isn't lawful, since the script has the write first.
pub not_in_script_order : IsLawful (one_page write_and_read) (record { round = 0; device = 0; packet = read_packet } ∷ record { round = 0; device = 0; packet = write_packet } ∷ []) → ⊥
not_in_script_order lawful =
    let swapped : 1 ∷ 3 ∷ [] ≡ 3 ∷ 1 ∷ [] = ap opcodes (lawful.in_script_order 0 (one_host write_and_read) (omega arith) 0) in
    let first : 1 ≡ 3 = ap (λ (list : List ℕ). slice_index list 0) swapped in
    absurd (omega (arith, first))

-- Nor is one that leaves out the read.
pub not_complete : IsLawful (one_page write_and_read) (record { round = 0; device = 0; packet = write_packet } ∷ []) → ⊥
not_complete lawful =
    let lost : 3 ∷ [] ≡ 3 ∷ 1 ∷ [] = ap opcodes (lawful.in_script_order 0 (one_host write_and_read) (omega arith) 0) in
    let count : 1 ≡ 2 = ap length lost in
    absurd (omega (arith, count))

-- Nor one that has it twice.
pub not_once : IsLawful (one_page write_and_read) (record { round = 0; device = 0; packet = write_packet } ∷ record { round = 0; device = 0; packet = read_packet } ∷ record { round = 0; device = 0; packet = read_packet } ∷ []) → ⊥
not_once lawful =
    let more : 3 ∷ 1 ∷ 1 ∷ [] ≡ 3 ∷ 1 ∷ [] = ap opcodes (lawful.in_script_order 0 (one_host write_and_read) (omega arith) 0) in
    let count : 3 ≡ 2 = ap length more in
    absurd (omega (arith, count))

-- Nor one whose rounds fall.
pub not_in_round_order : IsLawful (one_page write_and_read) (record { round = 1; device = 0; packet = write_packet } ∷ record { round = 0; device = 0; packet = read_packet } ∷ []) → ⊥
not_in_round_order lawful = let falls : false ≡ true = lawful.in_round_order in absurd (cc)

-- Nor one that has an entry at a device that there isn't.
pub not_at_target : IsLawful (one_page write_and_read) (record { round = 0; device = 0; packet = write_packet } ∷ record { round = 0; device = 1; packet = read_packet } ∷ []) → ⊥
not_at_target lawful = let there : 1 < 1 = (lawful.at_target 1 (record { round = 0; device = 0; packet = write_packet }) (omega arith)).device in absurd (omega (arith, there))
