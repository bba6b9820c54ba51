-- The words of two messages that are merged are the words of the one and then those of the other.
use Rattle.std.proofs.Common.{◌≡◌, ◌≤◌, ◌<◌, ℕ, ◌+◌, ◌*◌, ◌^◌, List, [], ◌∷◌, ◌++◌, refl, sym, ◌∙◌, arith, drop, length, true, false, Bool, subst, inl, inr}
use Rattle.std.specs.Prelude.{map, ◌==◌, ◌&&◌}
use Rattle.std.specs.List.{range_with_len}
use Rattle.std.proofs.Math.Nat.{mul-le-mul_right}
use Rattle.std.proofs.lemmas.List.{take-append-le, drop-append-le, length-drop, length-append}
use Rattle.std.proofs.lemmas.Bool.Decides.{nat_tests}
use Rattle.std.proofs.Math.Seq.{drop-append-add, drop-nil}
use Rattle.sb_word.specs.declared.command.Op.{Op}
use Rattle.sb_packet.specs.Messages.{Message, message_span}
use Rattle.sb_packet.specs.Spans.{carried_by}
use Rattle.sb_packet.specs.Accesses.{access_at, message_accesses, share}
use Rattle.sb_packet.specs.Cuts.{IsWhole, is_atomic}
use Rattle.sb_packet.proofs.Opcodes.{carries_none_or_all}
use Rattle.sb_packet.proofs.Ranges.{range_agrees, range_split}
use Rattle.sb_cut.specs.Merges.{merge, AreMergeable}

-- a word before the last one is not the last
not_last : (eom : Bool) (j n : ℕ) → j + 1 < n → (eom && (j + 1 == n)) ≡ false
not_last eom j n below =
    let other : (j + 1 == n) ≡ false = grind (arith, nat_tests) in
    rw other (elim eom as (λ v. (v && false) ≡ false) [ true ↦ refl | false ↦ refl ])

nothing : (bytes : List ℕ) → length bytes ≡ 0 → bytes ≡ []
nothing [] h = refl
nothing (b ∷ bytes) h = absurd (omega arith)

-- the words of bytes that have others behind them, and the words of those others
share_in_front : (size j n : ℕ) (bytes more : List ℕ) → length bytes ≡ n * 2 ^ size → j < n → share size j (bytes ++ more) ≡ share size j bytes
share_in_front size j n bytes more long below =
    let s = 2 ^ size in
    let within : (j + 1) * s ≤ n * s = mul-le-mul_right s (omega arith) in
    let low : j * s ≤ length bytes = omega (arith, within) in
    let fits : s ≤ length (drop (j * s) bytes) = simp length-drop (omega (arith, within)) in
    rw (drop-append-le (j * s) bytes more low) (take-append-le s (drop (j * s) bytes) more fits)

share_behind : (size j n : ℕ) (bytes more : List ℕ) → length bytes ≡ n * 2 ^ size → share size (n + j) (bytes ++ more) ≡ share size j more
share_behind size j n bytes more long =
    let s = 2 ^ size in
    let place : (n + j) * s ≡ length bytes + j * s = omega arith in
    rw (place, drop-append-add) refl

-- Where one message follows another, merging keeps the words.
pub words_of_merge : (width : ℕ) (a b : Message) → AreMergeable width a b → IsWhole a → IsWhole b → message_accesses (merge a b) ≡ message_accesses a ++ message_accesses b
words_of_merge width a b can first second =
    let s = 2 ^ a.size in
    let some : 0 < b.count = second.some in
    let atomic : a.atomic ≡ b.atomic = first.plain can.plain ∙ sym (second.plain (subst (λ (op : Op). is_atomic op ≡ false) can.op can.plain)) in
    let shares : ((j : ℕ) → j < a.count → share a.size j (a.bytes ++ b.bytes) ≡ share a.size j a.bytes) × ((j : ℕ) → share a.size (a.count + j) (a.bytes ++ b.bytes) ≡ share a.size j b.bytes) =
    elim (carries_none_or_all a.op) [
      | inl none ↦
          let none_a : a.bytes ≡ [] = nothing a.bytes (first.carried ∙ none (message_span a)) in
          let none_b : b.bytes ≡ [] = nothing b.bytes (second.carried ∙ rw (← can.op) (none (message_span b))) in
          (λ j below. rw (none_a, none_b) refl, λ j. rw (none_a, none_b, drop-nil {A = ℕ} ((a.count + j) * s), drop-nil {A = ℕ} (j * s)) refl)
      | inr all ↦
          let long : length a.bytes ≡ a.count * s = first.carried ∙ all (message_span a) in
          (λ j below. share_in_front a.size j a.count a.bytes b.bytes long below, λ j. share_behind a.size j a.count a.bytes b.bytes long)
    ] in
    let front : map (access_at (merge a b)) (range_with_len 0 a.count) ≡ message_accesses a =
    range_agrees (access_at (merge a b)) (access_at a) 0 0 a.count (λ j below.
    let z : 0 + j ≡ j = omega arith in
    rw (z, shares.0 j below, can.unended, not_last b.eom j (a.count + b.count) (omega arith)) refl) in
    let back : map (access_at (merge a b)) (range_with_len (0 + a.count) b.count) ≡ message_accesses b =
    range_agrees (access_at (merge a b)) (access_at b) (0 + a.count) 0 b.count (λ j below.
    let z : 0 + j ≡ j = omega arith in
    let y : 0 + a.count + j ≡ a.count + j = omega arith in
    let dst : a.dst + (a.count + j) * s ≡ a.dst + a.count * s + j * s = omega arith in
    let src : a.src + (a.count + j) * s ≡ a.src + a.count * s + j * s = omega arith in
    let last : (a.count + j + 1 == a.count + b.count) ≡ (j + 1 == b.count) = grind (arith, nat_tests) in
    rw (z, y, shares.1 j, dst, src, last, ← can.op, ← can.size, ← can.host, ← can.qos, ← can.prot, ← can.eof, ← can.tail, ← atomic, can.first_shared, can.second_shared, can.dst, can.src) refl) in
    range_split (access_at (merge a b)) 0 a.count b.count ∙ rw (front, back) refl

-- both together are no wider than the width
pub span_of_merge : (width : ℕ) (a b : Message) → AreMergeable width a b → message_span (merge a b) ≡ message_span a + message_span b
span_of_merge width a b can = let s : a.size ≡ b.size = can.size in rw (← s) (omega arith)

pub merge_is_narrow : (width : ℕ) (a b : Message) → AreMergeable width a b → message_span (merge a b) ≤ width
merge_is_narrow width a b can = let both = span_of_merge width a b can in let fits = can.fits in omega (arith, both, fits)

-- whole messages are whole together
pub whole_merge : (width : ℕ) (a b : Message) → AreMergeable width a b → IsWhole a → IsWhole b → IsWhole (merge a b)
whole_merge width a b can first second =
    let s = 2 ^ a.size in
    let some : 0 < a.count = first.some in
    let op : carried_by b.op (b.count * 2 ^ b.size) ≡ carried_by a.op (b.count * s) = rw (← can.op, ← can.size) refl in
    let sum : (a.count + b.count) * s ≡ a.count * s + b.count * s = omega arith in
    record {
      some = omega arith;
      size = first.size;
      carried = elim (carries_none_or_all a.op) [
        | inl none ↦ rw (length-append, first.carried, second.carried, op, none (a.count * s), none (b.count * s), none ((a.count + b.count) * s)) refl
        | inr all ↦ rw (length-append, first.carried, second.carried, op, all (a.count * s), all (b.count * s), all ((a.count + b.count) * s), sum) refl
      ];
      single = λ h. let no_way : true ≡ false = sym h ∙ can.plain in absurd (cc);
      plain = first.plain;
    }
