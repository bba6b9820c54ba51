-- The words of all parts of a message are its words.
use Rattle.std.proofs.Common.{◌≡◌, ◌≤◌, ◌<◌, ℕ, zero, suc, ◌+◌, ◌-◌, ◌*◌, ◌/◌, ◌^◌, List, [], ◌∷◌, ◌++◌, refl, ap, sym, ◌∙◌, arith, take, drop, false, true, Bool, inl, inr}
use Rattle.std.specs.Prelude.{map, flat_map, ◌==◌, ◌&&◌, ◌||◌, ◌⊎◌, nat_le, if◌then◌else◌}
use Rattle.std.specs.List.{range_with_len}
use Rattle.std.proofs.Math.Nat.{mul-le-mul_right, div-mul-le_self}
use Rattle.std.proofs.lemmas.List.{drop-take, take-take, drop-drop, append-nil}
use Rattle.std.proofs.lemmas.Bool.Decides.{nat_tests}
use Rattle.sb_packet.specs.Accesses.{share, access_at, message_accesses}
use Rattle.sb_packet.specs.Messages.{Message, message_span}
use Rattle.sb_packet.specs.Cuts.{part_of, first_part, other_parts, words_in, is_one_part, is_indivisible, cut_parts, parts_in}
use Rattle.sb_packet.proofs.Ranges.{range_agrees, range_split}

-- the bytes of word j of a part are those of word from + j
pub part_share : (size from count j : ℕ) (bytes : List ℕ) → j < count → share size j (take (count * 2 ^ size) (drop (from * 2 ^ size) bytes)) ≡ share size (from + j) bytes
part_share size from count j bytes below =
    let s = 2 ^ size in
    let within : (j + 1) * s ≤ count * s = mul-le-mul_right s (omega arith) in
    let room : count * s ≡ j * s + (count * s - j * s) = omega (arith, within) in
    let fits : s ≤ count * s - j * s = omega (arith, within) in
    let place : from * s + j * s ≡ (from + j) * s = omega arith in
    rw room (rw drop-take (rw take-take (rw drop-drop (rw place refl))))

-- word j of a part is word from + j of the message, where both end the transaction or neither does
pub part_word : (m : Message) (from count j : ℕ) (eom : Bool) → j < count → (eom && (j + 1 == count)) ≡ (m.eom && (from + j + 1 == m.count)) → access_at (part_of m from count eom) j ≡ access_at m (from + j)
part_word m from count j eom below last =
    let s = 2 ^ m.size in
    let dst : m.dst + from * s + j * s ≡ m.dst + (from + j) * s = omega arith in
    let src : m.src + from * s + j * s ≡ m.src + (from + j) * s = omega arith in
    rw (dst, src, part_share m.size from count j m.bytes below, last) refl

-- a word before the last one is not the last
not_last : (eom : Bool) (j n : ℕ) → j + 1 < n → (eom && (j + 1 == n)) ≡ false
not_last eom j n below =
    let other : (j + 1 == n) ≡ false = grind (arith, nat_tests) in
    rw other (elim eom as (λ v. (v && false) ≡ false) [ true ↦ refl | false ↦ refl ])

-- the last word behind a place is the last of all
last_behind : (eom : Bool) (j n total : ℕ) → n < total → (eom && (j + 1 == total - n)) ≡ (eom && (n + j + 1 == total))
last_behind eom j n total inside =
    let same : (j + 1 == total - n) ≡ (n + j + 1 == total) = grind (arith, nat_tests) in
    rw same refl

-- a message's words are those before a place, and those behind it
pub words_split : (m : Message) (n : ℕ) → n < m.count → message_accesses m ≡ message_accesses (part_of m 0 n false) ++ message_accesses (part_of m n (m.count - n) m.eom)
words_split m n inside =
    let all : m.count ≡ n + (m.count - n) = omega arith in
    let front : map (access_at m) (range_with_len 0 n) ≡ message_accesses (part_of m 0 n false) =
    range_agrees (access_at m) (access_at (part_of m 0 n false)) 0 0 n (λ j below.
    let z : 0 + j ≡ j = omega arith in
    rw z (let e = part_word m 0 n j false below (sym (not_last m.eom (0 + j) m.count (omega arith))) in sym (rw z at e))) in
    let back : map (access_at m) (range_with_len (0 + n) (m.count - n)) ≡ message_accesses (part_of m n (m.count - n) m.eom) =
    range_agrees (access_at m) (access_at (part_of m n (m.count - n) m.eom)) (0 + n) 0 (m.count - n) (λ j below.
    let z : 0 + j ≡ j = omega arith in
    let y : 0 + n + j ≡ n + j = omega arith in
    rw (z, y) (sym (part_word m n (m.count - n) j m.eom below (last_behind m.eom j n m.count inside)))) in
    ap (λ k. map (access_at m) (range_with_len 0 k)) all ∙ range_split (access_at m) 0 n (m.count - n) ∙ rw (front, back) refl

le_or : (a b : ℕ) → (a ≤ b) ⊎ (b < a)
le_or a b = grind arith

-- a message of more than one part has more words than fill the width
pub more_than_fit : (width : ℕ) (m : Message) → is_one_part width m ≡ false → words_in width m < m.count
more_than_fit width m h =
    let s = 2 ^ m.size in
    let long : nat_le (message_span m) width ≡ false =
    elim (is_indivisible m) as (λ f. (f || nat_le (message_span m) width) ≡ false → nat_le (message_span m) width ≡ false) [ true ↦ λ h. absurd (cc) | false ↦ λ h. h ] h in
    let wide : width < m.count * s = grind (arith, nat_tests) in
    let least : width / s * s ≤ width = div-mul-le_self width s in
    elim (le_or (m.count) (width / s)) [ inr h ↦ h | inl h ↦ absurd (let more : m.count * s ≤ width / s * s = mul-le-mul_right s h in omega arith) ]

words_of_parts : (n width : ℕ) (m : Message) → flat_map message_accesses (parts_in n width m) ≡ message_accesses m
words_of_parts zero width m = append-nil (message_accesses m)
words_of_parts (suc n) width m =
    elim (is_one_part width m) as (λ b. is_one_part width m ≡ b → flat_map message_accesses (if b then m ∷ [] else first_part width m ∷ parts_in n width (other_parts width m)) ≡ message_accesses m) [
      | true ↦ λ h. append-nil (message_accesses m)
      | false ↦ λ h. rw (words_of_parts n width (other_parts width m)) (sym (words_split m (words_in width m) (more_than_fit width m h)))
    ] refl

-- cutting keeps the words
pub words_of_cut : (width : ℕ) (m : Message) → flat_map message_accesses (cut_parts width m) ≡ message_accesses m
words_of_cut width m = words_of_parts m.count width m
