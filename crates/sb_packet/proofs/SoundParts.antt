-- Parts of a sound message are sound.
use Rattle.std.proofs.Common.{◌≡◌, ◌≤◌, ◌<◌, ℕ, zero, suc, ◌+◌, ◌-◌, ◌*◌, ◌%◌, ◌^◌, [], ◌∷◌, refl, arith, false, true, Bool}
use Rattle.std.specs.Prelude.{nat_le, ◌||◌, ◌≢◌, All, if◌then◌else◌}
use Rattle.std.proofs.Math.Nat.{mul-le-mul_right}
use Rattle.std.proofs.Math.Pow.{pow_pos}
use Rattle.std.proofs.lemmas.List.Elements.{All-nil, All-cons}
use Rattle.sb_packet.specs.Messages.{Message, message_span}
use Rattle.sb_packet.specs.Cuts.{IsSound, cut_parts, device_place, first_part, is_atomic, is_one_part, other_parts, part_of, parts_in, reply_place, words_in}
use Rattle.sb_packet.specs.Journals.{is_request}
use Rattle.sb_packet.proofs.CutWords.{more_than_fit}

abbrev chosen : Bool → ℕ → ℕ → ℕ
chosen b x y = if b then x else y

-- both addresses are raised alike
raised : (b : Bool) (x y k : ℕ) → chosen b (x + k) (y + k) ≡ chosen b x y + k
raised true x y k = refl
raised false x y k = refl

-- the place of a sum in its page is no more than that of its first number, and the second
page_of_sum : (x y : ℕ) → (x + y) % 4096 ≤ x % 4096 + y
page_of_sum x y = omega arith

-- it is just that where no page ends between
within_page : (x y : ℕ) → x % 4096 + y < 4096 → (x + y) % 4096 ≡ x % 4096 + y
within_page x y h = omega arith

fewer_bytes : (a b size : ℕ) → a < b → a * 2 ^ size < b * 2 ^ size
fewer_bytes a b size h =
    let some : 0 < 2 ^ size = pow_pos size in
    let more : (a + 1) * 2 ^ size ≤ b * 2 ^ size = mul-le-mul_right (2 ^ size) (omega arith) in
    omega (arith, some, more)

-- a part of a message that is no exclusive access: it is sound where it ends the transaction or before a page's border
pub sound_part : (m : Message) (from count : ℕ) (eom : Bool) → IsSound m → m.ex ≡ false → from + count ≤ m.count
    → (eom ≡ false → (device_place m + (from + count) * 2 ^ m.size) % 4096 ≢ 0) → IsSound (part_of m from count eom)
sound_part m from count eom sound plain within border =
    let s = 2 ^ m.size in
    let all : (from + count) * s ≤ m.count * s = mul-le-mul_right s within in
    let split : (from + count) * s ≡ from * s + count * s = omega arith in
    let there : chosen (is_request m.op) (m.dst + from * s) (m.src + from * s) ≡ device_place m + from * s = raised (is_request m.op) m.dst m.src (from * s) in
    let back : chosen (is_request m.op) (m.src + from * s) (m.dst + from * s) ≡ reply_place m + from * s = raised (is_request m.op) m.src m.dst (from * s) in
    let less : (device_place m + from * s) % 4096 ≤ device_place m % 4096 + from * s = page_of_sum (device_place m) (from * s) in
    let ends : device_place m + from * s + count * s ≡ device_place m + (from + count) * s = omega arith in
    let page : device_place m % 4096 + m.count * s ≤ 4096 = sound.page in
    let low : m.host * 2 ^ 40 ≤ reply_place m = sound.low in
    let high : reply_place m + m.count * s ≤ (m.host + 1) * 2 ^ 40 = sound.high in
    record {
      page = rw there (omega (arith, less, page, all));
      border = λ e. rw (there, ends) (border e);
      low = rw back (omega (arith, low));
      high = rw back (omega (arith, high, all));
      exclusive = λ e. absurd (cc);
    }

-- a message of more than one part is no exclusive access
not_exclusive : (width : ℕ) (m : Message) → is_one_part width m ≡ false → m.ex ≡ false
not_exclusive width m h = second (is_atomic m.op) m.ex (nat_le (message_span m) width) h where
  second : (a b c : Bool) → (a || b || c) ≡ false → b ≡ false
  second false false c h = refl
  second false true c h = absurd (cc)
  second true b c h = absurd (cc)

-- the first part ends before the page does, since the rest of the message follows in that page
pub sound_first : (width : ℕ) (m : Message) → IsSound m → is_one_part width m ≡ false → 0 < words_in width m → IsSound (first_part width m)
sound_first width m sound h some =
    let s = 2 ^ m.size in
    let n = words_in width m in
    let below : n < m.count = more_than_fit width m h in
    let less : n * s < m.count * s = fewer_bytes n m.count m.size below in
    let more : 0 * s < n * s = fewer_bytes 0 n m.size some in
    let page : device_place m % 4096 + m.count * s ≤ 4096 = sound.page in
    let none : 0 + n ≡ n = omega arith in
    let exact : (device_place m + n * s) % 4096 ≡ device_place m % 4096 + n * s = within_page (device_place m) (n * s) (omega (arith, page, less)) in
    sound_part m 0 n false sound (not_exclusive width m h) (omega arith) (λ e. rw (none, exact) (λ z. absurd (omega (arith, more, z))))

-- what is left behind it ends where the message ends
pub sound_others : (width : ℕ) (m : Message) → IsSound m → is_one_part width m ≡ false → IsSound (other_parts width m)
sound_others width m sound h =
    let below : words_in width m < m.count = more_than_fit width m h in
    let all : words_in width m + (m.count - words_in width m) ≡ m.count = omega arith in
    sound_part m (words_in width m) (m.count - words_in width m) m.eom sound (not_exclusive width m h) (omega arith) (λ e. rw all (sound.border e))

sound_parts_in : (n width : ℕ) (m : Message) → 0 < words_in width m → IsSound m → All IsSound (parts_in n width m)
sound_parts_in zero width m some sound = All-cons IsSound m [] sound (All-nil IsSound)
sound_parts_in (suc n) width m some sound =
    elim (is_one_part width m) as (λ one. is_one_part width m ≡ one → All IsSound (if one then m ∷ [] else first_part width m ∷ parts_in n width (other_parts width m))) [
      | true ↦ λ h. All-cons IsSound m [] sound (All-nil IsSound)
      | false ↦ λ h. All-cons IsSound (first_part width m) (parts_in n width (other_parts width m)) (sound_first width m sound h some) (sound_parts_in n width (other_parts width m) some (sound_others width m sound h))
    ] refl

-- each part of a sound message is sound, where a word fits the width
pub sound_cut : (width : ℕ) (m : Message) → 0 < words_in width m → IsSound m → All IsSound (cut_parts width m)
sound_cut width m some sound = sound_parts_in m.count width m some sound
