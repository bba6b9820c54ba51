-- The packets of a transaction, place by place: packet k has the words from k * w on, where w words fill a packet.
use Rattle.std.proofs.Common.{◌≡◌, ◌≤◌, ◌<◌, ℕ, zero, suc, ◌+◌, ◌-◌, ◌*◌, ◌^◌, List, length, refl, ap, sym, ◌∙◌, arith, take, drop, true, false, Bool, Some, inl, inr}
use Rattle.std.specs.Prelude.{min, ◌/◌, nat_le, ◌&&◌, ◌||◌, slice_get}
use Rattle.std.specs.Int.{div_ceil}
use Rattle.std.proofs.Math.Nat.{mul-le-mul_right}
use Rattle.std.proofs.Math.Pow.{pow_pos}
use Rattle.std.proofs.lemmas.List.{drop-take, take-take, drop-drop, length-take, take_all}
use Rattle.std.proofs.lemmas.Grind.{div_ceil_times}
use Rattle.std.proofs.lemmas.Bool.{cases_lt}
use Rattle.std.proofs.lemmas.Bool.Decides.{nat_tests}
use Rattle.sb_packet.specs.Messages.{Message, message_span}
use Rattle.sb_packet.specs.Cuts.{part_of, first_part, other_parts, words_in, is_one_part, is_atomic, is_indivisible, cut_parts}
use Rattle.sb_packet.specs.Scripts.{request_message, request_of, HasBody, IsOneWordIfAtomic, IsTransaction}
use Rattle.sb_packet.specs.declared.transaction.Kind.{Kind}
use Rattle.sb_packet.specs.declared.transaction.Kind.TheVariants.{Read, Write, Posted, Atomic}
use Rattle.sb_packet.specs.declared.transaction.Txn.{Txn}
use Rattle.sb_packet.proofs.CutSteps.{cut_of_one, cut_of_more}

-- A message whose words fill parts of that width with nothing between them. It has words, no bytes behind them, and
-- where it is never cut it is no longer than a part.
pub record IsEven (width : ℕ) (m : Message) : Type 0 where
  pub some : 0 < m.count
  pub word : 0 < words_in width m
  pub full : words_in width m * 2 ^ m.size ≡ width
  pub short : length m.bytes ≤ message_span m
  pub whole : is_indivisible m ≡ true → m.count ≤ words_in width m

-- part k: it has as many words as are left, but no more than fill the width, and the last ends what the message ends
abbrev pub part_at : ℕ → ℕ → Message → Message
part_at width k m =
    let w = words_in width m in
    let left = m.count - k * w in
    part_of m (k * w) (min left w) (m.eom && nat_le left w)

-- an even message is one part where its words fit the width
one_part : (width : ℕ) (m : Message) → IsEven width m → m.count ≤ words_in width m → is_one_part width m ≡ true
one_part width m is fits =
    let s = 2 ^ m.size in
    let full : words_in width m * s ≡ width = is.full in
    let more : m.count * s ≤ words_in width m * s = mul-le-mul_right s fits in
    let narrow : nat_le (message_span m) width ≡ true = grind (arith, nat_tests) in
    rw narrow (elim (is_indivisible m) as (λ b. (b || true) ≡ true) [ true ↦ refl | false ↦ refl ])

-- and more than one where they don't
more_parts : (width : ℕ) (m : Message) → IsEven width m → words_in width m < m.count → is_one_part width m ≡ false
more_parts width m is more =
    let s = 2 ^ m.size in
    let some : 0 < s = pow_pos m.size in
    let full : words_in width m * s ≡ width = is.full in
    let least : (words_in width m + 1) * s ≤ m.count * s = mul-le-mul_right s (omega arith) in
    let wide : nat_le (message_span m) width ≡ false = grind (arith, nat_tests) in
    rw wide (elim (is_indivisible m) as (λ b. is_indivisible m ≡ b → (b || false) ≡ false) [
      | true ↦ λ h. let no_more : m.count ≤ words_in width m = is.whole h in absurd (omega arith)
      | false ↦ λ h. refl
    ] refl)

-- what is left behind the first part is even, too
even_rest : (width : ℕ) (m : Message) → IsEven width m → words_in width m < m.count → IsEven width (other_parts width m)
even_rest width m is more =
    let w = words_in width m in
    let left = (m.count - w) * 2 ^ m.size in
    record {
      some = omega arith;
      word = is.word;
      full = is.full;
      short = rw length-take (omega arith);
      whole = λ h. let few : m.count ≤ w = is.whole h in omega arith;
    }

-- the bytes of some words of what is left behind the first are those of words of the whole
bytes_of_rest : (s first from count total : ℕ) (bytes : List ℕ) → from + count ≤ total - first
    → take (count * s) (drop (from * s) (take ((total - first) * s) (drop (first * s) bytes))) ≡ take (count * s) (drop ((first + from) * s) bytes)
bytes_of_rest s first from count total bytes within =
    let inside : (from + count) * s ≤ (total - first) * s = mul-le-mul_right s within in
    let room : (total - first) * s ≡ from * s + ((total - first) * s - from * s) = omega (arith, inside) in
    let fits : count * s ≤ (total - first) * s - from * s = omega (arith, inside) in
    let place : first * s + from * s ≡ (first + from) * s = omega arith in
    rw room (rw drop-take (rw take-take (rw drop-drop (rw place refl))))

-- a part of what is left is a part of the message
part_of_rest : (width : ℕ) (m : Message) (from count : ℕ) (eom : Bool) → from + count ≤ m.count - words_in width m
    → part_of (other_parts width m) from count eom ≡ part_of m (words_in width m + from) count eom
part_of_rest width m from count eom within =
    let s = 2 ^ m.size in
    let w = words_in width m in
    let dst : m.dst + w * s + from * s ≡ m.dst + (w + from) * s = omega arith in
    let src : m.src + w * s + from * s ≡ m.src + (w + from) * s = omega arith in
    rw (dst, src, bytes_of_rest s w from count m.count m.bytes within) refl

-- a message is the part that has all its words
part_of_all : (m : Message) → length m.bytes ≤ message_span m → part_of m 0 m.count m.eom ≡ m
part_of_all m short =
    let s = 2 ^ m.size in
    let dst : m.dst + 0 * s ≡ m.dst = omega arith in
    let src : m.src + 0 * s ≡ m.src = omega arith in
    let nothing : 0 * s ≡ 0 = omega arith in
    let bytes : take (m.count * s) (drop (0 * s) m.bytes) ≡ m.bytes = rw nothing (take_all (m.count * s) m.bytes short) in
    rw (dst, src, bytes) refl

and_true : (b : Bool) → (b && true) ≡ b
and_true true = refl
and_true false = refl

and_false : (b : Bool) → (b && false) ≡ false
and_false true = refl
and_false false = refl

-- part 0 of a message that is one part is the message
only_part : (width : ℕ) (m : Message) → IsEven width m → m.count ≤ words_in width m → part_at width 0 m ≡ m
only_part width m is fits =
    let w = words_in width m in
    let place : 0 * w ≡ 0 = omega arith in
    let left : m.count - 0 ≡ m.count = omega arith in
    let all : min m.count w ≡ m.count = omega arith in
    let last : nat_le m.count w ≡ true = grind (arith, nat_tests) in
    rw (place, left, all, last, and_true m.eom) (part_of_all m is.short)

-- part 0 of any other is its first part
part_before_others : (width : ℕ) (m : Message) → words_in width m < m.count → part_at width 0 m ≡ first_part width m
part_before_others width m more =
    let w = words_in width m in
    let place : 0 * w ≡ 0 = omega arith in
    let left : m.count - 0 ≡ m.count = omega arith in
    let full : min m.count w ≡ w = omega arith in
    let not_last : nat_le m.count w ≡ false = grind (arith, nat_tests) in
    rw (place, left, full, not_last, and_false m.eom) refl

-- the part behind part k is part k of what is left behind the first part
part_at_rest : (k width : ℕ) (m : Message) → suc k * words_in width m < m.count → part_at width k (other_parts width m) ≡ part_at width (suc k) m
part_at_rest k width m inside =
    let w = words_in width m in
    let next : suc k * w ≡ w + k * w = omega arith in
    let left : m.count - w - k * w ≡ m.count - suc k * w = omega arith in
    let within : k * w + min (m.count - suc k * w) w ≤ m.count - w = omega (arith, inside, next) in
    rw (left, part_of_rest width m (k * w) (min (m.count - suc k * w) w) (m.eom && nat_le (m.count - suc k * w) w) within, ← next) refl

-- The parts of an even message, by their places.
pub slice_get-cut_parts : (k width : ℕ) (m : Message) → IsEven width m → k * words_in width m < m.count → slice_get (cut_parts width m) k ≡ Some (part_at width k m)
slice_get-cut_parts zero width m is inside = elim (cases_lt (words_in width m) m.count) [
  | inr fits ↦ rw (cut_of_one width m (one_part width m is fits)) (ap (λ (p : Message). Some p) (sym (only_part width m is fits)))
  | inl more ↦ rw (cut_of_more width m is.word (more_parts width m is more)) (ap (λ (p : Message). Some p) (sym (part_before_others width m more)))
]
slice_get-cut_parts (suc k) width m is inside =
    let w = words_in width m in
    let next : suc k * w ≡ w + k * w = omega arith in
    let more : w < m.count = omega (arith, inside, next) in
    let within : k * w < m.count - w = omega (arith, inside, next) in
    rw (cut_of_more width m is.word (more_parts width m is more))
    (slice_get-cut_parts k width (other_parts width m) (even_rest width m is more) within ∙ ap (λ (p : Message). Some p) (part_at_rest k width m inside))

-- They are as many as it takes to hold the message's words.
pub length-cut_parts : (n width : ℕ) (m : Message) → IsEven width m → m.count ≤ n * words_in width m → n * words_in width m < m.count + words_in width m → length (cut_parts width m) ≡ n
length-cut_parts zero width m is enough least = let some : 0 < m.count = is.some in absurd (omega (arith, enough, some))
length-cut_parts (suc n) width m is enough least =
    let w = words_in width m in
    let next : suc n * w ≡ w + n * w = omega arith in
    elim (cases_lt w m.count) [
      | inr fits ↦
          let short : n * w < w = omega (arith, least, next, fits) in
          let none : 0 ≡ n = none_of n w short in
          rw (cut_of_one width m (one_part width m is fits)) (ap (λ (x : ℕ). suc x) none)
      | inl more ↦
          rw (cut_of_more width m is.word (more_parts width m is more))
          (ap (λ (x : ℕ). suc x) (length-cut_parts n width (other_parts width m) (even_rest width m is more) (omega (arith, enough, next)) (omega (arith, least, next, more))))
    ]
  where
    none_of : (n w : ℕ) → n * w < w → 0 ≡ n
    none_of zero w short = refl
    none_of (suc n) w short = absurd (omega arith)

-- words of 1 to 8 bytes fill 32 bytes, at least four of them
pub words_fill : (size : ℕ) → size ≤ 3 → 32 / 2 ^ size * 2 ^ size ≡ 32
words_fill zero h = refl
words_fill (suc zero) h = refl
words_fill (suc (suc zero)) h = refl
words_fill (suc (suc (suc zero))) h = refl
words_fill (suc (suc (suc (suc n)))) h = absurd (omega arith)

pub words_are_some : (size : ℕ) → size ≤ 3 → 4 ≤ 32 / 2 ^ size
words_are_some zero h = omega arith
words_are_some (suc zero) h = omega arith
words_are_some (suc (suc zero)) h = omega arith
words_are_some (suc (suc (suc zero))) h = omega arith
words_are_some (suc (suc (suc (suc n)))) h = absurd (omega arith)

-- a transaction has no bytes behind its words
body_is_short : (k : Kind) (span : ℕ) (body : List ℕ) → HasBody k span body → length body ≤ span
body_is_short Read span body h = rw h (omega arith)
body_is_short Write span body h = omega arith
body_is_short Posted span body h = omega arith
body_is_short (Atomic type) span body h = omega arith

-- an atomic is one word
atomic_is_short : (k : Kind) (count words : ℕ) → IsOneWordIfAtomic k count → 0 < words → (is_atomic (request_of k) || false) ≡ true → count ≤ words
atomic_is_short Read count words h some e = absurd (cc)
atomic_is_short Write count words h some e = absurd (cc)
atomic_is_short Posted count words h some e = absurd (cc)
atomic_is_short (Atomic atomic) count words h some e = omega (arith, h)

-- a transaction is an even message
pub transaction_is_even : (id qos prot i : ℕ) (t : Txn) → IsTransaction t → IsEven 32 (request_message id qos prot i t)
transaction_is_even id qos prot i t is =
    let some : 4 ≤ 32 / 2 ^ t.size = words_are_some t.size is.size in
    record {
      some = is.some;
      word = omega (arith, some);
      full = words_fill t.size is.size;
      short = body_is_short t.kind (t.count * 2 ^ t.size) t.body is.body;
      whole = atomic_is_short t.kind t.count (32 / 2 ^ t.size) is.atomic (omega (arith, some));
    }

-- A transaction is as many packets as it takes to hold its words, where so many words fill a packet.
pub packets_number : (id qos prot i limit words : ℕ) (t : Txn) → limit ≡ 32 → words ≡ limit / 2 ^ t.size → IsTransaction t
    → div_ceil t.count words ≡ length (cut_parts limit (request_message id qos prot i t))
packets_number id qos prot i limit words t is_32 fill is =
    let w = 32 / 2 ^ t.size in
    let some : 4 ≤ w = words_are_some t.size is.size in
    let bounds = div_ceil_times t.count w (omega (arith, some)) in
    rw (fill, is_32) (sym (length-cut_parts (div_ceil t.count w) 32 (request_message id qos prot i t) (transaction_is_even id qos prot i t is) bounds.0 bounds.1))

-- Packet k begins within the transaction.
pub packet_begins : (k id qos prot i limit words : ℕ) (t : Txn) → limit ≡ 32 → words ≡ limit / 2 ^ t.size → IsTransaction t
    → k < length (cut_parts limit (request_message id qos prot i t)) → k * words < t.count
packet_begins k id qos prot i limit words t is_32 fill is below =
    let n = div_ceil t.count words in
    let some : 4 ≤ words = rw (fill, is_32) (words_are_some t.size is.size) in
    let bounds = div_ceil_times t.count words (omega (arith, some)) in
    let number : n ≡ length (cut_parts limit (request_message id qos prot i t)) = packets_number id qos prot i limit words t is_32 fill is in
    let inside : k + 1 ≤ n = rw number (omega (arith, below)) in
    let more : (k + 1) * words ≤ n * words = mul-le-mul_right words inside in
    let least : n * words < t.count + words = bounds.1 in
    omega (arith, more, least)

-- Packet k has the words of the transaction at its place.
pub packet_at : (k id qos prot i limit words : ℕ) (t : Txn) → limit ≡ 32 → words ≡ limit / 2 ^ t.size → IsTransaction t
    → k * words < t.count
    → slice_get (cut_parts limit (request_message id qos prot i t)) k
    ≡ Some (part_of (request_message id qos prot i t) (k * words) (min (t.count - k * words) words) (nat_le (t.count - k * words) words))
packet_at k id qos prot i limit words t is_32 fill is inside =
    let m = request_message id qos prot i t in
    let begins : k * (32 / 2 ^ t.size) < t.count = rw (fill, is_32) at inside in
    rw (fill, is_32) (slice_get-cut_parts k 32 m (transaction_is_even id qos prot i t is) begins)

-- A packet ends within its transaction.
pub packet_ends : (addr from words count size : ℕ) → from + words ≤ count → addr + from * 2 ^ size + words * 2 ^ size ≤ addr + count * 2 ^ size
packet_ends addr from words count size inside = let more : (from + words) * 2 ^ size ≤ count * 2 ^ size = mul-le-mul_right (2 ^ size) inside in omega (arith, more)
