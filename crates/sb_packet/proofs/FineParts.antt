-- Parts of a sound whole message are sound, whole and narrow. So are the packets of a transaction.
use Rattle.std.proofs.Common.{◌≡◌, ◌≤◌, ◌<◌, ℕ, zero, suc, ◌+◌, ◌-◌, ◌*◌, ◌%◌, ◌/◌, ◌^◌, List, [], ◌∷◌, ap, ◌∙◌, refl, arith, length, false, true, Bool, inl, inr, None}
use Rattle.std.specs.Prelude.{nat_le, ◌||◌, ◌⊎◌, All, if◌then◌else◌}
use Rattle.std.proofs.Math.Nat.{pow-le-pow_right, mul-le-mul_right, div-mul-le_self}
use Rattle.std.proofs.lemmas.List.{length-take, length-drop}
use Rattle.std.proofs.lemmas.List.Elements.{All-nil, All-cons}
use Rattle.std.proofs.lemmas.Bool.{leb-true}
use Rattle.sb_packet.specs.Messages.{Message, message_of, message_span}
use Rattle.sb_packet.specs.Spans.{carried_by, span_of}
use Rattle.sb_packet.specs.Cuts.{IsFine, IsSound, IsWhole, cut_parts, first_part, is_atomic, is_indivisible, is_one_part, other_parts, part_of, parts_in, words_in}
use Rattle.sb_packet.specs.Journals.{is_request}
use Rattle.sb_packet.specs.Scripts.{IsTransaction, HasBody, IsOneWordIfAtomic, request_of, atomic_of_kind, request_message}
use Rattle.sb_packet.specs.declared.packet.Packet.{Packet}
use Rattle.sb_packet.specs.declared.transaction.Txn.{Txn}
use Rattle.sb_packet.specs.declared.transaction.Kind.{Kind}
use Rattle.sb_packet.specs.declared.transaction.Kind.TheVariants.{Read, Write, Posted, Atomic}
use Rattle.sb_packet.proofs.CutWords.{more_than_fit}
use Rattle.sb_packet.proofs.Opcodes.{some_words, atomic_of_one_word, no_atomic, carries_none_or_all}
use Rattle.sb_packet.proofs.ReplyAddresses.{span_of_transaction}
use Rattle.sb_packet.proofs.SoundParts.{sound_first, sound_others}

-- a part of a message that is no atomic
whole_part : (m : Message) (from count : ℕ) (eom : Bool) → IsWhole m → is_atomic m.op ≡ false → 0 < count → from + count ≤ m.count → IsWhole (part_of m from count eom)
whole_part m from count eom whole other some within =
    let s = 2 ^ m.size in
    let all : (from + count) * s ≤ m.count * s = mul-le-mul_right s within in
    let split : (from + count) * s ≡ from * s + count * s = omega arith in
    let long : length m.bytes ≡ carried_by m.op (m.count * s) = whole.carried in
    record {
      some = some;
      size = whole.size;
      carried = elim (carries_none_or_all m.op) [
        | inl none ↦ (let empty : length m.bytes ≡ 0 = long ∙ none (m.count * s) in rw (none (count * s), length-take, length-drop) (omega (arith, empty)))
        | inr each ↦ (let full : length m.bytes ≡ m.count * s = long ∙ each (m.count * s) in rw (each (count * s), length-take, length-drop) (omega (arith, full, all, split)))
      ];
      single = λ atomic. absurd (cc);
      plain = whole.plain;
    }

-- a message of more than one part is no atomic
not_atomic : (width : ℕ) (m : Message) → is_one_part width m ≡ false → is_atomic m.op ≡ false
not_atomic width m h = first (is_atomic m.op) m.ex (nat_le (message_span m) width) h where
  first : (a b c : Bool) → (a || b || c) ≡ false → a ≡ false
  first false b c h = refl
  first true b c h = absurd (cc)

-- a word has at most 8 bytes
small_word : (m : Message) → IsWhole m → 2 ^ m.size ≤ 8
small_word m whole = let small : 2 ^ m.size ≤ 2 ^ 3 = pow-le-pow_right (omega arith) whole.size in small

either : (a b : Bool) → (a || b) ≡ true → (a ≡ true) ⊎ (b ≡ true)
either true b h = inl refl
either false b h = inr h

-- what is never cut is one word
one_word : (m : Message) → IsSound m → IsWhole m → is_indivisible m ≡ true → m.count ≡ 1
one_word m sound whole h = elim (either (is_atomic m.op) m.ex h) [ inl atomic ↦ whole.single atomic | inr exclusive ↦ sound.exclusive exclusive ]

-- a message that is one part is no wider than a width that takes 8 bytes
one_part_is_narrow : (width : ℕ) (m : Message) → 8 ≤ width → IsSound m → IsWhole m → is_one_part width m ≡ true → message_span m ≤ width
one_part_is_narrow width m wide sound whole h =
    elim (either (is_indivisible m) (nat_le (message_span m) width) h) [
      | inl fixed ↦ (let bytes : m.count * 2 ^ m.size ≡ 1 * 2 ^ m.size = ap (λ (n : ℕ). n * 2 ^ m.size) (one_word m sound whole fixed) in omega (arith, bytes, small_word m whole))
      | inr fits ↦ leb-true (message_span m) width fits
    ]

fine_parts_in : (n width : ℕ) (m : Message) → m.count ≤ n → 8 ≤ width → 0 < words_in width m → IsSound m → IsWhole m → All (IsFine width) (parts_in n width m)
fine_parts_in zero width m few wide some sound whole = let more : 0 < m.count = whole.some in absurd (omega (arith, more, few))
fine_parts_in (suc n) width m few wide some sound whole =
    elim (is_one_part width m) as (λ one. is_one_part width m ≡ one → All (IsFine width) (if one then m ∷ [] else first_part width m ∷ parts_in n width (other_parts width m))) [
      | true ↦ λ h. All-cons (IsFine width) m [] (record { sound = sound; whole = whole; narrow = one_part_is_narrow width m wide sound whole h }) (All-nil (IsFine width))
      | false ↦ λ h.
          let below : words_in width m < m.count = more_than_fit width m h in
          let other : is_atomic m.op ≡ false = not_atomic width m h in
          All-cons (IsFine width) (first_part width m) (parts_in n width (other_parts width m))
          (record {
            sound = sound_first width m sound h some;
            whole = whole_part m 0 (words_in width m) false whole other some (omega arith);
            narrow = div-mul-le_self width (2 ^ m.size);
          })
          (fine_parts_in n width (other_parts width m) (omega arith) wide some (sound_others width m sound h)
          (whole_part m (words_in width m) (m.count - words_in width m) m.eom whole other (omega arith) (omega arith)))
    ] refl

-- a word fits a width that takes 8 bytes
word_fits : (width size : ℕ) → 8 ≤ width → size ≤ 3 → 0 < width / 2 ^ size
word_fits width zero wide small = omega arith
word_fits width (suc zero) wide small = omega arith
word_fits width (suc (suc zero)) wide small = omega arith
word_fits width (suc (suc (suc zero))) wide small = omega arith
word_fits width (suc (suc (suc (suc n)))) wide small = absurd (omega arith)

-- each part of a sound whole message may go over a link of the width at which it was cut
pub fine_cut : (width : ℕ) (m : Message) → 8 ≤ width → IsSound m → IsWhole m → All (IsFine width) (cut_parts width m)
fine_cut width m wide sound whole = fine_parts_in m.count width m (omega arith) wide (word_fits width m.size wide whole.size) sound whole

-- what a packet says is whole
pub packet_whole : (p : Packet) → IsWhole (message_of p)
packet_whole p =
    let long : length p.body ≡ 32 = p.whole in
    let fits : span_of p.cmd ≤ 32 = p.fits in
    record {
      some = some_words p.cmd.op p.cmd.len;
      size = p.cmd.size_fits;
      carried = elim (carries_none_or_all p.cmd.op) [
        | inl none ↦ rw (none (span_of p.cmd), length-take) (omega arith)
        | inr all ↦ rw (all (span_of p.cmd), length-take) (omega (arith, long, fits))
      ];
      single = atomic_of_one_word p.cmd.op p.cmd.len;
      plain = no_atomic p.cmd.op p.cmd.len;
    }

-- a script asks by requests
asks : (k : Kind) → is_request (request_of k) ≡ true
asks Read = refl
asks Write = refl
asks Posted = refl
asks (Atomic atomic) = refl

body_carried : (k : Kind) (span : ℕ) (body : List ℕ) → HasBody k span body → length body ≡ carried_by (request_of k) span
body_carried Read span body has = ap length has
body_carried Write span body has = has
body_carried Posted span body has = has
body_carried (Atomic atomic) span body has = has

atomic_of_one : (k : Kind) (count : ℕ) → IsOneWordIfAtomic k count → is_atomic (request_of k) ≡ true → count ≡ 1
atomic_of_one Read count is h = absurd (cc)
atomic_of_one Write count is h = absurd (cc)
atomic_of_one Posted count is h = absurd (cc)
atomic_of_one (Atomic atomic) count is h = is

no_atomic_of_kind : (k : Kind) → is_atomic (request_of k) ≡ false → atomic_of_kind k ≡ None
no_atomic_of_kind Read h = refl
no_atomic_of_kind Write h = refl
no_atomic_of_kind Posted h = refl
no_atomic_of_kind (Atomic atomic) h = absurd (cc)

-- a transaction as one message is sound
pub transaction_sound : (id qos prot i : ℕ) (t : Txn) → IsTransaction t → i < 65536 → IsSound (request_message id qos prot i t)
transaction_sound id qos prot i t is few =
    let short : t.count * 2 ^ t.size ≤ 2048 = span_of_transaction t is in
    let page : t.addr % 4096 + t.count * 2 ^ t.size ≤ 4096 = is.page in
    record {
      page = rw (asks t.kind) page;
      border = λ h. absurd (cc);
      low = rw (asks t.kind) (omega arith);
      high = rw (asks t.kind) (omega (arith, short, few));
      exclusive = λ h. absurd (cc);
    }

-- and whole
pub transaction_whole : (id qos prot i : ℕ) (t : Txn) → IsTransaction t → IsWhole (request_message id qos prot i t)
transaction_whole id qos prot i t is = record {
  some = is.some;
  size = is.size;
  carried = body_carried t.kind (t.count * 2 ^ t.size) t.body is.body;
  single = atomic_of_one t.kind t.count is.atomic;
  plain = no_atomic_of_kind t.kind;
}
