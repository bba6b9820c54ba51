-- The words of a part of a message are words of the message; and where the words of a packet are so, the packet is a part.
use Rattle.std.proofs.Common.{◌≡◌, ◌≤◌, ◌<◌, ℕ, ◌+◌, ◌-◌, ◌*◌, ◌^◌, Bool, true, false, List, ◌++◌, length, get_or, take, drop, refl, ap, sym, ◌∙◌, arith, inl, inr}
use Rattle.std.specs.Bool.{OnFalse, OnTrue}
use Rattle.std.specs.Prelude.{◌==◌, ◌&&◌, bytes_eq, flat_map, map}
use Rattle.std.specs.List.{range_with_len}
use Rattle.std.proofs.lemmas.Bool.{cases_lt, false≢true}
use Rattle.std.proofs.lemmas.Bool.Decides.{nat_tests}
use Rattle.std.proofs.lemmas.List.{drop_at, get_or_append_left, get_or-drop, length-drop, take_all}
use Rattle.std.proofs.lemmas.List.Folds.{flat_map-map}
use Rattle.std.proofs.lemmas.Slice.Eq.{bytes_eq-Decides}
use Rattle.std.proofs.lemmas.List.FromFn.{get_or-map-range_with_len, length-map-range_with_len}
use Rattle.sb_packet.specs.Accesses.{Access, access_at, message_accesses}
use Rattle.sb_packet.specs.Messages.{Message, message_span}
use Rattle.sb_packet.specs.Cuts.{part_of}
use Rattle.sb_packet.proofs.CutWords.{part_word}
use Rattle.sb_packet.proofs.JoinedAnswers.{body_of_message}
use Rattle.sb_packet.proofs.Ranges.{range_agrees, range_split}
use Rattle.sb_packet.proofs.Shares.{shares_joined}
use Rattle.sb_check.specs.Progresses.{IsPartFrom, SharesFields}

-- two texts that compare alike are one, and others aren't
bytes_same : (a b : List ℕ) → bytes_eq a b ≡ true → a ≡ b
bytes_same a b is = grind (arith, bytes_eq-Decides)

bytes_differ : (a b : List ℕ) → bytes_eq a b ≡ false → a ≡ b → ⊥
bytes_differ a b is same = grind (arith, bytes_eq-Decides)

-- a message has as many words as it says
pub word_number : (m : Message) → length (message_accesses m) ≡ m.count
word_number m = length-map-range_with_len (access_at m) 0 m.count

-- its words from one on
pub words_behind : (m : Message) (from : ℕ) → from ≤ m.count → drop from (message_accesses m) ≡ map (access_at m) (range_with_len from (m.count - from))
words_behind m from within =
    let all : m.count ≡ from + (m.count - from) = omega arith in
    let z : 0 + from ≡ from = omega arith in
    let front = map (access_at m) (range_with_len 0 from) in
    let back = map (access_at m) (range_with_len (0 + from) (m.count - from)) in
    let split : message_accesses m ≡ front ++ back = ap (λ (k : ℕ). map (access_at m) (range_with_len 0 k)) all ∙ range_split (access_at m) 0 from (m.count - from) in
    ap (λ (words : List Access). drop from words) split ∙ drop_at front back from (length-map-range_with_len (access_at m) 0 from)
    ∙ ap (λ (k : ℕ). map (access_at m) (range_with_len k (m.count - from))) z

-- a word is the last of a part that ends with the message just where it is the message's last
last_word : (from count total j : ℕ) → j < count → from + count ≤ total → ((from + count == total) && (j + 1 == count)) ≡ (from + j + 1 == total)
last_word from count total j below within = grind (arith, nat_tests)

-- the words of a part are those of the message from its first on
pub part_words : (m part : Message) (from : ℕ) → m.eom ≡ true → IsPartFrom m from part → message_accesses part ≡ map (access_at m) (range_with_len from part.count)
part_words m part from ends is =
    let count = part.count in
    let last = from + count == m.count in
    let z : 0 + from ≡ from = omega arith in
    ap message_accesses is.same
    ∙ range_agrees (access_at (part_of m from count last)) (access_at m) 0 from count (λ j below.
    let y : 0 + j ≡ j = omega arith in
    rw (y) (part_word m from count j last below (last_word from count m.count j below is.within ∙ ap (λ (e : Bool). e && (from + j + 1 == m.count)) (sym ends))))

-- and behind them stand the message's others
pub part_then_others : (m part : Message) (from : ℕ) → m.eom ≡ true → IsPartFrom m from part → drop from (message_accesses m) ≡ message_accesses part ++ drop (from + part.count) (message_accesses m)
part_then_others m part from ends is =
    let within = is.within in
    let rest : m.count - from ≡ part.count + (m.count - (from + part.count)) = omega arith in
    words_behind m from (omega arith)
    ∙ ap (λ (k : ℕ). map (access_at m) (range_with_len from k)) rest ∙ range_split (access_at m) from part.count (m.count - (from + part.count))
    ∙ ap (λ (words : List Access). words ++ map (access_at m) (range_with_len (from + part.count) (m.count - (from + part.count)))) (sym (part_words m part from ends is))
    ∙ ap (λ (words : List Access). message_accesses part ++ words) (sym (words_behind m (from + part.count) within))

-- what has the fields, the place and the bytes of a part is that part
pub part_is : (m part : Message) (from : ℕ) → SharesFields m part → part.dst ≡ m.dst + from * 2 ^ m.size → part.src ≡ m.src + from * 2 ^ m.size → part.bytes ≡ take (part.count * 2 ^ m.size) (drop (from * 2 ^ m.size) m.bytes) → part.eom ≡ (from + part.count == m.count)
    → part ≡ part_of m from part.count (from + part.count == m.count)
part_is m part from shares dst src bytes eom =
    rw (← dst, ← src, ← bytes, ← eom, ← shares.op, ← shares.atomic, ← shares.size, ← shares.host, ← shares.qos, ← shares.prot, ← shares.eof, ← shares.ex, ← shares.tail) refl

-- a packet's words stand at the front of a message's words from one on, with others behind both
module _ (m part : Message) (from : ℕ) (rest behind : List Access) (joined : message_accesses part ++ rest ≡ drop from (message_accesses m) ++ behind) where
  -- word by word they are the same
  same_word : (j : ℕ) → j < part.count → from + j < m.count → access_at part j ≡ access_at m (from + j)
  same_word j in_part in_whole =
      let d = access_at part j in
      let first : get_or (message_accesses part ++ rest) j d ≡ access_at part j =
      get_or_append_left (message_accesses part) rest d j (omega (arith, word_number part)) ∙ get_or-map-range_with_len (access_at part) 0 part.count j j d in_part (omega arith) in
      let second : get_or (drop from (message_accesses m) ++ behind) j d ≡ access_at m (from + j) =
      get_or_append_left (drop from (message_accesses m)) behind d j (omega (arith, word_number m, length-drop from (message_accesses m)))
      ∙ get_or-drop from (message_accesses m) j d ∙ get_or-map-range_with_len (access_at m) 0 m.count (from + j) (from + j) d in_whole (omega arith) in
      sym first ∙ ap (λ (words : List Access). get_or words j d) joined ∙ second

  -- the message ends with its last word, so the packet doesn't go on behind that
  part_within : m.eom ≡ true → from < m.count → from + part.count ≤ m.count
  part_within ends inside = elim (cases_lt m.count (from + part.count)) [
    | inl over ↦
        let j = m.count - from - 1 in
        let here = ap (λ (a : Access). a.last) (same_word j (omega arith) (omega arith)) in
        let last : (from + j + 1 == m.count) ≡ true = let at : from + j + 1 ≡ m.count = omega arith in grind (arith, nat_tests) in
        let more : (j + 1 == part.count) ≡ false = let at : j + 1 < part.count = omega arith in grind (arith, nat_tests) in
        absurd (false≢true (and_false part.eom ∙ ap (λ (b : Bool). part.eom && b) (sym more) ∙ here ∙ ap (λ (b : Bool). b && (from + j + 1 == m.count)) ends ∙ last))
    | inr within ↦ within
  ]
    where
      and_false : (b : Bool) → false ≡ (b && false)
      and_false true = refl
      and_false false = refl

  -- so it is a part
  pub is_part_from : m.eom ≡ true → from < m.count → 0 < part.count → length part.bytes ≤ message_span part → IsPartFrom m from part
  is_part_from ends inside some short =
      let within = part_within ends inside in
      let z : from + 0 ≡ from = omega arith in
      let first : access_at part 0 ≡ access_at m from = rw z at (same_word 0 some (omega arith)) in
      let size : part.size ≡ m.size = ap (λ (a : Access). a.size) first in
      let shares : SharesFields m part = record {
        op = ap (λ (a : Access). a.op) first;
        atomic = ap (λ (a : Access). a.atomic) first;
        size = size;
        host = ap (λ (a : Access). a.host) first;
        qos = ap (λ (a : Access). a.qos) first;
        prot = ap (λ (a : Access). a.prot) first;
        eof = ap (λ (a : Access). a.eof) first;
        ex = ap (λ (a : Access). a.ex) first;
        tail = ap (λ (a : Access). a.tail) first;
      } in
      let dst : part.dst + 0 * 2 ^ part.size ≡ m.dst + from * 2 ^ m.size = ap (λ (a : Access). a.dst) first in
      let src : part.src + 0 * 2 ^ part.size ≡ m.src + from * 2 ^ m.size = ap (λ (a : Access). a.src) first in
      let words : message_accesses part ≡ map (access_at m) (range_with_len from part.count) =
      range_agrees (access_at part) (access_at m) 0 from part.count (λ j below. let y : 0 + j ≡ j = omega arith in rw y (same_word j below (omega arith))) in
      let bytes : part.bytes ≡ take (part.count * 2 ^ m.size) (drop (from * 2 ^ m.size) m.bytes) =
      sym (take_all (message_span part) part.bytes short) ∙ sym (body_of_message part) ∙ ap (flat_map (λ (a : Access). a.bytes)) words
      ∙ flat_map-map (λ (a : Access). a.bytes) (access_at m) (range_with_len from part.count) ∙ shares_joined m.size m.bytes from part.count in
      let j = part.count - 1 in
      let at_last = ap (λ (a : Access). a.last) (same_word j (omega arith) (omega arith)) in
      let own : (j + 1 == part.count) ≡ true = let at : j + 1 ≡ part.count = omega arith in grind (arith, nat_tests) in
      let place : from + j + 1 ≡ from + part.count = omega arith in
      let eom : part.eom ≡ (from + part.count == m.count) =
      and_true part.eom ∙ ap (λ (b : Bool). part.eom && b) (sym own) ∙ at_last ∙ ap (λ (b : Bool). b && (from + j + 1 == m.count)) ends ∙ ap (λ (k : ℕ). k == m.count) place in
      record {
        within = within;
        same = part_is m part from shares (omega arith) (omega arith) bytes eom;
      }
    where
      and_true : (b : Bool) → b ≡ (b && true)
      and_true true = refl
      and_true false = refl

-- a part shares its message's fields, and lies where the words do
pub shares_if_part : (m part : Message) (from : ℕ) → IsPartFrom m from part → SharesFields m part
shares_if_part m part from is = record {
  op = ap (λ (x : Message). x.op) is.same;
  atomic = ap (λ (x : Message). x.atomic) is.same;
  size = ap (λ (x : Message). x.size) is.same;
  host = ap (λ (x : Message). x.host) is.same;
  qos = ap (λ (x : Message). x.qos) is.same;
  prot = ap (λ (x : Message). x.prot) is.same;
  eof = ap (λ (x : Message). x.eof) is.same;
  ex = ap (λ (x : Message). x.ex) is.same;
  tail = ap (λ (x : Message). x.tail) is.same;
}

pub lies_if_part : (m part : Message) (from : ℕ) → IsPartFrom m from part → (part.dst ≡ m.dst + from * 2 ^ m.size) × (part.src ≡ m.src + from * 2 ^ m.size)
lies_if_part m part from is = (ap (λ (x : Message). x.dst) is.same, ap (λ (x : Message). x.src) is.same)

-- what has all else of a part is one just where it has its bytes
pub part_yes : (m part : Message) (from : ℕ) (bytes : List ℕ) (same : Bool) → same ≡ bytes_eq part.bytes bytes → bytes ≡ take (part.count * 2 ^ m.size) (drop (from * 2 ^ m.size) m.bytes) → from + part.count ≤ m.count → part.eom ≡ (from + part.count == m.count)
    → SharesFields m part → (part.dst ≡ m.dst + from * 2 ^ m.size) × (part.src ≡ m.src + from * 2 ^ m.size) → OnTrue same (IsPartFrom m from part)
part_yes m part from bytes true is all within eom shares lies = record { within = within; same = part_is m part from shares lies.0 lies.1 (bytes_same part.bytes bytes (sym is) ∙ all) eom }
part_yes m part from bytes false is all within eom shares lies = tt

pub part_no : (m part : Message) (from : ℕ) (bytes : List ℕ) (same : Bool) → same ≡ bytes_eq part.bytes bytes → bytes ≡ take (part.count * 2 ^ m.size) (drop (from * 2 ^ m.size) m.bytes) → OnFalse same (IsPartFrom m from part → ⊥)
part_no m part from bytes true is all = tt
part_no m part from bytes false is all = λ part_from. bytes_differ part.bytes bytes (sym is) (ap (λ (x : Message). x.bytes) part_from.same ∙ sym all)
