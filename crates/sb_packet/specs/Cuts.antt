-- How a message is cut into parts that speak of at most so many bytes, and which messages links may carry.
use Rattle.std.specs.Prelude.{ℕ, zero, suc, ◌+◌, ◌-◌, ◌*◌, ◌/◌, ◌^◌, Bool, true, false, ◌||◌, nat_le, List, [], ◌∷◌, take, drop, if◌then◌else◌, ◌≡◌, ◌≢◌, ◌≤◌, ◌<◌, ◌%◌, None, length}
use Rattle.sb_word.specs.declared.command.Op.{Op}
use Rattle.sb_word.specs.declared.command.Op.TheVariants.{ReqAtomic, ReqRd, ReqWr, ReqWrPosted, RespRd, RespWr}
use Rattle.sb_packet.specs.Messages.{Message, message_span}
use Rattle.sb_packet.specs.Networks.{NetHost}
use Rattle.sb_packet.specs.Scripts.{transaction_message}
use Rattle.sb_packet.specs.declared.transaction.Txn.{Txn}
use Rattle.sb_packet.specs.Spans.{carried_by}
use Rattle.sb_packet.specs.Journals.{address_at_device, is_request}

-- the opcode of an atomic
abbrev pub is_atomic : Op → Bool
is_atomic ReqAtomic = true
is_atomic ReqRd = false
is_atomic ReqWr = false
is_atomic ReqWrPosted = false
is_atomic RespRd = false
is_atomic RespWr = false

-- an atomic is never cut, nor is an exclusive access
abbrev pub is_indivisible : Message → Bool
is_indivisible m = is_atomic m.op || m.ex

-- so many words of a message, from word `from` on, as a message of their own
abbrev pub part_of : Message → ℕ → ℕ → Bool → Message
part_of m from count eom = record m {
  dst = m.dst + from * 2 ^ m.size;
  src = m.src + from * 2 ^ m.size;
  count = count;
  bytes = take (count * 2 ^ m.size) (drop (from * 2 ^ m.size) m.bytes);
  eom = eom;
}

-- how many words fill a width
abbrev pub words_in : ℕ → Message → ℕ
words_in width m = width / 2 ^ m.size

-- the part that fills the width, which doesn't end the transaction
abbrev pub first_part : ℕ → Message → Message
first_part width m = part_of m 0 (words_in width m) false

-- what is left behind the part that fills the width; it ends the transaction where the message did
abbrev pub other_parts : ℕ → Message → Message
other_parts width m = part_of m (words_in width m) (m.count - words_in width m) m.eom

-- the message is one part
abbrev pub is_one_part : ℕ → Message → Bool
is_one_part width m = is_indivisible m || nat_le (message_span m) width

-- at most so many parts and one more
abbrev pub parts_in : ℕ → ℕ → Message → List Message
parts_in zero width m = m ∷ []
parts_in (suc n) width m = if is_one_part width m then m ∷ [] else first_part width m ∷ parts_in n width (other_parts width m)

-- The parts of a message that speak of at most `width` bytes each, in order. Where a word fits the width, there are no more parts than words.
abbrev pub cut_parts : ℕ → Message → List Message
cut_parts width m = parts_in m.count width m

-- The packets of transaction i of a host: parts of at most 32 bytes.
abbrev pub transaction_packets : NetHost → ℕ → Txn → List Message
transaction_packets host i t = cut_parts 32 (transaction_message host i t)

-- What links may carry: messages that are sound, whole and narrow. This project's own.

-- the address at the device of a message
abbrev pub device_place : Message → ℕ
device_place m = address_at_device m.op m.dst m.src

-- the other address: where the answer to a request goes, and where an answer itself goes
abbrev pub reply_place : Message → ℕ
reply_place m = if is_request m.op then m.src else m.dst

-- A message is sound by where its bytes lie, at the device and where they are answered.
pub record IsSound (m : Message) : Type 0 where
  -- at the device its bytes lie in one page of 4,096
  pub page : device_place m % 4096 + message_span m ≤ 4096
  -- where it doesn't end its transaction they don't end at a page's border, so more of that page may follow
  pub border : m.eom ≡ false → (device_place m + message_span m) % 4096 ≢ 0
  -- where they are answered they lie within the 2 ^ 40 addresses of its host
  pub low : m.host * 2 ^ 40 ≤ reply_place m
  pub high : reply_place m + message_span m ≤ (m.host + 1) * 2 ^ 40
  -- an exclusive access is to one word
  pub exclusive : m.ex ≡ true → m.count ≡ 1

-- A message is whole where its fields belong together, as those of each packet do.
pub record IsWhole (m : Message) : Type 0 where
  -- it has a word, of at most 8 bytes
  pub some : 0 < m.count
  pub size : m.size ≤ 3
  -- it carries as many bytes as its opcode carries of what it speaks of
  pub carried : length m.bytes ≡ carried_by m.op (message_span m)
  -- an atomic has one word, and nothing else is one of the atomics
  pub single : is_atomic m.op ≡ true → m.count ≡ 1
  pub plain : is_atomic m.op ≡ false → m.atomic ≡ None

-- What a link of that width may carry.
pub record IsFine (width : ℕ) (m : Message) : Type 0 where
  pub sound : IsSound m
  pub whole : IsWhole m
  -- it speaks of no more bytes than the width
  pub narrow : message_span m ≤ width
