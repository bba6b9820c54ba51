-- A slot: what goes over a ring, as eight numbers of 64 bits. This project's own.
use Rattle.std.specs.Prelude.{ℕ, ◌≡◌, ◌+◌, ◌*◌, ◌/◌, ◌%◌, ◌^◌, List, [], ◌∷◌, ◌++◌, take, drop, length, replicate, slice_index}
use Rattle.sb_word.specs.Words.{word_of, IsWordOf}
use Rattle.sb_packet.specs.Memories.{number_of, bytes_of_number}
use Rattle.sb_packet.specs.declared.packet.Packet.{Packet}
use Rattle.sb_packet.specs.declared.item.Item.{Item}
use Rattle.sb_packet.specs.declared.item.Item.TheVariants as items

-- the first number's low half, which is the command word
abbrev pub word_in : List ℕ → ℕ
word_in slot = slice_index slot 0 % 2 ^ 32

-- the first number's high half, which says what the slot holds: 1 is a packet, and 2 a Close
abbrev pub flag_in : List ℕ → ℕ
flag_in slot = slice_index slot 0 / 2 ^ 32

-- the eight bytes of a number of 64 bits, the lowest first
unfoldable pub number_bytes : ℕ → List ℕ
number_bytes n = bytes_of_number 8 n

-- the body: the bytes of numbers 3 to 6
abbrev pub body_in : List ℕ → List ℕ
body_in slot =
    number_bytes (slice_index slot 3) ++ number_bytes (slice_index slot 4)
    ++ number_bytes (slice_index slot 5) ++ number_bytes (slice_index slot 6)

-- eight numbers are a packet's slot
pub record IsPacketSlot (slot : List ℕ) (p : Packet) : Type 0 where
  pub count : length slot ≡ 8
  pub word : IsWordOf (word_in slot) p.cmd
  pub flag : flag_in slot ≡ 1
  pub dst : slice_index slot 1 ≡ p.dst
  pub src : slice_index slot 2 ≡ p.src
  pub body : body_in slot ≡ p.body
  pub reserved : slice_index slot 7 ≡ 0

-- Eight numbers are an item's slot; a Close has nothing but its flag.
abbrev pub IsSlotOf : List ℕ → Item → Type 0
IsSlotOf slot (items.Packet p) = IsPacketSlot slot p
IsSlotOf slot items.Close = slot ≡ (2 * 2 ^ 32) ∷ replicate 7 0

-- eight bytes of a body as a number, from one place on
abbrev pub body_number : ℕ → List ℕ → ℕ
body_number place body = number_of (take 8 (drop place body))

-- An item's slot, number by number.
abbrev pub slot_of : Item → List ℕ
slot_of (items.Packet p) =
    (word_of p.cmd + 2 ^ 32) ∷ p.dst ∷ p.src
    ∷ body_number 0 p.body ∷ body_number 8 p.body ∷ body_number 16 p.body ∷ body_number 24 p.body ∷ 0 ∷ []
slot_of items.Close = (2 * 2 ^ 32) ∷ replicate 7 0
