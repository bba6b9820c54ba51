-- What is wrong with a slot that is no item's. This project's own.
use Rattle.std.specs.Prelude.{ℕ, ◌+◌, ◌*◌, ◌/◌, ◌%◌, ◌^◌, ◌||◌, ◌==◌, not, nat_lt, List, [], ◌∷◌, drop, slice_index, Option, Some, None, if◌then◌else◌}
use Rattle.std.specs.List.{position_from}
use Rattle.std.specs.Option.{option_map, option_or}
use Rattle.sb_word.specs.Faults.{word_fault}
use Rattle.sb_packet.specs.Memories.{bytes_of_number}
use Rattle.sb_slot.specs.Slots.{word_in, flag_in, number_bytes, body_in}
use Rattle.sb_slot.specs.declared.item_fault.ItemFault.{ItemFault}
use Rattle.sb_slot.specs.declared.item_fault.ItemFault.TheVariants.{Flag, Word, Bytes, Range, Unaligned, Padding, Reserved}

-- the first fault of several tests
abbrev pub first_of : List (Option ItemFault) → Option ItemFault
first_of [] = None
first_of (fault ∷ rest) = option_or fault (first_of rest)

-- how many words a word's command speaks of: an atomic is of one
abbrev pub word_count_in : ℕ → ℕ
word_count_in word = if word % 2 ^ 5 == 9 then 1 else word / 2 ^ 8 % 2 ^ 8 + 1

-- how many bytes such a word has
abbrev pub size_in : ℕ → ℕ
size_in word = 2 ^ (word / 2 ^ 5 % 2 ^ 3)

-- how many bytes the command speaks of
abbrev pub span_in : ℕ → ℕ
span_in word = word_count_in word * size_in word

-- how many bytes its packet carries: a read and the answer to a write have none
abbrev pub carried_in : ℕ → ℕ
carried_in word = if (word % 2 ^ 5 == 1) || (word % 2 ^ 5 == 4) then 0 else span_in word

-- a packet speaks of at most 32 bytes
abbrev pub bytes_fault : ℕ → Option ItemFault
bytes_fault span = if nat_lt 32 span then Some (Bytes span) else None

-- its bytes lie below 2 ^ 56
abbrev pub range_fault : ℕ → ℕ → Option ItemFault
range_fault span address = if nat_lt (2 ^ 56) (address + span) then Some (Range address) else None

-- and begin at a multiple of the word
abbrev pub unaligned_fault : ℕ → ℕ → Option ItemFault
unaligned_fault size address = if address % size == 0 then None else Some (Unaligned address)

-- the first of some bytes that isn't 0, where the first of them has that place
abbrev pub padding_fault : ℕ → List ℕ → Option ItemFault
padding_fault place bytes = option_map Padding (position_from (λ b. not (b == 0)) place bytes)

-- the last number is 0
abbrev pub reserved_fault : ℕ → Option ItemFault
reserved_fault number = if number == 0 then None else Some (Reserved number)

-- the first fault of a packet's addresses
abbrev pub address_fault : ℕ → ℕ → ℕ → ℕ → Option ItemFault
address_fault span size dst src =
    first_of (range_fault span dst ∷ range_fault span src ∷ unaligned_fault size dst ∷ unaligned_fault size src ∷ [])

-- the first fault of a packet's slot
abbrev pub packet_fault : List ℕ → Option ItemFault
packet_fault slot =
    let word = word_in slot in
    first_of (
    option_map Word (word_fault word)
    ∷ bytes_fault (span_in word)
    ∷ address_fault (span_in word) (size_in word) (slice_index slot 1) (slice_index slot 2)
    ∷ padding_fault (24 + carried_in word) (drop (carried_in word) (body_in slot))
    ∷ reserved_fault (slice_index slot 7) ∷ [])

-- the first fault of a Close's slot: its word, both addresses and all of its body are 0
abbrev pub close_fault : List ℕ → Option ItemFault
close_fault slot =
    first_of (
    padding_fault 0 (bytes_of_number 4 (word_in slot))
    ∷ padding_fault 8 (number_bytes (slice_index slot 1))
    ∷ padding_fault 16 (number_bytes (slice_index slot 2))
    ∷ padding_fault 24 (body_in slot)
    ∷ reserved_fault (slice_index slot 7) ∷ [])

-- The first fault of a slot, if it has one.
abbrev pub slot_fault : List ℕ → Option ItemFault
slot_fault slot =
    if flag_in slot == 1 then packet_fault slot else if flag_in slot == 2 then close_fault slot else Some (Flag (flag_in slot))
