-- A slot has one item and no fault, and an item has one slot.
use Rattle.std.proofs.Common.{◌≡◌, ◌≤◌, ◌+◌, ◌-◌, ◌%◌, ◌^◌, ℕ, List, [], ◌∷◌, drop, length, replicate, refl, sym, ap, ◌∙◌, arith}
use Rattle.std.proofs.Props.{props}
use Rattle.std.specs.Prelude.{slice_index, Option, Some, None, Result, Ok, Err, IfOk}
use Rattle.std.specs.Option.{option_map}
use Rattle.std.specs.Result.{result_err}
use Rattle.sb_word.proofs.OneCommand.{one_command}
use Rattle.sb_word.proofs.WordLaws.{word_of-IsWordOf, word_fault-IsWordOf}
use Rattle.sb_word.specs.Words.{word_of}
use Rattle.sb_slot.proofs.SlotFields.{size_in-IsWordOf, span_in-IsWordOf, carried_in-IsWordOf}
use Rattle.sb_slot.proofs.ZeroBytes.{padding_fault-zeros}
use Rattle.sb_slot.specs.SlotFaults.{first_of, bytes_fault, range_fault, unaligned_fault, reserved_fault, address_fault, packet_fault, slot_fault, size_in, span_in, carried_in}
use Rattle.sb_slot.specs.Slots.{number_bytes, word_in, flag_in, body_in, body_number, slot_of, IsPacketSlot, IsSlotOf}
use Rattle.sb_packet.specs.Spans.{span_of, carried_of}
use Rattle.sb_packet.specs.declared.item.Item.{Item}
use Rattle.sb_packet.specs.declared.item.Item.TheVariants as items
use Rattle.sb_slot.specs.declared.item_fault.ItemFault.{ItemFault}
use Rattle.sb_slot.specs.declared.item_fault.ItemFault.TheVariants.{Word}
use Rattle.sb_packet.specs.declared.packet.Packet.{Packet}
use mathlib.Core.HLevel.{is_prop→PathP}

-- eight numbers are a list of their places
pub eight_numbers : (slot : List ℕ) → length slot ≡ 8
    → slot ≡ slice_index slot 0 ∷ slice_index slot 1 ∷ slice_index slot 2 ∷ slice_index slot 3 ∷ slice_index slot 4 ∷ slice_index slot 5 ∷ slice_index slot 6 ∷ slice_index slot 7 ∷ []
eight_numbers (a ∷ b ∷ c ∷ d ∷ e ∷ f ∷ g ∷ h ∷ []) count = refl
eight_numbers _ count = absurd (omega arith)

-- a packet's slot is the list of its numbers
pub slot_of-IsPacketSlot : (slot : List ℕ) (p : Packet) → IsPacketSlot slot p
    → body_number 0 p.body ≡ slice_index slot 3 → body_number 8 p.body ≡ slice_index slot 4
    → body_number 16 p.body ≡ slice_index slot 5 → body_number 24 p.body ≡ slice_index slot 6
    → slot ≡ slot_of (items.Packet p)
slot_of-IsPacketSlot slot p h first second third fourth =
    let low : word_in slot ≡ word_of p.cmd = word_of-IsWordOf (word_in slot) p.cmd h.word in
    let high : flag_in slot ≡ 1 = h.flag in
    let number : slice_index slot 0 ≡ word_of p.cmd + 2 ^ 32 = omega arith in
    eight_numbers slot h.count ∙ rw (number, h.dst, h.src, ← first, ← second, ← third, ← fourth, h.reserved) refl

pub bytes_fault-None : (span : ℕ) → span ≤ 32 → bytes_fault span ≡ None
bytes_fault-None span fits = grind arith

pub range_fault-None : (span address : ℕ) → address + span ≤ 2 ^ 56 → range_fault span address ≡ None
range_fault-None span address fits = grind arith

pub unaligned_fault-None : (size address : ℕ) → address % size ≡ 0 → unaligned_fault size address ≡ None
unaligned_fault-None size address aligned = rw aligned refl

-- no fault comes of tests that have none
pub first_of_four-None : (a b c d : Option ItemFault) → a ≡ None → b ≡ None → c ≡ None → d ≡ None → first_of (a ∷ b ∷ c ∷ d ∷ []) ≡ None
first_of_four-None a b c d first second third fourth = rw (first, second, third, fourth) refl

pub first_of_five-None : (a b c d e : Option ItemFault) → a ≡ None → b ≡ None → c ≡ None → d ≡ None → e ≡ None → first_of (a ∷ b ∷ c ∷ d ∷ e ∷ []) ≡ None
first_of_five-None a b c d e first second third fourth fifth = rw (first, second, third, fourth, fifth) refl

-- a packet's addresses have no fault
pub address_fault-IsPacketSlot : (slot : List ℕ) (p : Packet) → IsPacketSlot slot p
    → address_fault (span_in (word_in slot)) (size_in (word_in slot)) (slice_index slot 1) (slice_index slot 2) ≡ None
address_fault-IsPacketSlot slot p h =
    let w = word_in slot in
    let size : size_in w ≡ 2 ^ p.cmd.size = size_in-IsWordOf w p.cmd h.word in
    let span : span_in w ≡ span_of p.cmd = span_in-IsWordOf w p.cmd h.word in
    let dst_range : slice_index slot 1 + span_in w ≤ 2 ^ 56 = rw (span, h.dst) p.dst_in_range in
    let src_range : slice_index slot 2 + span_in w ≤ 2 ^ 56 = rw (span, h.src) p.src_in_range in
    let dst_place : slice_index slot 1 % size_in w ≡ 0 = rw (size, h.dst) p.dst_aligned in
    let src_place : slice_index slot 2 % size_in w ≡ 0 = rw (size, h.src) p.src_aligned in
    first_of_four-None _ _ _ _
    (range_fault-None (span_in w) (slice_index slot 1) dst_range) (range_fault-None (span_in w) (slice_index slot 2) src_range)
    (unaligned_fault-None (size_in w) (slice_index slot 1) dst_place) (unaligned_fault-None (size_in w) (slice_index slot 2) src_place)

-- a packet's slot has no fault
pub packet_fault-IsPacketSlot : (slot : List ℕ) (p : Packet) → IsPacketSlot slot p → packet_fault slot ≡ None
packet_fault-IsPacketSlot slot p h =
    let w = word_in slot in
    let span : span_in w ≡ span_of p.cmd = span_in-IsWordOf w p.cmd h.word in
    let carried : carried_in w ≡ carried_of p.cmd = carried_in-IsWordOf w p.cmd h.word in
    let fits : span_in w ≤ 32 = rw span p.fits in
    let zeros : drop (carried_in w) (body_in slot) ≡ replicate (32 - carried_in w) 0 = rw (carried, h.body) p.padding in
    first_of_five-None _ _ _ _ _
    (ap (option_map Word) (word_fault-IsWordOf w p.cmd h.word)) (bytes_fault-None (span_in w) fits) (address_fault-IsPacketSlot slot p h)
    (padding_fault-zeros (24 + carried_in w) (drop (carried_in w) (body_in slot)) (32 - carried_in w) zeros) (let none : reserved_fault (slice_index slot 7) ≡ None = rw h.reserved refl in none)

-- no item's slot has one
pub slot_fault-IsSlotOf : (slot : List ℕ) (i : Item) → IsSlotOf slot i → slot_fault slot ≡ None
unfolding number_bytes
slot_fault-IsSlotOf slot (items.Packet p) h = rw h.flag (packet_fault-IsPacketSlot slot p h)
slot_fault-IsSlotOf slot items.Close h = rw h refl

-- a slot has one packet
pub one_packet : (slot : List ℕ) (p q : Packet) → IsPacketSlot slot p → IsPacketSlot slot q → p ≡ q
one_packet slot p q a b =
    let cmd : p.cmd ≡ q.cmd = one_command (word_in slot) p.cmd q.cmd a.word b.word in
    let dst : p.dst ≡ q.dst = sym a.dst ∙ b.dst in
    let src : p.src ≡ q.src = sym a.src ∙ b.src in
    let body : p.body ≡ q.body = sym a.body ∙ b.body in
    λ i. record {
      cmd = cmd i;
      dst = dst i;
      src = src i;
      body = body i;
      whole = is_prop→PathP (λ j. length (body j) ≡ 32) (λ j. hlevel props) p.whole q.whole i;
      fits = is_prop→PathP (λ j. span_of (cmd j) ≤ 32) (λ j. hlevel props) p.fits q.fits i;
      dst_aligned = is_prop→PathP (λ j. dst j % 2 ^ (cmd j).size ≡ 0) (λ j. hlevel props) p.dst_aligned q.dst_aligned i;
      src_aligned = is_prop→PathP (λ j. src j % 2 ^ (cmd j).size ≡ 0) (λ j. hlevel props) p.src_aligned q.src_aligned i;
      dst_in_range = is_prop→PathP (λ j. dst j + span_of (cmd j) ≤ 2 ^ 56) (λ j. hlevel props) p.dst_in_range q.dst_in_range i;
      src_in_range = is_prop→PathP (λ j. src j + span_of (cmd j) ≤ 2 ^ 56) (λ j. hlevel props) p.src_in_range q.src_in_range i;
      padding = is_prop→PathP (λ j. drop (carried_of (cmd j)) (body j) ≡ replicate (32 - carried_of (cmd j)) 0) (λ j. hlevel props) p.padding q.padding i;
    }

-- a slot has one item
pub one_item : (slot : List ℕ) (i j : Item) → IsSlotOf slot i → IsSlotOf slot j → i ≡ j
one_item slot (items.Packet p) (items.Packet q) a b = ap (λ r. items.Packet r) (one_packet slot p q a b)
one_item slot (items.Packet p) items.Close a b = absurd (let flag : 2 ≡ 1 = ap flag_in (sym b) ∙ a.flag in omega arith)
one_item slot items.Close (items.Packet q) a b = absurd (let flag : 2 ≡ 1 = ap flag_in (sym a) ∙ b.flag in omega arith)
one_item slot items.Close items.Close a b = refl

-- an answer that is right where it is an item, and has the first fault where it isn't, is the item of a slot
pub answer-IsSlotOf : (slot : List ℕ) (r : Result Item ItemFault) → IfOk r (λ i. IsSlotOf slot i) → result_err r ≡ slot_fault slot
    → (i : Item) → IsSlotOf slot i → r ≡ Ok i
answer-IsSlotOf slot (Ok j) right fault i here = ap (λ r. Ok r) (one_item slot j i right here)
answer-IsSlotOf slot (Err e) right fault i here =
    let none : Some e ≡ None = fault ∙ slot_fault-IsSlotOf slot i here in
    absurd (cc)
