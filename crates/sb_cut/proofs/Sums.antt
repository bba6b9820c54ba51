-- The bytes of two packets, one behind the other, are what their sum carries.
use Rattle.std.proofs.Common.{◌≡◌, ◌+◌, ◌-◌, ◌*◌, ◌^◌, ◌++◌, ℕ, List, refl, ap, sym, ◌∙◌, arith, take, drop, length, replicate, append_assoc}
use Rattle.std.proofs.lemmas.List.{length-append}
use Rattle.sb_packet.specs.Messages.{message_of}
use Rattle.sb_packet.specs.Spans.{carried_by, carried_of, word_count_of}
use Rattle.sb_packet.specs.declared.packet.Packet.{Packet}
use Rattle.sb_packet.proofs.FineParts.{packet_whole}
use Rattle.sb_cut.specs.Merges.{AreMergeable}
use Rattle.sb_cut.proofs.Slices.{carried_together, front_of, behind}

-- what both carry is as long as what a sum of so many words carries
pub as_many : (a b : Packet) (first second : ℕ) → AreMergeable 32 (message_of a) (message_of b) → first ≡ word_count_of a.cmd → second ≡ word_count_of b.cmd
    → length ((message_of a).bytes ++ (message_of b).bytes) ≡ carried_by a.cmd.op ((first + second) * 2 ^ a.cmd.size)
as_many a b first second can words_a words_b =
    let s = 2 ^ a.cmd.size in
    let size : 2 ^ b.cmd.size ≡ s = ap (λ (n : ℕ). 2 ^ n) (sym can.size) in
    let split : (first + second) * s ≡ word_count_of a.cmd * s + word_count_of b.cmd * s = rw (words_a, words_b) (omega arith) in
    let front : length (message_of a).bytes ≡ carried_by a.cmd.op (word_count_of a.cmd * s) = (packet_whole a).carried in
    let back : length (message_of b).bytes ≡ carried_by a.cmd.op (word_count_of b.cmd * s) = (packet_whole b).carried ∙ rw (can.op, size) refl in
    length-append (message_of a).bytes (message_of b).bytes ∙ rw (front, back, split) (sym (carried_together a.cmd.op (word_count_of a.cmd * s) (word_count_of b.cmd * s)))

-- a body that has what both carry, with zeros behind it
pub in_order : (a b : Packet) (more body : List ℕ) → more ≡ (message_of b).bytes → body ≡ (message_of a).bytes ++ (more ++ replicate (32 - (carried_of a.cmd + length more)) 0)
    → let both = (message_of a).bytes ++ (message_of b).bytes in body ≡ both ++ replicate (32 - length both) 0
in_order a b more body carried is =
    let front = (message_of a).bytes in
    let back = (message_of b).bytes in
    let many : carried_of a.cmd + length back ≡ length (front ++ back) = ap (λ (k : ℕ). k + length back) (sym (packet_whole a).carried) ∙ sym (length-append front back) in
    is ∙ ap (λ (list : List ℕ). front ++ (list ++ replicate (32 - (carried_of a.cmd + length list)) 0)) carried
    ∙ ap (λ (n : ℕ). front ++ (back ++ replicate (32 - n) 0)) many
    ∙ sym (append_assoc front back (replicate (32 - length (front ++ back)) 0))

-- its first bytes, and those behind them
pub both_in_front : (n : ℕ) (both body : List ℕ) → length both ≡ n → body ≡ both ++ replicate (32 - length both) 0 → take n body ≡ both
both_in_front n both body long is = ap (take n) is ∙ front_of n both (replicate (32 - length both) 0) long

pub zeros_after : (n : ℕ) (both body : List ℕ) → length both ≡ n → body ≡ both ++ replicate (32 - length both) 0 → drop n body ≡ replicate (32 - n) 0
zeros_after n both body long is = ap (drop n) is ∙ behind n both (replicate (32 - length both) 0) long ∙ ap (λ (k : ℕ). replicate (32 - k) 0) long
