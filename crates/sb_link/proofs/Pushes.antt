-- What a push does to what was sent: whether it is closed, and how many words it has.
use Rattle.std.proofs.Common.{◌≡◌, ℕ, ◌+◌, ◌≤◌, List, [], ◌∷◌, ◌++◌, false, refl, arith, length, length-append}
use Rattle.std.proofs.lemmas.List.FromFn.{length-map-range_with_len}
use Rattle.sb_packet.specs.Accesses.{accesses_of, accesses_of_item}
use Rattle.sb_packet.specs.Spans.{word_count_of}
use Rattle.sb_link.specs.Traffic.{has_close, item_accesses}
use Rattle.sb_packet.specs.declared.packet.Packet.{Packet}
use Rattle.sb_packet.specs.declared.item.Item.{Item}
use Rattle.sb_packet.specs.declared.item.Item.TheVariants as items
use Rattle.sb_link.specs.declared.answers.Push.{Push}
use Rattle.sb_link.specs.declared.answers.Push.TheVariants as pushes
use Rattle.sb_link.specs.Ends.{Pushed}

-- a packet closes nothing
open_with_packet : (list : List Item) (p : Packet) → has_close list ≡ false → has_close (list ++ items.Packet p ∷ []) ≡ false
open_with_packet [] p e = refl
open_with_packet (items.Packet q ∷ list) p e = open_with_packet list p e
open_with_packet (items.Close ∷ list) p e = let no_way : ⊥ = cc in absurd no_way

-- the words of one more item come to the others
words_with_item : (list : List Item) (item : Item) → length (item_accesses (list ++ item ∷ [])) ≡ length (item_accesses list) + length (accesses_of_item item)
words_with_item [] item = rw length-append (omega arith)
words_with_item (x ∷ list) item =
    let long : length (accesses_of_item x ++ item_accesses (list ++ item ∷ [])) ≡ length (accesses_of_item x) + length (item_accesses (list ++ item ∷ [])) = length-append (accesses_of_item x) (item_accesses (list ++ item ∷ [])) in
    let short : length (accesses_of_item x ++ item_accesses list) ≡ length (accesses_of_item x) + length (item_accesses list) = length-append (accesses_of_item x) (item_accesses list) in
    omega (arith, long, short, words_with_item list item)

-- whatever it answers, a push of a packet leaves open what was open
pub open_after : (capacity taken : ℕ) (before after : List Item) (p : Packet) (answer : Push) → Pushed capacity before (items.Packet p) after taken answer
    → has_close before ≡ false → has_close after ≡ false
open_after capacity taken before after p pushes.Done push e = rw push.sent (open_with_packet before p e)
open_after capacity taken before after p (pushes.Full told_sent told_taken) push e = rw push.same e

-- whatever it answers, a push sends at most the item's words
pub words_after : (capacity taken : ℕ) (before after : List Item) (item : Item) (answer : Push) → Pushed capacity before item after taken answer
    → length (item_accesses after) ≤ length (item_accesses before) + length (accesses_of_item item)
words_after capacity taken before after item pushes.Done push = rw push.sent (omega (arith, words_with_item before item))
words_after capacity taken before after item (pushes.Full told_sent told_taken) push = rw push.same (omega arith)

-- a packet has as many words as its command
pub packet_words : (p : Packet) → length (accesses_of p) ≡ word_count_of p.cmd
packet_words p = rw length-map-range_with_len refl
