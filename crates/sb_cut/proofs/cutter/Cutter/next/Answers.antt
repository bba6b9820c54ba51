-- next: a packet that is one part is the last one; of any other the first part goes out, and what is left behind it stays.
use Rattle.std.proofs.Common.{◌≡◌, ◌<◌, ◌-◌, ℕ, ◌∷◌, sym, ap, ◌∙◌, false}
use Rattle.sb_packet.specs.Messages.{Message, message_of}
use Rattle.sb_packet.specs.Cuts.{cut_parts, is_one_part, words_in, first_part, other_parts, part_of}
use Rattle.sb_packet.proofs.CutSteps.{cut_of_one, cut_of_more}
use Rattle.sb_cut.proofs.cutter.Cutter.next.Goals as goal

pub returns-then-is_one_part-clause-next : goal.returns-then-is_one_part-clause-next
returns-then-is_one_part-clause-next c =
    rw (← c.self.view_is) (rw (c.take.ensures.value, c.take.ensures.after, c.in-Some.is) (cut_of_one c.self.inside.width (message_of c.in-Some.packet) (sym c.is_one_part.ensures.one ∙ c.if-is_one_part.true)))

pub returns-clause-next : goal.returns-clause-next
returns-clause-next c =
    let m = message_of c.in-Some.packet in
    let width = c.self.inside.width in
    let words : c.first_words-count.result ≡ words_in width m = c.first_words-count.ensures.words in
    let some : 0 < words_in width m = rw words at c.first_words-count.ensures.some in
    let more : is_one_part width m ≡ false = sym c.is_one_part.ensures.one ∙ c.if-is_one_part.false in
    let front : message_of c.part-first.result ≡ first_part width m = c.part-first.ensures.part ∙ ap (λ (n : ℕ). part_of m 0 n false) words in
    let back : message_of c.part.result ≡ other_parts width m =
    c.part.ensures.part ∙ ap (λ (n : ℕ). part_of m n (c.word_count.result - n) m.eom) words
    ∙ ap (λ (k : ℕ). part_of m (words_in width m) (k - words_in width m) m.eom) c.word_count.ensures.words in
    rw (← c.self.view_is) (rw c.in-Some.is (cut_of_more width m some more
    ∙ ap (λ (x : Message). x ∷ cut_parts width (other_parts width m)) (sym front)
    ∙ ap (λ (y : Message). message_of c.part-first.result ∷ cut_parts width y) (sym back)))
