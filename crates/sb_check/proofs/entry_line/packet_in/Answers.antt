-- The last four words of an entry's line are its packet.
use Rattle.std.proofs.Common.{◌∙◌, ◌∷◌, [], ◌++◌, ℕ, List, sym, ap}
use Rattle.sb_word.specs.Words.{word_of}
use Rattle.sb_packet.specs.Messages.{message_of}
use Rattle.sb_text.specs.TextLines.{body_text}
use Rattle.sb_check.proofs.DigitLemmas.{body_text-plain}
use Rattle.sb_check.proofs.EntryLemmas.{carried_bytes, last_of_four, no_some, not_both, option_same, packet_parts, some_has}
use Rattle.sb_check.proofs.entry_line.packet_in.Goals as goal

pub returns-in_err-body : goal.returns-in_err-body
returns-in_err-body c = record {
  only = λ p front small is.
      let q = packet_parts p in
      let e = body_text (message_of p).bytes ++ 10 ∷ [] in
      let back = c.back.ensures.only (front ++ 32 ∷ (q.word ++ 32 ∷ (q.dst ++ 32 ∷ q.src))) e (body_text-plain (message_of p).bytes (carried_bytes p small)) (is ∙ ap (λ (t : List ℕ). front ++ 32 ∷ t) q.words ∙ last_of_four q.word q.dst q.src e front) in
      absurd (no_some c.back.result _ c.in_err-body.was back.0);
}

pub returns-in_err-numbers : goal.returns-in_err-numbers
returns-in_err-numbers c = record {
  only = λ p front small is.
      let q = packet_parts p in
      let e = body_text (message_of p).bytes ++ 10 ∷ [] in
      let back = c.back.ensures.only (front ++ 32 ∷ (q.word ++ 32 ∷ (q.dst ++ 32 ∷ q.src))) e (body_text-plain (message_of p).bytes (carried_bytes p small)) (is ∙ ap (λ (t : List ℕ). front ++ 32 ∷ t) q.words ∙ last_of_four q.word q.dst q.src e front) in
      let numbers = c.read_numbers.ensures.only q.word q.dst q.src front (word_of p.cmd) p.dst p.src q.word_long q.dst_long q.src_long q.word_read q.dst_read q.src_read q.small back.1 in
      absurd (not_both c.read_numbers.result _ c.in_err-numbers.was numbers.0);
}

pub returns : goal.returns
returns c = record {
  only = λ p front small is.
      let q = packet_parts p in
      let e = body_text (message_of p).bytes ++ 10 ∷ [] in
      let back = c.back.ensures.only (front ++ 32 ∷ (q.word ++ 32 ∷ (q.dst ++ 32 ∷ q.src))) e (body_text-plain (message_of p).bytes (carried_bytes p small)) (is ∙ ap (λ (t : List ℕ). front ++ 32 ∷ t) q.words ∙ last_of_four q.word q.dst q.src e front) in
      let numbers = c.read_numbers.ensures.only q.word q.dst q.src front (word_of p.cmd) p.dst p.src q.word_long q.dst_long q.src_long q.word_read q.dst_read q.src_read q.small back.1 in
      let text = some_has c.back.result _ _ c.in_ok-body.was back.0 in
      let same = option_same _ _ (sym c.in_ok-numbers.was ∙ numbers.0) in
      (c.packet_of.ensures.only p small (ap (λ n. n.word) same) (ap (λ n. n.dst) same) (ap (λ n. n.src) same) text, numbers.1);
}
