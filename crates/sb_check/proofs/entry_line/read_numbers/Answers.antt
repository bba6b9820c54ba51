-- The last three words are the command word and both addresses.
use Rattle.std.proofs.Common.{◌≡◌, ◌∙◌, ◌∷◌, ◌++◌, refl, arith}
use Rattle.sb_check.proofs.EntryLemmas.{last_of_two, last_of_three, not_both, one_number}
use Rattle.sb_check.proofs.entry_line.read_numbers.Goals as goal

pub returns-in_err-src : goal.returns-in_err-src
returns-in_err-src c = record {
  only = λ a b d front word dst src long-a long-b long-d is-a is-b is-d small is.
      let first = c.back_number.ensures.only (front ++ 32 ∷ (a ++ 32 ∷ b)) d long-d (is ∙ last_of_three a b d front) in
      absurd (not_both c.back_number.result src c.in_err-src.was (first.0 ∙ is-d));
}

pub returns-in_err-dst : goal.returns-in_err-dst
returns-in_err-dst c = record {
  only = λ a b d front word dst src long-a long-b long-d is-a is-b is-d small is.
      let first = c.back_number.ensures.only (front ++ 32 ∷ (a ++ 32 ∷ b)) d long-d (is ∙ last_of_three a b d front) in
      let second = c.back_number-2.ensures.only (front ++ 32 ∷ a) b long-b (first.1 ∙ last_of_two a b front) in
      absurd (not_both c.back_number-2.result dst c.in_err-dst.was (second.0 ∙ is-b));
}

pub returns-in_err-word : goal.returns-in_err-word
returns-in_err-word c = record {
  only = λ a b d front word dst src long-a long-b long-d is-a is-b is-d small is.
      let first = c.back_number.ensures.only (front ++ 32 ∷ (a ++ 32 ∷ b)) d long-d (is ∙ last_of_three a b d front) in
      let second = c.back_number-2.ensures.only (front ++ 32 ∷ a) b long-b (first.1 ∙ last_of_two a b front) in
      let third = c.back_number-3.ensures.only front a long-a second.1 in
      absurd (not_both c.back_number-3.result word c.in_err-word.was (third.0 ∙ is-a));
}

pub returns-then-word-from : goal.returns-then-word-from
returns-then-word-from c = record {
  only = λ a b d front word dst src long-a long-b long-d is-a is-b is-d small is.
      let first = c.back_number.ensures.only (front ++ 32 ∷ (a ++ 32 ∷ b)) d long-d (is ∙ last_of_three a b d front) in
      let second = c.back_number-2.ensures.only (front ++ 32 ∷ a) b long-b (first.1 ∙ last_of_two a b front) in
      let third = c.back_number-3.ensures.only front a long-a second.1 in
      let same : c.in_ok-word.word ≡ word = one_number c.back_number-3.result _ _ c.in_ok-word.was (third.0 ∙ is-a) in
      let above = c.if-word-from.true in
      let most = c.from.ensures in
      absurd (omega (arith, above, most, same, small));
}

pub returns : goal.returns
returns c = record {
  only = λ a b d front word dst src long-a long-b long-d is-a is-b is-d small is.
      let first = c.back_number.ensures.only (front ++ 32 ∷ (a ++ 32 ∷ b)) d long-d (is ∙ last_of_three a b d front) in
      let second = c.back_number-2.ensures.only (front ++ 32 ∷ a) b long-b (first.1 ∙ last_of_two a b front) in
      let third = c.back_number-3.ensures.only front a long-a second.1 in
      let same_word : c.in_ok-word.word ≡ word = one_number c.back_number-3.result _ _ c.in_ok-word.was (third.0 ∙ is-a) in
      let same_dst : c.in_ok-dst.dst ≡ dst = one_number c.back_number-2.result _ _ c.in_ok-dst.was (second.0 ∙ is-b) in
      let same_src : c.in_ok-src.src ≡ src = one_number c.back_number.result _ _ c.in_ok-src.was (first.0 ∙ is-d) in
      (rw (same_word, same_dst, same_src) refl, third.1);
}
