-- Behind its first word, a line that announces entries has their number.
use Rattle.std.proofs.Common.{◌≡◌, ◌<◌, ◌^◌, ◌∙◌, ◌∷◌, [], ◌++◌, ℕ, ap, arith, Some}
use Rattle.std.specs.Prelude.{codes, decimal}
use Rattle.std.proofs.lemmas.Fmt.{length-decimal-le}
use Rattle.sb_text.specs.Numerals.{digits_number}
use Rattle.sb_check.proofs.DigitLemmas.{decimal-read}
use Rattle.sb_check.proofs.HeadingLemmas.{history_is_plain, some_left, without_end}
use Rattle.sb_check.proofs.EntryLemmas.{no_some, not_both, one_number}
use Rattle.sb_check.proofs.heading.count_in.Goals as goal

count_read : (n : ℕ) → n < 2 ^ 32 → digits_number 10 10 (decimal n) ≡ Some n
count_read n small = decimal-read n small (length-decimal-le 10 n (omega arith) (omega arith) (omega arith))

pub returns-in_err-front : goal.returns-in_err-front
returns-in_err-front c = record { only = λ n a. absurd (no_some c.front.result _ c.in_err-front.was (c.front.ensures.only (codes "history") (decimal n ++ 10 ∷ []) history_is_plain a.text).0) }

pub returns-then-is_empty : goal.returns-then-is_empty
returns-then-is_empty c = record {
  only = λ n a.
      let rest = (c.front.ensures.only (codes "history") (decimal n ++ 10 ∷ []) history_is_plain a.text).1 in
      absurd (some_left _ (decimal n) rest c.is_empty.result c.is_empty.ensures c.if-is_empty.true);
}

pub returns-in_err-n : goal.returns-in_err-n
returns-in_err-n c = record {
  only = λ n a.
      let rest = (c.front.ensures.only (codes "history") (decimal n ++ 10 ∷ []) history_is_plain a.text).1 in
      absurd (not_both c.number.result n c.in_err-n.was (c.number.ensures ∙ ap (digits_number 10 10) (without_end _ (decimal n) rest) ∙ count_read n a.range));
}

pub returns-then-n-from : goal.returns-then-n-from
returns-then-n-from c = record {
  only = λ n a.
      let rest = (c.front.ensures.only (codes "history") (decimal n ++ 10 ∷ []) history_is_plain a.text).1 in
      let same : c.in_ok-n.n ≡ n = one_number c.number.result _ _ c.in_ok-n.was (c.number.ensures ∙ ap (digits_number 10 10) (without_end _ (decimal n) rest) ∙ count_read n a.range) in
      let above = c.if-n-from.true in
      let most = c.from.ensures in
      let small = a.range in
      absurd (omega (arith, above, most, same, small));
}

pub returns : goal.returns
returns c = record {
  only = λ n a.
      let rest = (c.front.ensures.only (codes "history") (decimal n ++ 10 ∷ []) history_is_plain a.text).1 in
      let same : c.in_ok-n.n ≡ n = one_number c.number.result _ _ c.in_ok-n.was (c.number.ensures ∙ ap (digits_number 10 10) (without_end _ (decimal n) rest) ∙ count_read n a.range) in
      ap (λ (k : ℕ). Some k) same;
}
