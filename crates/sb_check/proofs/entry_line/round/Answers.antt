-- The second word of an entry's line is its round.
use Rattle.std.proofs.Common.{◌≡◌, ◌<◌, ◌^◌, ◌∙◌, ◌∷◌, [], ◌++◌, ℕ, ap, arith, Some}
use Rattle.std.specs.Prelude.{decimal}
use Rattle.std.proofs.lemmas.Fmt.{length-decimal-le}
use Rattle.sb_text.specs.Numerals.{digits_number}
use Rattle.sb_check.specs.Spelling.{IsPlain}
use Rattle.sb_check.proofs.DigitLemmas.{decimal-plain, decimal-read}
use Rattle.sb_check.proofs.EntryLemmas.{mark_is_plain, no_some, not_both, one_number, some_has}
use Rattle.sb_check.proofs.entry_line.round.Goals as goal

-- a round's digits are read
round_read : (n : ℕ) → n < 2 ^ 32 → digits_number 10 10 (decimal n) ≡ Some n
round_read n small = decimal-read n small (length-decimal-le 10 n (omega arith) (omega arith) (omega arith))

plain : (n : ℕ) → n < 2 ^ 32 → IsPlain (decimal n)
plain n small = decimal-plain n (omega arith)

pub returns-in_err-front : goal.returns-in_err-front
returns-in_err-front c = record { only = λ n behind small is. absurd (no_some c.front.result _ c.in_err-front.was (c.front.ensures.only (101 ∷ []) (decimal n ++ 32 ∷ behind) mark_is_plain is).0) }

pub returns-in_err-front-2 : goal.returns-in_err-front-2
returns-in_err-front-2 c = record {
  only = λ n behind small is.
      let first = (c.front.ensures.only (101 ∷ []) (decimal n ++ 32 ∷ behind) mark_is_plain is).1 in
      absurd (no_some c.front-2.result _ c.in_err-front-2.was (c.front-2.ensures.only (decimal n) behind (plain n small) first).0);
}

pub returns-in_err-n : goal.returns-in_err-n
returns-in_err-n c = record {
  only = λ n behind small is.
      let first = (c.front.ensures.only (101 ∷ []) (decimal n ++ 32 ∷ behind) mark_is_plain is).1 in
      let second = c.front-2.ensures.only (decimal n) behind (plain n small) first in
      let word = some_has c.front-2.result _ _ c.in_ok-front-2.was second.0 in
      absurd (not_both c.number.result n c.in_err-n.was (c.number.ensures ∙ ap (digits_number 10 10) word ∙ round_read n small));
}

pub returns-then-n-from : goal.returns-then-n-from
returns-then-n-from c = record {
  only = λ n behind small is.
      let first = (c.front.ensures.only (101 ∷ []) (decimal n ++ 32 ∷ behind) mark_is_plain is).1 in
      let second = c.front-2.ensures.only (decimal n) behind (plain n small) first in
      let word = some_has c.front-2.result _ _ c.in_ok-front-2.was second.0 in
      let same : c.in_ok-n.n ≡ n = one_number c.number.result _ _ c.in_ok-n.was (c.number.ensures ∙ ap (digits_number 10 10) word ∙ round_read n small) in
      let above = c.if-n-from.true in
      let most = c.from.ensures in
      absurd (omega (arith, above, most, same, small));
}

pub returns : goal.returns
returns c = record {
  only = λ n behind small is.
      let first = (c.front.ensures.only (101 ∷ []) (decimal n ++ 32 ∷ behind) mark_is_plain is).1 in
      let second = c.front-2.ensures.only (decimal n) behind (plain n small) first in
      let word = some_has c.front-2.result _ _ c.in_ok-front-2.was second.0 in
      let same : c.in_ok-n.n ≡ n = one_number c.number.result _ _ c.in_ok-n.was (c.number.ensures ∙ ap (digits_number 10 10) word ∙ round_read n small) in
      (ap (λ (k : ℕ). Some k) same, second.1);
}
