-- A plain word ends at the first blank.
use Rattle.std.proofs.Common.{◌≡◌, ◌∙◌, ℕ, List, sym, ap, subst, length, drop, Option, Some}
use Rattle.std.specs.Prelude.{unwrap_or}
use Rattle.memchr.specs.Find.{IsFirstByte, is_byte}
use Rattle.sb_check.proofs.WordLemmas.{back_part, first_blank, front_part}
use Rattle.sb_check.proofs.line_words.LineWords.front.Goals as goal

pub returns-in_err-end : goal.returns-in_err-end
returns-in_err-end c = record {
  only = λ word behind plain is.
      let found : c.memchr.result ≡ Some (length word) = first_blank word behind plain c.memchr.result (subst (λ (t : List ℕ). IsFirstByte (is_byte 32) t c.memchr.result) is c.memchr.ensures) in
      let none = c.in_err-end.was in absurd (cc);
}

pub returns : goal.returns
returns c = record {
  only = λ word behind plain is.
      let found : c.memchr.result ≡ Some (length word) = first_blank word behind plain c.memchr.result (subst (λ (t : List ℕ). IsFirstByte (is_byte 32) t c.memchr.result) is c.memchr.ensures) in
      let at : c.in_ok-end.end ≡ length word = ap (λ (o : Option ℕ). unwrap_or o 0) (sym c.in_ok-end.was ∙ found) in (
        c.split_at.ensures.front ∙ front_part word behind _ _ is at,
        c.split_at-2.ensures.back ∙ ap (drop 1) c.split_at.ensures.back ∙ back_part word behind _ _ is at,
      );
}
