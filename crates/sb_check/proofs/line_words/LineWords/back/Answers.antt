-- A plain word begins behind the last blank.
use Rattle.std.proofs.Common.{◌≡◌, ◌∙◌, ℕ, List, sym, ap, subst, length, drop, Option, Some}
use Rattle.std.specs.Prelude.{unwrap_or}
use Rattle.memchr.specs.Find.{IsLastByte, is_byte}
use Rattle.sb_check.proofs.WordLemmas.{back_part, front_part, last_blank}
use Rattle.sb_check.proofs.line_words.LineWords.back.Goals as goal

pub returns-in_err-place : goal.returns-in_err-place
returns-in_err-place c = record {
  only = λ front word plain is.
      let found : c.memrchr.result ≡ Some (length front) = last_blank front word plain c.memrchr.result (subst (λ (t : List ℕ). IsLastByte (is_byte 32) t c.memrchr.result) is c.memrchr.ensures) in
      let none = c.in_err-place.was in absurd (cc);
}

pub returns : goal.returns
returns c = record {
  only = λ front word plain is.
      let found : c.memrchr.result ≡ Some (length front) = last_blank front word plain c.memrchr.result (subst (λ (t : List ℕ). IsLastByte (is_byte 32) t c.memrchr.result) is c.memrchr.ensures) in
      let at : c.in_ok-place.place ≡ length front = ap (λ (o : Option ℕ). unwrap_or o 0) (sym c.in_ok-place.was ∙ found) in (
        c.split_at-2.ensures.back ∙ ap (drop 1) c.split_at.ensures.back ∙ back_part front word _ _ is at,
        c.split_at.ensures.front ∙ front_part front word _ _ is at,
      );
}
