-- No word of the line has a line feed.
use Rattle.std.proofs.Common.{◌<◌, ◌^◌, ◌∙◌, ◌∷◌, [], ℕ, List, ap, refl, arith}
use Rattle.std.specs.Prelude.{codes, decimal}
use Rattle.sb_text.specs.Reports.{state_text}
use Rattle.sb_text.specs.TextLines.{body_text, text_line}
use Rattle.sb_check.proofs.CompareLemmas.{compared_as}
use Rattle.sb_check.proofs.EntryLemmas.{All-bytes}
use Rattle.sb_check.proofs.UnendedLemmas.{body_text_unended, decimal_unended, four_words, letters_unended, same_unended, state_unended}
use Rattle.sb_check.proofs.host_lines.take_outcome.Goals as goal

pub take_line-requires : goal.take_line-requires
take_line-requires c =
    let small : c.from.result < 2 ^ 64 = let few = c.ranges.index in let same = c.from.ensures in omega arith in
    four_words (codes "t") (decimal c.from.result) c.state_word.result.now (body_text c.args.body.now)
    (letters_unended (codes "t") refl) (decimal_unended c.from.result small)
    (same_unended c.state_word.result.now (state_text c.args.state) c.state_word.ensures (state_unended c.args.state)) (body_text_unended c.args.body.now (All-bytes c.args.body.now (λ k. (c.type_inv.body k).fits)))

pub returns : goal.returns
returns c = record {
  compared = compared_as c.take_line.result _ _ _ _
      (ap (λ (n : ℕ). text_line (codes "t" ∷ decimal n ∷ c.state_word.result.now ∷ body_text c.args.body.now ∷ [])) c.from.ensures ∙ ap (λ (t : List ℕ). text_line (codes "t" ∷ decimal c.args.index ∷ t ∷ body_text c.args.body.now ∷ [])) c.state_word.ensures)
      c.take_line.ensures.compared;
}
