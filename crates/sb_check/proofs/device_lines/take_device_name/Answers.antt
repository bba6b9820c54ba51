-- No word of the line has a line feed.
use Rattle.std.proofs.Common.{◌<◌, ◌^◌, ◌∙◌, ◌∷◌, [], ℕ, List, ap, refl}
use Rattle.std.specs.Prelude.{codes, decimal}
use Rattle.sb_text.specs.TextLines.{text_line}
use Rattle.sb_check.proofs.CompareLemmas.{compared_as}
use Rattle.sb_check.proofs.UnendedLemmas.{decimal_unended, letters_unended, name_unended, same_unended, three_words}
use Rattle.sb_check.proofs.device_lines.take_device_name.Goals as goal

pub take_line-requires : goal.take_line-requires
take_line-requires c =
    let small : c.from.result < 2 ^ 64 = c.from.type_inv in
    three_words (codes "device") c.as_slice.result.now (decimal c.from.result)
    (letters_unended (codes "device") refl) (same_unended c.as_slice.result.now c.args.plan.now.name c.as_slice.ensures.text (name_unended c.args.plan.now.name c.as_slice.ensures.named)) (decimal_unended c.from.result small)

pub returns : goal.returns
returns c = record {
  compared = compared_as c.take_line.result _ _ _ _
      (ap (λ (n : ℕ). text_line (codes "device" ∷ c.as_slice.result.now ∷ decimal n ∷ [])) c.from.ensures ∙ ap (λ (t : List ℕ). text_line (codes "device" ∷ t ∷ decimal c.args.plan.now.pages ∷ [])) c.as_slice.ensures.text)
      c.take_line.ensures.compared;
}
