-- No word of the line has a line feed.
use Rattle.std.proofs.Common.{◌∷◌, [], List, ℕ, ap, refl}
use Rattle.std.specs.Prelude.{codes}
use Rattle.hex.specs.Hex.{encode_lower}
use Rattle.sb_text.specs.TextLines.{hex_number, text_line}
use Rattle.sb_check.proofs.CompareLemmas.{compared_as}
use Rattle.sb_check.proofs.EntryLemmas.{All-bytes}
use Rattle.sb_check.proofs.UnendedLemmas.{encode_lower_unended, hex_number_unended, letters_unended, same_unended, three_words}
use Rattle.sb_check.proofs.device_lines.take_bytes.Goals as goal

pub take_line-requires : goal.take_line-requires
take_line-requires c =
    three_words (codes "m") c.offset_digits-digits.result (encode_lower c.args.row.now)
    (letters_unended (codes "m") refl) (same_unended c.offset_digits-digits.result (hex_number 5 c.args.offset) c.offset_digits-digits.ensures (hex_number_unended 5 c.args.offset))
    (encode_lower_unended c.args.row.now (All-bytes c.args.row.now (λ k. (c.type_inv.row k).fits)))

pub returns : goal.returns
returns c = record {
  compared = compared_as c.take_line.result _ _ _ _ (ap (λ (t : List ℕ). text_line (codes "m" ∷ t ∷ encode_lower c.args.row.now ∷ [])) c.offset_digits-digits.ensures) c.take_line.ensures.compared;
}
