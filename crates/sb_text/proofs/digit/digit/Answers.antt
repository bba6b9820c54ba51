-- The table has what each byte is worth as a hexadecimal digit, and 255 for a byte that is none.
use Rattle.std.proofs.Common.{◌≡◌, ◌<◌, ℕ, List, map, get_or, unwrap_or, ap, refl, ◌∙◌, arith}
use Rattle.std.specs.List.{range_with_len}
use Rattle.std.proofs.lemmas.List.FromFn.{get_or-map-range_with_len}
use Rattle.hex.specs.Hex.{hex_digit_value}
use Rattle.sb_text.specs.declared.digit.TheConstants.{DIGITS}
use Rattle.sb_text.proofs.digit.digit.Goals as goal

-- what a byte is worth as a digit
worth : ℕ → ℕ
worth byte = unwrap_or (hex_digit_value byte) 255

-- the table has what each byte is worth
table : DIGITS ≡ map worth (range_with_len 0 256)
unfolding worth
table = refl

pub returns : goal.returns
unfolding worth
returns c =
    let below : c.args.byte < 256 = omega arith in
    ap (λ (n : ℕ). get_or DIGITS n 0) c.from.ensures
    ∙ ap (λ (t : List ℕ). get_or t c.args.byte 0) table ∙ get_or-map-range_with_len worth 0 256 c.args.byte c.args.byte 0 below (omega arith)
