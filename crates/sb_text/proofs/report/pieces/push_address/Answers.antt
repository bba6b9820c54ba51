-- The digits of the bytes are those of the number.
use Rattle.std.proofs.Common.{◌∙◌, ◌++◌, [], ◌∷◌, ap, sym, List, ℕ, append_assoc}
use Rattle.sb_text.proofs.HexLemmas.{hex_number-bytes, last_bytes}
use Rattle.hex.specs.Hex.{encode_lower}
use Rattle.sb_text.proofs.report.pieces.push_address.Goals as goal

pub returns-clause-text : goal.returns-clause-text
returns-clause-text c =
    c.push_hex.ensures.text
    ∙ ap (λ (front : List ℕ). front ++ encode_lower (last_bytes 7 c.args.address)) c.push.ensures.text
    ∙ append_assoc c.args.buffer.now (32 ∷ []) (encode_lower (last_bytes 7 c.args.address))
    ∙ ap (λ (digits : List ℕ). c.args.buffer.now ++ 32 ∷ digits) (sym (hex_number-bytes 7 c.args.address))
