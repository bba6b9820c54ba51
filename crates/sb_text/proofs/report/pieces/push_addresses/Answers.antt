-- The word and both addresses, each behind a blank, and a blank.
use Rattle.std.proofs.Common.{◌≡◌, ◌∙◌, ◌++◌, [], ◌∷◌, ap, List, ℕ, append_assoc, refl}
use Rattle.sb_text.specs.TextLines.{hex_number}
use Rattle.sb_text.specs.Reports.{entry_middle}
use Rattle.sb_text.proofs.report.pieces.push_addresses.Goals as goal

behind : (b x y z : List ℕ) → b ++ 32 ∷ x ++ 32 ∷ y ++ 32 ∷ z ++ 32 ∷ [] ≡ b ++ 32 ∷ (x ++ 32 ∷ (y ++ 32 ∷ (z ++ 32 ∷ [])))
behind b x y z = simp append_assoc refl

pub returns : goal.returns
unfolding entry_middle
returns c =
    c.push.ensures.text
    ∙ ap (λ (t : List ℕ). t ++ 32 ∷ []) (c.push_address-2.ensures.text ∙ ap (λ (t : List ℕ). t ++ 32 ∷ hex_number 14 c.args.src) (c.push_address.ensures.text ∙ ap (λ (t : List ℕ). t ++ 32 ∷ hex_number 14 c.args.dst) c.push_word.ensures.text))
    ∙ behind c.args.buffer.now (hex_number 8 c.args.word) (hex_number 14 c.args.dst) (hex_number 14 c.args.src)
