-- Lines of words.
use Rattle.std.proofs.Common.{◌≡◌, ◌≤◌, ◌-◌, ℕ, List, [], ◌∷◌, ◌++◌, ap, ◌∙◌, refl, append_assoc, arith, map, take, drop, length, get_or}
use Rattle.std.proofs.lemmas.List.{take_all}
use Rattle.std.specs.Prelude.{flat_map}
use Rattle.sb_text.specs.TextLines.{text_line, word_text}
use Rattle.sb_text.specs.declared.line_word.LineWord.{LineWord}

-- the first word, a blank and each of the others, and the end
line_of_words : (w : LineWord) (ws : List LineWord) → word_text w ++ (flat_map (λ v. 32 ∷ word_text v) ws ++ 10 ∷ []) ≡ text_line (map word_text (w ∷ ws))
line_of_words w [] = refl
line_of_words w (v ∷ ws) = ap (λ (t : List ℕ). word_text w ++ 32 ∷ t) (append_assoc (word_text v) (flat_map (λ u. 32 ∷ word_text u) ws) (10 ∷ []) ∙ line_of_words v ws)

-- the same of words of which there is a first one
pub line_in_parts : (d : LineWord) (words : List LineWord) → 1 ≤ length words
    → word_text (get_or words 0 d) ++ (flat_map (λ v. 32 ∷ word_text v) (take (length words - 1) (drop 1 words)) ++ 10 ∷ []) ≡ text_line (map word_text words)
line_in_parts d [] some = absurd (omega arith)
line_in_parts d (w ∷ ws) some =
    ap (λ (vs : List LineWord). word_text w ++ (flat_map (λ v. 32 ∷ word_text v) vs ++ 10 ∷ [])) (take_all (length (w ∷ ws) - 1) ws (omega arith)) ∙ line_of_words w ws
