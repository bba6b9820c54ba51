-- Cutting goes on part by part.
use Rattle.std.proofs.Common.{◌≡◌, ◌≤◌, ◌<◌, ℕ, zero, suc, ◌-◌, List, [], ◌∷◌, ap, ◌∙◌, refl, arith, true, false}
use Rattle.std.specs.Prelude.{if◌then◌else◌}
use Rattle.sb_packet.specs.Messages.{Message}
use Rattle.sb_packet.specs.Cuts.{first_part, other_parts, words_in, is_one_part, parts_in, cut_parts}
use Rattle.sb_packet.proofs.CutWords.{more_than_fit}

-- a bound on the number of parts that is large enough doesn't matter
parts_agree : (n k width : ℕ) (m : Message) → 0 < words_in width m → m.count ≤ n → m.count ≤ k → parts_in n width m ≡ parts_in k width m
parts_agree zero zero width m fits a b = refl
parts_agree zero (suc k) width m fits a b =
    elim (is_one_part width m) as (λ one. is_one_part width m ≡ one → m ∷ [] ≡ (if one then m ∷ [] else first_part width m ∷ parts_in k width (other_parts width m))) [
      | true ↦ λ h. refl
      | false ↦ λ h. let below : words_in width m < m.count = more_than_fit width m h in absurd (omega arith)
    ] refl
parts_agree (suc n) zero width m fits a b =
    elim (is_one_part width m) as (λ one. is_one_part width m ≡ one → (if one then m ∷ [] else first_part width m ∷ parts_in n width (other_parts width m)) ≡ m ∷ []) [
      | true ↦ λ h. refl
      | false ↦ λ h. let below : words_in width m < m.count = more_than_fit width m h in absurd (omega arith)
    ] refl
parts_agree (suc n) (suc k) width m fits a b =
    let fewer_n : m.count - words_in width m ≤ n = omega arith in
    let fewer_k : m.count - words_in width m ≤ k = omega arith in
    ap (λ (rest : List Message). if is_one_part width m then m ∷ [] else first_part width m ∷ rest) (parts_agree n k width (other_parts width m) fits fewer_n fewer_k)

-- a message that is one part is its only part
pub cut_of_one : (width : ℕ) (m : Message) → is_one_part width m ≡ true → cut_parts width m ≡ m ∷ []
cut_of_one width m h = only m.count where
  only : (n : ℕ) → parts_in n width m ≡ m ∷ []
  only zero = refl
  only (suc n) = rw h refl

-- any other has its first part, and the parts of what is left behind it
pub cut_of_more : (width : ℕ) (m : Message) → 0 < words_in width m → is_one_part width m ≡ false → cut_parts width m ≡ first_part width m ∷ cut_parts width (other_parts width m)
cut_of_more width m fits h =
    let below : words_in width m < m.count = more_than_fit width m h in
    parts_agree m.count (suc m.count) width m fits (omega arith) (omega arith)
    ∙ rw h (ap (λ (rest : List Message). first_part width m ∷ rest) (parts_agree m.count (m.count - words_in width m) width (other_parts width m) fits (omega arith) (omega arith)))
