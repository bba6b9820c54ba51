-- The line that says how many entries follow.
use Rattle.std.proofs.Common.{◌≡◌, ◌-◌, ℕ, Bool, true, false, List, [], ◌∷◌, ◌++◌, length, take, ap, sym, refl, ◌∙◌, arith}
use Rattle.std.specs.Prelude.{◌==◌, codes}
use Rattle.std.proofs.lemmas.Bool.{eqb-true}
use Rattle.std.proofs.lemmas.List.{length-append}
use Rattle.std.proofs.lemmas.List.Elements.{All-nil, All-cons}
use Rattle.std.proofs.Math.Seq.{take-append_seam}
use Rattle.sb_check.specs.Spelling.{IsPlain}

abbrev next : (b : ℕ) (word : List ℕ) → (b == 32) ≡ false → IsPlain word → IsPlain (b ∷ word)
next b word other plain = All-cons (λ b. (b == 32) ≡ false) b word other plain

pub history_is_plain : IsPlain (codes "history")
history_is_plain = next 104 (codes "istory") refl (next 105 (codes "story") refl (next 115 (codes "tory") refl (next 116 (codes "ory") refl (next 111 (codes "ry") refl (next 114 (codes "y") refl (next 121 [] refl (All-nil (λ b. (b == 32) ≡ false))))))))

-- a word and the end of a line are something
pub some_left : (text word : List ℕ) → text ≡ word ++ 10 ∷ [] → (b : Bool) → b ≡ (length text == 0) → b ≡ true → ⊥
some_left text word is b e empty = let none : length text ≡ 0 = eqb-true (length text) 0 (sym e ∙ empty) in omega (arith, none, ap length is, length-append word (10 ∷ []))

-- without the end they are the word
pub without_end : (text word : List ℕ) → text ≡ word ++ 10 ∷ [] → take (length text - 1) text ≡ word
without_end text word is =
    let at : length text - 1 ≡ length word = omega (arith, ap length is, length-append word (10 ∷ [])) in
    ap (λ (n : ℕ). take n text) at ∙ ap (take (length word)) is ∙ take-append_seam word (10 ∷ [])
