-- Where the words of a line begin and end.
use Rattle.std.proofs.Common.{◌≡◌, ◌<◌, ◌+◌, ◌-◌, ℕ, suc, true, false, List, ◌∷◌, ◌++◌, length, get_or, take, drop, ap, sym, refl, ◌∙◌, arith, subst, Option, Some, None}
use Rattle.std.specs.Prelude.{◌==◌}
use Rattle.std.proofs.lemmas.Bool.{false≢true}
use Rattle.std.proofs.lemmas.List.{length-append}
use Rattle.std.proofs.lemmas.List.Elements.{All-get_or}
use Rattle.std.proofs.Math.Seq.{drop-append_seam, take-append_seam}
use Rattle.std.proofs.lemmas.Bool.{cases_lt}
use Rattle.memchr.specs.Find.{IsFirstByte, IsLastByte, is_byte}
use Rattle.std.proofs.lemmas.List.{get_or_append_left, get_or-append-add}
use Rattle.std.proofs.Math.Seq.{get_or-append_seam}
use Rattle.sb_check.specs.Spelling.{IsPlain}
use mathlib.Core.Logic.{inl, inr}

get_or-behind : (front word : List ℕ) (b i : ℕ) → get_or (front ++ b ∷ word) (length front + suc i) 0 ≡ get_or word i 0
get_or-behind front word b i = get_or-append-add front (b ∷ word) (suc i) 0

-- no byte of a plain word is a blank
plain_at : (word : List ℕ) (k : ℕ) → IsPlain word → k < length word → ¬ ((get_or word k 0 == 32) ≡ true)
plain_at word k plain below is = false≢true (sym (All-get_or (λ b. (b == 32) ≡ false) word k 0 below plain) ∙ is)

-- the blank between two parts is a blank
blank_at : (front word : List ℕ) → (get_or (front ++ 32 ∷ word) (length front) 0 == 32) ≡ true
blank_at front word = rw (get_or-append_seam front 32 word 0) refl

-- behind a plain word stands the first blank
pub first_blank : (word behind : List ℕ) → IsPlain word → (r : Option ℕ) → IsFirstByte (is_byte 32) (word ++ 32 ∷ behind) r → r ≡ Some (length word)
first_blank word behind plain None nowhere = absurd (nowhere (length word) (omega arith) (omega (arith, length-append word (32 ∷ behind))) (blank_at word behind))
first_blank word behind plain (Some k) found =
    elim (cases_lt k (length word)) [
      | inl low ↦ absurd (plain_at word k plain low (rw (sym (get_or_append_left word (32 ∷ behind) 0 k low)) found.1))
      | inr high ↦ elim (cases_lt (length word) k) [
        | inl above ↦ absurd (found.0.before (length word) (omega arith) above (blank_at word behind))
        | inr same ↦ ap (λ (n : ℕ). Some n) (let e : k ≡ length word = omega arith in e)
      ]
    ]

-- before a plain word stands the last blank
pub last_blank : (front word : List ℕ) → IsPlain word → (r : Option ℕ) → IsLastByte (is_byte 32) (front ++ 32 ∷ word) r → r ≡ Some (length front)
last_blank front word plain None nowhere = absurd (nowhere (length front) (omega arith) (omega (arith, length-append front (32 ∷ word))) (blank_at front word))
last_blank front word plain (Some k) found =
    elim (cases_lt (length front) k) [
      | inl above ↦
          let i = k - suc (length front) in
          let place : length front + suc i ≡ k = omega arith in
          let high : k < length (front ++ 32 ∷ word) = found.0.high in
          let within : i < length word = omega (arith, high, length-append front (32 ∷ word)) in
          let at : get_or (front ++ 32 ∷ word) k 0 ≡ get_or word i 0 = subst (λ (n : ℕ). get_or (front ++ 32 ∷ word) n 0 ≡ get_or word i 0) place (get_or-behind front word 32 i) in
          absurd (plain_at word i plain within (rw (sym at) found.1))
      | inr low ↦ elim (cases_lt k (length front)) [
        | inl below ↦ absurd (found.0.after (length front) (omega arith) (omega (arith, length-append front (32 ∷ word))) (blank_at front word))
        | inr same ↦ ap (λ (n : ℕ). Some n) (let e : k ≡ length front = omega arith in e)
      ]
    ]

-- the two parts, by the place of the blank
pub front_part : (front word text : List ℕ) (k : ℕ) → text ≡ front ++ 32 ∷ word → k ≡ length front → take k text ≡ front
front_part front word text k is at = rw (is, at) (take-append_seam front (32 ∷ word))

pub back_part : (front word text : List ℕ) (k : ℕ) → text ≡ front ++ 32 ∷ word → k ≡ length front → drop 1 (drop k text) ≡ word
back_part front word text k is at = rw (is, at) (ap (drop 1) (drop-append_seam front (32 ∷ word)))
