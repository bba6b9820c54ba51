-- Hexadecimal digits of bytes, one piece after another.
use Rattle.std.proofs.Common.{◌≡◌, ℕ, zero, suc, ◌+◌, ◌/◌, ◌%◌, List, [], ◌∷◌, ◌++◌, ap, ◌∙◌, sym, refl, take, drop, append_assoc, arith}
use Rattle.std.specs.Prelude.{slice_index}
use Rattle.std.proofs.Math.Seq.{take-add}
use Rattle.std.proofs.lemmas.List.{take-append-drop}
use Rattle.hex.specs.Hex.{encode_with, encode_lower, lower_digits}
use Rattle.sb_text.specs.TextLines.{hex_number}

-- the digits of some bytes, and of those behind them
encode_with-append : (t xs ys : List ℕ) → encode_with t (xs ++ ys) ≡ encode_with t xs ++ encode_with t ys
unfolding encode_with
encode_with-append t [] ys = refl
encode_with-append t (x ∷ xs) ys = ap (λ (r : List ℕ). slice_index t (x / 16) ∷ slice_index t (x % 16) ∷ r) (encode_with-append t xs ys)

-- the digits of the next so many bytes
pub encode_lower-more : (bytes : List ℕ) (at n : ℕ) → encode_lower (take at bytes) ++ encode_lower (take n (drop at bytes)) ≡ encode_lower (take (at + n) bytes)
encode_lower-more bytes at n = sym (encode_with-append lower_digits (take at bytes) (take n (drop at bytes))) ∙ ap encode_lower (sym (take-add at n bytes))

-- the digits of a first part, and of the rest
pub encode_lower-split : (bytes : List ℕ) (at : ℕ) → encode_lower (take at bytes) ++ encode_lower (drop at bytes) ≡ encode_lower bytes
encode_lower-split bytes at = sym (encode_with-append lower_digits (take at bytes) (drop at bytes)) ∙ ap encode_lower (take-append-drop at bytes)

-- a number's last so many bytes, the highest first
abbrev pub last_bytes : ℕ → ℕ → List ℕ
last_bytes zero n = []
last_bytes (suc count) n = last_bytes count (n / 256) ++ n % 256 ∷ []

-- two digits for each byte
abbrev pub twice : ℕ → ℕ
twice zero = zero
twice (suc n) = suc (suc (twice n))

-- both digits of the last byte, and the number without it
high_digit : (n : ℕ) → n % 256 / 16 ≡ n / 16 % 16
high_digit n = omega arith

low_digit : (n : ℕ) → n % 256 % 16 ≡ n % 16
low_digit n = omega arith

two_left : (n : ℕ) → n / 16 / 16 ≡ n / 256
two_left n = omega arith

-- a number's digits are those of its bytes
pub hex_number-bytes : (count n : ℕ) → hex_number (twice count) n ≡ encode_lower (last_bytes count n)
unfolding encode_with
hex_number-bytes zero n = refl
hex_number-bytes (suc count) n =
    rw (two_left n, append_assoc (hex_number (twice count) (n / 256)) (slice_index lower_digits (n / 16 % 16) ∷ []) (slice_index lower_digits (n % 16) ∷ []), hex_number-bytes count (n / 256))
    (sym (encode_with-append lower_digits (last_bytes count (n / 256)) (n % 256 ∷ []) ∙ rw (high_digit n, low_digit n) refl))
