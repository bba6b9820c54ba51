-- Two digits of a body.
use Rattle.std.proofs.Common.{◌≡◌, ◌<◌, ◌⊎◌, ℕ, ◌+◌, ◌*◌, List, length, Option, Some, None, Result, Ok, Err, inl, inr, take, drop, slice_index, ap, sym, refl, arith}
use Rattle.std.specs.Prelude.{IsErr, unwrap_or}
use Rattle.hex.specs.Hex.{digit_or_error, hex_digit_value, pair_value, decode_pairs, ◌>>=◌}
use Rattle.hex.specs.declared.error.FromHexError.{FromHexError}
use Rattle.hex.specs.declared.error.FromHexError.TheVariants.{InvalidHexCharacter}
use Rattle.std.proofs.lemmas.Bool.Decides.{nat_tests}
use Rattle.hex.proofs.Pairs.{prepend, decode_err}

-- a digit that is worth less than 16
digit_is : (value : Option ℕ) (byte index digit : ℕ) → digit ≡ unwrap_or value 255 → digit < 16 → digit_or_error byte index value ≡ Ok digit
digit_is (Some v) byte index digit read small = ap (λ (v : ℕ). Ok v) (sym read)
digit_is None byte index digit read small = absurd (omega (arith, read))

-- two digits
pub pair_is : (a b i high low : ℕ) → high ≡ unwrap_or (hex_digit_value a) 255 → low ≡ unwrap_or (hex_digit_value b) 255 → high < 16 → low < 16 → pair_value a b i ≡ Ok (high * 16 + low)
pair_is a b i high low reads also small as_small =
    let first = digit_is (hex_digit_value a) a i high reads small in
    let second = digit_is (hex_digit_value b) b (i + 1) low also as_small in
    rw (first, second) refl

-- a digit is worth less than 16
worth_little : (byte : ℕ) → unwrap_or (hex_digit_value byte) 0 < 16
worth_little byte = grind (arith, nat_tests)

-- a byte that is no digit
digit_refused : (value : Option ℕ) (byte index digit : ℕ) → unwrap_or value 0 < 16 → digit ≡ unwrap_or value 255 → 15 < digit → digit_or_error byte index value ≡ Err (InvalidHexCharacter byte index)
digit_refused (Some v) byte index digit small read great = absurd (omega (arith, read, small))
digit_refused None byte index digit small read great = refl

-- where the first byte is no digit
first_refused : {r : Result ℕ FromHexError} (e : FromHexError) (next : ℕ → Result ℕ FromHexError) → r ≡ Err e → IsErr (r >>= next)
first_refused e next refused = rw refused refl

-- where the second byte is none
second_refused : {s : Result ℕ FromHexError} (r : Result ℕ FromHexError) (e : FromHexError) (pair : ℕ → ℕ → ℕ) → s ≡ Err e → IsErr (r >>= (λ h. s >>= (λ l. Ok (pair h l))))
second_refused (Ok h) e pair refused = rw refused refl
second_refused (Err f) e pair refused = refl

-- two bytes of which one is no digit
pub pair_refused : (a b i high low : ℕ) → high ≡ unwrap_or (hex_digit_value a) 255 → low ≡ unwrap_or (hex_digit_value b) 255 → (15 < high) ⊎ (15 < low) → IsErr (pair_value a b i)
pair_refused a b i high low reads also (inl great) = first_refused _ _ (digit_refused (hex_digit_value a) a i high (worth_little a) reads great)
pair_refused a b i high low reads also (inr great) = second_refused (digit_or_error a i (hex_digit_value a)) _ (λ h l. h * 16 + l) (digit_refused (hex_digit_value b) b (i + 1) low (worth_little b) also great)

-- an error, and which
error_is : {A E : Type 0} (r : Result A E) → IsErr r → (e : E) × (r ≡ Err e)
error_is (Ok x) err = absurd cc
error_is (Err e) err = (e, refl)

-- digits with such a pair
pub digits_refused : (digits bytes : List ℕ) (i high low : ℕ) → 2 * i + 1 < length digits → high ≡ unwrap_or (hex_digit_value (slice_index digits (2 * i))) 255 → low ≡ unwrap_or (hex_digit_value (slice_index digits (2 * i + 1))) 255 → (15 < high) ⊎ (15 < low)
    → decode_pairs 0 digits ≡ prepend (take i bytes) (decode_pairs (2 * i) (drop (2 * i) digits)) → IsErr (decode_pairs 0 digits)
digits_refused digits bytes i high low within reads also great before =
    let fault = error_is (pair_value (slice_index digits (2 * i)) (slice_index digits (2 * i + 1)) (2 * i)) (pair_refused (slice_index digits (2 * i)) (slice_index digits (2 * i + 1)) (2 * i) high low reads also great) in
    rw (decode_err digits bytes i fault.0 within fault.1 before) refl
