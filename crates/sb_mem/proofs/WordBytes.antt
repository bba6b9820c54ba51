-- A word's bytes as a number, and a number as a word's bytes.
use Rattle.std.proofs.Common.{◌≡◌, ◌≤◌, ◌<◌, ℕ, zero, suc, ◌+◌, ◌-◌, ◌*◌, ◌/◌, ◌%◌, ◌^◌, List, [], ◌∷◌, ◌++◌, length, get_or, take, replicate, Fits, w8, w64, refl, ap, sym, ◌∙◌, arith, length-append}
use Rattle.std.specs.Prelude.{slice_index}
use Rattle.std.specs.Int.{from_le_bytes, to_le_bytes, bytes_low_first, byte_at, byte_worth, sum_through}
use Rattle.std.proofs.Math.Nat.{pow-suc, div-div-eq-div-mul, div-one}
use Rattle.std.proofs.lemmas.List.{take_all, length-replicate}
use Rattle.sb_packet.specs.Memories.{number_of, bytes_of_number}

-- a byte is worth 256 times as much one place up
worth_above : (i b : ℕ) → b * 256 ^ suc i ≡ 256 * byte_worth i b
worth_above zero b = omega arith
worth_above (suc i) b = rw pow-suc (omega arith)

-- one more byte
number_of-take_more : (k : ℕ) (bytes : List ℕ) → number_of (take (suc k) bytes) ≡ number_of (take k bytes) + byte_worth k (slice_index bytes k)
number_of-take_more zero [] = refl
number_of-take_more zero (b ∷ bytes) = omega arith
number_of-take_more (suc k) [] = omega arith
number_of-take_more (suc k) (b ∷ bytes) =
    rw (number_of-take_more k bytes, worth_above k (slice_index bytes k)) (omega arith)

-- the sum of the bytes' worths is their number
worths : (bytes : List ℕ) (k : ℕ) → sum_through (λ i. byte_worth i (slice_index bytes i)) k ≡ number_of (take (suc k) bytes)
worths bytes zero = omega (arith, number_of-take_more 0 bytes)
worths bytes (suc k) = rw (worths bytes k) (sym (number_of-take_more (suc k) bytes))

-- zeros behind the bytes change no number
number_of_zeros : (k : ℕ) → number_of (replicate k 0) ≡ 0
number_of_zeros zero = refl
number_of_zeros (suc k) = rw (number_of_zeros k) refl

number_of-append_zeros : (bytes : List ℕ) (k : ℕ) → number_of (bytes ++ replicate k 0) ≡ number_of bytes
number_of-append_zeros [] k = number_of_zeros k
number_of-append_zeros (b ∷ bytes) k = ap (λ (n : ℕ). b + 256 * n) (number_of-append_zeros bytes k)

-- what a word of 64 bits reads of at most 8 bytes, with zeros behind them
pub number_of_padded : (bytes : List ℕ) → length bytes ≤ 8 → from_le_bytes w64 (bytes ++ replicate (8 - length bytes) 0) ≡ number_of bytes
number_of_padded bytes fits =
    let padded = bytes ++ replicate (8 - length bytes) 0 in
    let whole : length padded ≤ 8 = simp (length-append, length-replicate) (omega arith) in
    worths padded 7 ∙ ap number_of (take_all 8 padded whole) ∙ number_of-append_zeros bytes (8 - length bytes)

-- so many bytes are a number below that power of 256
pub number_of-below : (bytes : List ℕ) → ((i : ℕ) → Fits w8 (get_or bytes i 0)) → number_of bytes < 256 ^ length bytes
number_of-below [] fits = omega arith
number_of-below (b ∷ bytes) fits =
    let rest = number_of-below bytes (λ i. fits (suc i)) in
    let first : b < 256 = (fits 0).fits in
    rw pow-suc (omega arith)

-- byte i of a number
byte_at_is : (i n : ℕ) → byte_at i n ≡ n / 256 ^ i % 256
byte_at_is zero n = omega arith
byte_at_is (suc i) n = refl

-- the front of a number's bytes
bytes_from : (i c k n : ℕ) → c ≤ k → take c (bytes_low_first i k n) ≡ bytes_of_number c (n / 256 ^ i)
bytes_from i zero k n h = refl
bytes_from i (suc c) zero n h = absurd (omega arith)
bytes_from i (suc c) (suc k) n h =
    let above : n / 256 ^ suc i ≡ n / 256 ^ i / 256 = rw (pow-suc, div-div-eq-div-mul) refl in
    let rest = rw above at (bytes_from (suc i) c k n (omega arith)) in
    rw rest (ap (λ (b : ℕ). b ∷ bytes_of_number c (n / 256 ^ i / 256)) (byte_at_is i n))

pub bytes_of_front : (c n : ℕ) → c ≤ 8 → take c (to_le_bytes w64 n) ≡ bytes_of_number c n
bytes_of_front c n h = bytes_from 0 c 8 n h ∙ rw div-one refl
