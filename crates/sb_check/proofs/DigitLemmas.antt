-- Printed numbers, read again.
use Rattle.std.proofs.Common.{◌≡◌, ◌<◌, ◌≤◌, ◌+◌, ◌-◌, ◌*◌, ◌/◌, ◌%◌, ◌^◌, ℕ, zero, suc, true, false, List, [], ◌∷◌, ◌++◌, length, ap, refl, ◌∙◌, arith, Some}
use Rattle.std.specs.Prelude.{All, ◌==◌, decimal, nat_le, nat_lt, slice_index}
use Rattle.std.specs.List.{list_all}
use Rattle.std.proofs.lemmas.Bool.{and_parts}
use Rattle.std.proofs.lemmas.Bool.Decides.{nat_tests}
use Rattle.std.proofs.lemmas.List.{length-append}
use Rattle.std.proofs.lemmas.List.Elements.{All-head, All-tail, All-nil, All-cons, All-append}
use Rattle.std.proofs.lemmas.List.Folds.{list_all-append}
use Rattle.std.proofs.lemmas.Str.Parse.{IsDigitsTest, IsNumeralModel, WeighsDigits, numerals_by_weight}
use Rattle.std.proofs.lemmas.Fmt.{decimal_nonempty, digits_decimal, digits_value-decimal}
use Rattle.std.proofs.Math.Nat.{mul_left_comm, pow-succ', pow-zero}
use Rattle.hex.specs.Hex.{encode_lower, encode_with, lower_digits}
use Rattle.hex.proofs.HexLemmas.{IsDigits-lower_digits}
use Rattle.sb_text.specs.TextLines.{body_text, hex_number}
use Rattle.sb_text.specs.Numerals.{digit_value, digits_number, digits_value, is_digit_of, is_number_of}
use Rattle.sb_check.specs.Spelling.{IsPlain}

-- digits and what they are worth are a number's
pub read_number : (base most n : ℕ) (ds : List ℕ) → 1 ≤ length ds → length ds ≤ most → list_all (is_digit_of base) ds ≡ true → digits_value base ds ≡ n → n < 2 ^ 64 → digits_number base most ds ≡ Some n
read_number base most n ds some few all worth small =
    let a : nat_le 1 (length ds) ≡ true = grind (arith, nat_tests) in
    let b : nat_le (length ds) most ≡ true = grind (arith, nat_tests) in
    let c : nat_lt (digits_value base ds) (2 ^ 64) ≡ true = rw worth (let s = small in grind (arith, nat_tests)) in
    let test : is_number_of base most ds ≡ true = rw (a, b, all, c) refl in
    rw (test, worth) refl

-- the digits of a number in hexadecimal
pub length-hex_number : (k n : ℕ) → length (hex_number k n) ≡ k
length-hex_number zero n = refl
length-hex_number (suc k) n = length-append (hex_number k (n / 16)) (slice_index lower_digits (n % 16) ∷ []) ∙ (let l = length-hex_number k (n / 16) in omega arith)

lower_is_digit : (d : ℕ) → d < 16 → is_digit_of 16 (slice_index lower_digits d) ≡ true
lower_is_digit d below = rw (IsDigits-lower_digits d below) (grind (arith, nat_tests))

lower_is_worth : (d : ℕ) → d < 16 → digit_value (slice_index lower_digits d) ≡ d
lower_is_worth d below = rw (IsDigits-lower_digits d below) refl

pub hex_number-digits : (k n : ℕ) → list_all (is_digit_of 16) (hex_number k n) ≡ true
hex_number-digits zero n = refl
hex_number-digits (suc k) n =
    let below : n % 16 < 16 = omega arith in
    list_all-append (is_digit_of 16) (hex_number k (n / 16)) (slice_index lower_digits (n % 16) ∷ []) ∙ rw (hex_number-digits k (n / 16), lower_is_digit (n % 16) below) refl

-- one digit more makes a number so many times greater
digits_value-more : (base : ℕ) (ds : List ℕ) (d : ℕ) → digits_value base (ds ++ d ∷ []) ≡ base * digits_value base ds + digit_value d
digits_value-more base [] d = omega (arith, ap (λ (x : ℕ). digit_value d * x) (pow-zero base))
digits_value-more base (e ∷ ds) d =
    let long : length (ds ++ d ∷ []) ≡ suc (length ds) = length-append ds (d ∷ []) ∙ omega arith in
    let power : base ^ length (ds ++ d ∷ []) ≡ base * base ^ length ds = ap (λ (k : ℕ). base ^ k) long ∙ pow-succ' base (length ds) in
    let product : digit_value e * base ^ length (ds ++ d ∷ []) ≡ base * (digit_value e * base ^ length ds) = ap (λ (p : ℕ). digit_value e * p) power ∙ swap (digit_value e) base (base ^ length ds) in
    let apart : base * (digit_value e * base ^ length ds + digits_value base ds) ≡ base * (digit_value e * base ^ length ds) + base * digits_value base ds = spread base (digit_value e * base ^ length ds) (digits_value base ds) in
    omega (arith, product, apart, digits_value-more base ds d)
  where
    swap : (a b c : ℕ) → a * (b * c) ≡ b * (a * c)
    swap a b c = mul_left_comm a b c

    spread : (a b c : ℕ) → a * (b + c) ≡ a * b + a * c
    spread a b c = omega arith

pub hex_number-worth : (k n : ℕ) → n < 16 ^ k → digits_value 16 (hex_number k n) ≡ n
hex_number-worth zero n small = omega arith
hex_number-worth (suc k) n small =
    let below : n % 16 < 16 = omega arith in
    let power : 16 ^ suc k ≡ 16 * 16 ^ k = pow-succ' 16 k in
    let rest : n / 16 < 16 ^ k = omega arith in
    digits_value-more 16 (hex_number k (n / 16)) (slice_index lower_digits (n % 16))
    ∙ rw (hex_number-worth k (n / 16) rest, lower_is_worth (n % 16) below) (omega arith)

pub hex_number-read : (k n : ℕ) → 1 ≤ k → n < 16 ^ k → 16 ^ k ≤ 2 ^ 64 → digits_number 16 k (hex_number k n) ≡ Some n
hex_number-read k n some small most = read_number 16 k n (hex_number k n) (omega (arith, length-hex_number k n)) (omega (arith, length-hex_number k n)) (hex_number-digits k n) (hex_number-worth k n small) (omega arith)

-- the digits of a text are decimal
abbrev IsDecimal : List ℕ → Type 0
IsDecimal ds = list_all (is_digit_of 10) ds ≡ true

decimal_digit : (c : ℕ) → is_digit_of 10 c ≡ true → (48 ≤ c) × (c ≤ 57)
decimal_digit c is = grind (arith, nat_tests)

digit_in_range : (c : ℕ) → 48 ≤ c → c ≤ 57 → (is_digit_of 10 c ≡ true) × (digit_value c ≡ c - 48)
digit_in_range c low high = grind (arith, nat_tests)

are_tested : IsDigitsTest IsDecimal
are_tested = record {
  empty = refl;
  parts = λ c cs all. let p = and_parts (is_digit_of 10 c) (list_all (is_digit_of 10) cs) all in (decimal_digit c p.0, p.1);
  more = λ c cs range all. rw ((digit_in_range c range.0 range.1).0, all) refl;
}

are_weighed : WeighsDigits (digits_value 10)
are_weighed = record { empty = refl; more = λ c cs range. rw (digit_in_range c range.0 range.1).1 refl }

decimal_model : IsNumeralModel IsDecimal (digits_value 10)
decimal_model = numerals_by_weight IsDecimal are_tested (digits_value 10) are_weighed

pub decimal-digits : (n : ℕ) → n < 2 ^ 64 → list_all (is_digit_of 10) (decimal n) ≡ true
decimal-digits n small = digits_decimal decimal_model n small

pub decimal-read : (n : ℕ) → n < 2 ^ 32 → length (decimal n) ≤ 10 → digits_number 10 10 (decimal n) ≡ Some n
decimal-read n small few = read_number 10 10 n (decimal n) (decimal_nonempty n (omega arith)) few (decimal-digits n (omega arith)) (digits_value-decimal decimal_model n (omega arith)) (omega arith)

-- digits are plain
digit_is_plain : (c : ℕ) → is_digit_of 16 c ≡ true → (c == 32) ≡ false
digit_is_plain c is = grind (arith, nat_tests)

decimal_is_digit : (c : ℕ) → is_digit_of 10 c ≡ true → (c == 32) ≡ false
decimal_is_digit c is = let range = decimal_digit c is in grind (arith, nat_tests)

decimals_plain : (ds : List ℕ) → IsDecimal ds → IsPlain ds
decimals_plain [] all = All-nil (λ b. (b == 32) ≡ false)
decimals_plain (c ∷ cs) all = let p = and_parts (is_digit_of 10 c) (list_all (is_digit_of 10) cs) all in All-cons (λ b. (b == 32) ≡ false) c cs (decimal_is_digit c p.0) (decimals_plain cs p.1)

pub decimal-plain : (n : ℕ) → n < 2 ^ 64 → IsPlain (decimal n)
decimal-plain n small = decimals_plain (decimal n) (decimal-digits n small)

-- so are those of bytes, and what ends a line
encode_lower-plain : (bytes : List ℕ) → All (λ b. b < 256) bytes → IsPlain (encode_lower bytes)
unfolding encode_with
encode_lower-plain [] small = All-nil (λ b. (b == 32) ≡ false)
encode_lower-plain (b ∷ bytes) small =
    let byte : b < 256 = All-head (λ b. b < 256) b bytes small in
    let high : b / 16 < 16 = omega arith in
    let low : b % 16 < 16 = omega arith in
    All-cons (λ b. (b == 32) ≡ false) (slice_index lower_digits (b / 16)) (slice_index lower_digits (b % 16) ∷ encode_lower bytes) (digit_is_plain (slice_index lower_digits (b / 16)) (lower_is_digit (b / 16) high))
    (All-cons (λ b. (b == 32) ≡ false) (slice_index lower_digits (b % 16)) (encode_lower bytes) (digit_is_plain (slice_index lower_digits (b % 16)) (lower_is_digit (b % 16) low)) (encode_lower-plain bytes (All-tail (λ b. b < 256) b bytes small)))

end_is_plain : IsPlain (10 ∷ [])
end_is_plain = All-cons (λ b. (b == 32) ≡ false) 10 [] refl (All-nil (λ b. (b == 32) ≡ false))

pub body_text-plain : (bytes : List ℕ) → All (λ b. b < 256) bytes → IsPlain (body_text bytes ++ 10 ∷ [])
body_text-plain [] small = All-cons (λ b. (b == 32) ≡ false) 45 (10 ∷ []) refl end_is_plain
body_text-plain (b ∷ bytes) small = All-append (λ b. (b == 32) ≡ false) (encode_lower (b ∷ bytes)) (10 ∷ []) (encode_lower-plain (b ∷ bytes) small) end_is_plain
