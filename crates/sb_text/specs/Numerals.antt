-- The numbers of a script: how they are written, and what they are worth.
use Rattle.std.specs.Prelude.{ℕ, ◌+◌, ◌*◌, ◌^◌, Bool, false, ◌&&◌, nat_le, nat_lt, List, [], ◌∷◌, length, take, drop, codes, bytes_eq, Option, Some, None, unwrap_or, if◌then◌else◌}
use Rattle.std.specs.List.{list_all}
use Rattle.std.specs.Option.{option_map_or}
use Rattle.hex.specs.Hex.{hex_digit_value}

-- A byte is a digit of a base up to 16: `0` to `9`, or a letter from `a` or `A` on, of a value below the base.
abbrev pub is_digit_of : ℕ → ℕ → Bool
is_digit_of base byte = option_map_or (λ value. nat_lt value base) (hex_digit_value byte) false

-- what a digit is worth
abbrev pub digit_value : ℕ → ℕ
digit_value byte = unwrap_or (hex_digit_value byte) 0

-- Digits are worth the sum of their values, each times the base for every digit behind it.
abbrev pub digits_value : ℕ → List ℕ → ℕ
digits_value base [] = 0
digits_value base (digit ∷ behind) = digit_value digit * base ^ length behind + digits_value base behind

-- one digit at least and so many at most, all of them of the base, that are worth less than 2^64
abbrev pub is_number_of : ℕ → ℕ → List ℕ → Bool
is_number_of base most digits = nat_le 1 (length digits) && nat_le (length digits) most && list_all (is_digit_of base) digits && nat_lt (digits_value base digits) (2 ^ 64)

-- the value of such digits
abbrev pub digits_number : ℕ → ℕ → List ℕ → Option ℕ
digits_number base most digits = if is_number_of base most digits then Some (digits_value base digits) else None

-- A word is hexadecimal if it begins with `0x`.
abbrev pub is_hexadecimal : List ℕ → Bool
is_hexadecimal word = bytes_eq (take 2 word) (codes "0x")

-- The value of a word that is a number: `0x` and 1 to 16 hexadecimal digits, or 1 to 20 decimal ones.
abbrev pub numeral_of : List ℕ → Option ℕ
numeral_of word = if is_hexadecimal word then digits_number 16 16 (drop 2 word) else digits_number 10 20 word
