-- What digits are worth, one after another.
use Rattle.std.proofs.Common.{◌≡◌, ◌≤◌, ◌<◌, ℕ, ◌+◌, ◌*◌, ◌^◌, Bool, true, false, ◌&&◌, List, [], ◌∷◌, ◌++◌, length, take, drop, get_or, Option, Some, None, ◌∙◌, ap, sym, refl, arith, add-one, length-append}
use Rattle.std.specs.Prelude.{nat_lt, unwrap_or, if◌then◌else◌}
use Rattle.std.specs.List.{list_all}
use Rattle.std.specs.Option.{option_map_or}
use Rattle.std.proofs.Math.Nat.{mul-le-mul_left, pow-suc, pow-zero, pow-le-pow_right}
use Rattle.std.proofs.lemmas.Bool.{lt-ltb}
use Rattle.std.proofs.lemmas.Bool.Decides.{nat_tests}
use Rattle.std.proofs.lemmas.List.{take_more, take_all, take-append-drop}
use Rattle.std.proofs.lemmas.List.Folds.{list_all_more}
use Rattle.hex.specs.Hex.{hex_digit_value}
use Rattle.sb_text.specs.Numerals.{is_digit_of, digit_value, digits_value}

-- a digit behind others moves them one place up
digits_value_push : (base : ℕ) (digits : List ℕ) (digit : ℕ) → digits_value base (digits ++ digit ∷ []) ≡ digits_value base digits * base + digit_value digit
digits_value_push base [] digit =
    let one : digit_value digit * base ^ 0 ≡ digit_value digit * 1 = ap (λ (n : ℕ). digit_value digit * n) (pow-zero base) in
    omega (arith, one)
digits_value_push base (first ∷ digits) digit =
    let others = digits_value_push base digits digit in
    let place : base ^ length (digits ++ digit ∷ []) ≡ base ^ length digits * base = ap (λ (n : ℕ). base ^ n) (length-append digits (digit ∷ []) ∙ add-one (length digits)) ∙ pow-suc base (length digits) in
    let up : digit_value first * base ^ length (digits ++ digit ∷ []) ≡ digit_value first * (base ^ length digits * base) = ap (λ (n : ℕ). digit_value first * n) place in
    omega (arith, others, up)

-- the first digits and one more
digits_value_more : (base : ℕ) (digits : List ℕ) (i : ℕ) → i < length digits → digits_value base (take (i + 1) digits) ≡ digits_value base (take i digits) * base + digit_value (get_or digits i 0)
digits_value_more base digits i within = ap (digits_value base) (take_more digits i 0 within) ∙ digits_value_push base (take i digits) (get_or digits i 0)

-- digits are worth no less with others behind them
digits_value_grows : (base : ℕ) (digits behind : List ℕ) → 0 < base → digits_value base digits ≤ digits_value base (digits ++ behind)
digits_value_grows base [] behind some = omega arith
digits_value_grows base (first ∷ digits) behind some =
    let others = digits_value_grows base digits behind some in
    let longer : length digits ≤ length (digits ++ behind) = omega (arith, length-append digits behind) in
    let place : base ^ length digits ≤ base ^ length (digits ++ behind) = pow-le-pow_right some longer in
    let up : digit_value first * base ^ length digits ≤ digit_value first * base ^ length (digits ++ behind) = mul-le-mul_left (digit_value first) place in
    omega (arith, others, up)

-- digits that are worth too much from the front are worth too much
pub too_great : (base : ℕ) (digits : List ℕ) (i limit : ℕ) → 0 < base → limit ≤ digits_value base (take i digits) → nat_lt (digits_value base digits) limit ≡ false
too_great base digits i limit some great =
    let whole : digits_value base (take i digits ++ drop i digits) ≡ digits_value base digits = ap (digits_value base) (take-append-drop i digits) in
    let grows = digits_value_grows base (take i digits) (drop i digits) some in
    let no_less : limit ≤ digits_value base digits = omega (arith, whole, grows) in
    grind (arith, nat_tests)

-- a value read of a byte, below the base, is that digit's
read_below : (value : Option ℕ) (base digit : ℕ) → digit ≡ unwrap_or value 255 → digit < base → base ≤ 16 → (option_map_or (λ v. nat_lt v base) value false ≡ true) × (unwrap_or value 0 ≡ digit)
read_below (Some v) base digit read below few = (lt-ltb v base (omega (arith, read)), sym read)
read_below None base digit read below few = absurd (omega (arith, read))

-- two tests that hold
both_hold : (a b : Bool) → a ≡ true → b ≡ true → (a && b) ≡ true
both_hold a b is_true also = cc

-- the first digits and one more are digits
pub digits_more : (base : ℕ) (digits : List ℕ) (i digit : ℕ) → i < length digits → digit ≡ unwrap_or (hex_digit_value (get_or digits i 0)) 255 → digit < base → base ≤ 16
    → list_all (is_digit_of base) (take i digits) ≡ true → list_all (is_digit_of base) (take (i + 1) digits) ≡ true
digits_more base digits i digit within read below few all =
    list_all_more (is_digit_of base) digits i 0 within
    ∙ both_hold (list_all (is_digit_of base) (take i digits)) (is_digit_of base (get_or digits i 0)) all (read_below (hex_digit_value (get_or digits i 0)) base digit read below few).0

-- and are worth the value before, one place up, and the digit
pub value_more : (base : ℕ) (digits : List ℕ) (i digit value : ℕ) → i < length digits → digit ≡ unwrap_or (hex_digit_value (get_or digits i 0)) 255 → digit < base → base ≤ 16
    → value ≡ digits_value base (take i digits) → value * base + digit ≡ digits_value base (take (i + 1) digits)
value_more base digits i digit value within read below few same =
    let worth = (read_below (hex_digit_value (get_or digits i 0)) base digit read below few).1 in
    ap (λ (v : ℕ). v * base + digit) same
    ∙ ap (λ (d : ℕ). digits_value base (take i digits) * base + d) (sym worth)
    ∙ sym (digits_value_more base digits i within)

-- no value where one of two tests fails
pub none_if : {A : Type 0} (all fits : Bool) (some none : A) → fits ≡ false → none ≡ (if all && fits then some else none)
none_if true fits some none fails = rw fails refl
none_if false fits some none fails = refl

-- the value where both hold
some_if : {A : Type 0} (all fits : Bool) (some none : A) → all ≡ true → fits ≡ true → some ≡ (if all && fits then some else none)
some_if all fits some none holds also = rw (holds, also) refl

-- all digits are read
pub all_read : (base : ℕ) (digits : List ℕ) (i value limit : ℕ) → length digits ≤ i → list_all (is_digit_of base) (take i digits) ≡ true → value ≡ digits_value base (take i digits) → value < limit
    → Some value ≡ (if list_all (is_digit_of base) digits && nat_lt (digits_value base digits) limit then Some (digits_value base digits) else None)
all_read base digits i value limit done all same fits =
    let whole : take i digits ≡ digits = take_all i digits done in
    let is : value ≡ digits_value base digits = same ∙ ap (digits_value base) whole in
    let good : list_all (is_digit_of base) digits ≡ true = ap (list_all (is_digit_of base)) (sym whole) ∙ all in
    let small : nat_lt (digits_value base digits) limit ≡ true = lt-ltb (digits_value base digits) limit (omega (arith, is)) in
    ap (λ (v : ℕ). Some v) is ∙ some_if (list_all (is_digit_of base) digits) (nat_lt (digits_value base digits) limit) (Some (digits_value base digits)) None good small
