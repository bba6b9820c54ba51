-- Whether each device's way has a link, as the digits of a number.
use Rattle.std.proofs.Common.{◌≡◌, ℕ, zero, suc, ◌+◌, ◌*◌, ◌/◌, ◌%◌, ◌^◌, Bool, true, false, List, [], ◌∷◌, refl, ap, sym, ◌∙◌, arith}
use Rattle.std.specs.Prelude.{map, ◌==◌, if◌then◌else◌}
use Rattle.std.specs.List.{range_with_len}
use Rattle.std.proofs.Math.Nat.{zero-div}
use Rattle.std.proofs.lemmas.Nat.{shr-shr}
use Rattle.sb_link.specs.Plans.{bits_of}
use Rattle.sb_flow.specs.Tables.{FlowTable}
use Rattle.sb_flow.specs.Gathered.{devices_on, is_device_on, is_on, mask_of}
use Rattle.sb_flow.proofs.LinkMarks.{map_range_agree}

-- 1 for true
abbrev digit : Bool → ℕ
digit b = if b then 1 else 0

-- the lowest digit of a number, and the others
digit_first : (b : Bool) (n : ℕ) → ((digit b + 2 * n) / 2 ^ 0 % 2 == 1) ≡ b
digit_first true n = let e : (1 + 2 * n) / 2 ^ 0 % 2 ≡ 1 = omega arith in rw e refl
digit_first false n = let e : (0 + 2 * n) / 2 ^ 0 % 2 ≡ 0 = omega arith in rw e refl

half : (b : Bool) (n : ℕ) → (digit b + 2 * n) / 2 ≡ n
half true n = omega arith
half false n = omega arith

digit_later : (b : Bool) (n d : ℕ) → (digit b + 2 * n) / 2 ^ suc d ≡ n / 2 ^ d
digit_later b n d = let e : 1 + d ≡ suc d = omega arith in rw (← e) (sym (shr-shr (digit b + 2 * n) 1 d) ∙ ap (λ m. m / 2 ^ d) (half b n))

-- digit d of the mask is that of device d
mask_digit : (k : ℕ) (flows : List FlowTable) (d : ℕ) → (mask_of k flows / 2 ^ d % 2 == 1) ≡ is_device_on k flows d
mask_digit k [] d = rw (zero-div (2 ^ d)) refl
mask_digit k (f ∷ flows) zero = digit_first (is_on k f) (mask_of k flows)
mask_digit k (f ∷ flows) (suc d) = rw (digit_later (is_on k f) (mask_of k flows) d) (mask_digit k flows d)

-- the digits of a mask
pub bits_of_mask : (k : ℕ) (flows : List FlowTable) → bits_of (mask_of k flows) ≡ devices_on k flows
bits_of_mask k flows = map_range_agree (λ d. mask_of k flows / 2 ^ d % 2 == 1) (is_device_on k flows) 0 32 (λ d low high. mask_digit k flows d)

-- a table of masks is one of digits
pub map_bits : (masks : ℕ → ℕ) (digits : ℕ → List Bool) (a n : ℕ) → ((k : ℕ) → bits_of (masks k) ≡ digits k) → map bits_of (map masks (range_with_len a n)) ≡ map digits (range_with_len a n)
map_bits masks digits a zero same = refl
map_bits masks digits a (suc n) same = rw (same a, map_bits masks digits (a + 1) n same) refl
