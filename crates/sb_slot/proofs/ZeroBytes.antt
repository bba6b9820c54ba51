-- Bytes that are 0, and the first of some that isn't.
use Rattle.std.proofs.Common.{◌≡◌, ◌≤◌, ◌<◌, ◌+◌, ◌-◌, ◌*◌, ◌/◌, ◌%◌, ◌^◌, ◌==◌, ℕ, zero, suc, Bool, true, false, List, [], ◌∷◌, ◌++◌, take, drop, length, replicate, refl, sym, ap, ◌∙◌, arith, add_assoc, add-zero}
use Rattle.std.specs.Prelude.{Some, None, not, if◌then◌else◌}
use Rattle.std.specs.List.{position_from}
use Rattle.std.specs.Option.{option_map}
use Rattle.std.proofs.Math.Nat.{div-div-eq-div-mul, pow-suc, pow-succ'}
use Rattle.std.proofs.lemmas.Nat.{pow-add, div_below, shr_below}
use Rattle.std.proofs.lemmas.List.{replicate-append-replicate, length-append, length-drop, take_at, drop_at, take-replicate, drop-replicate}
use Rattle.sb_slot.proofs.SlotLemmas.{length-number_bytes}
use Rattle.sb_slot.specs.Slots.{number_bytes}
use Rattle.sb_packet.specs.Memories.{bytes_of_number}
use Rattle.sb_slot.specs.SlotFaults.{padding_fault}
use Rattle.sb_slot.specs.declared.item_fault.ItemFault.TheVariants.{Padding}

-- a search that begins at another number finds as much more
pub position_from-shift : (t : ℕ → Bool) (a i : ℕ) (xs : List ℕ) → position_from t (a + i) xs ≡ option_map (λ k. a + k) (position_from t i xs)
position_from-shift t a i [] = refl
position_from-shift t a i (x ∷ xs) =
    elim (t x) as (λ b. (if b then Some (a + i) else position_from t (a + i + 1) xs) ≡ option_map (λ k. a + k) (if b then Some i else position_from t (i + 1) xs))
    [ true ↦ refl | false ↦ rw (add_assoc a i 1) (position_from-shift t a (i + 1) xs) ]

pub position_from-zero : (i n : ℕ) → position_from (λ b. not (b == 0)) i (replicate n 0) ≡ None
position_from-zero i zero = refl
position_from-zero i (suc n) = position_from-zero (i + 1) n

-- where none is found, all are 0
pub zeros_from-None : (i : ℕ) (xs : List ℕ) → position_from (λ b. not (b == 0)) i xs ≡ None → xs ≡ replicate (length xs) 0
zeros_from-None i [] none = refl
zeros_from-None i (zero ∷ xs) none = ap (λ r. 0 ∷ r) (zeros_from-None (i + 1) xs none)
zeros_from-None i (suc x ∷ xs) none =
    let other : (suc x == 0) ≡ false = grind arith in
    let here : Some i ≡ None = rw other at none in
    absurd (cc)

-- the fault of bytes that are all 0, and of others
pub padding_fault-zeros : (place : ℕ) (xs : List ℕ) (n : ℕ) → xs ≡ replicate n 0 → padding_fault place xs ≡ None
padding_fault-zeros place xs n zeros = rw (zeros, position_from-zero place n) refl

pub padding_fault-Some : (place at : ℕ) (xs : List ℕ) → position_from (λ b. not (b == 0)) 0 xs ≡ Some at → Some (Padding (place + at)) ≡ padding_fault place xs
padding_fault-Some place at xs found =
    let shifted : position_from (λ b. not (b == 0)) place xs ≡ option_map (λ k. place + k) (position_from (λ b. not (b == 0)) 0 xs) =
    ap (λ i. position_from (λ b. not (b == 0)) i xs) (sym (add-zero place)) ∙ position_from-shift (λ b. not (b == 0)) place 0 xs in
    rw (shifted, found) refl

-- the bytes of a number behind some of them are those of a quotient
pub drop-bytes_of_number : (i k n : ℕ) → drop i (bytes_of_number k n) ≡ bytes_of_number (k - i) (n / 256 ^ i)
drop-bytes_of_number zero k n =
    let same : n / 256 ^ 0 ≡ n = omega arith in
    let all : k - 0 ≡ k = omega arith in
    rw (same, all) refl
drop-bytes_of_number (suc i) zero n = ap (λ k. bytes_of_number k (n / 256 ^ suc i)) (let none : 0 ≡ 0 - suc i = omega arith in none)
drop-bytes_of_number (suc i) (suc k) n =
    let next : n / 256 / 256 ^ i ≡ n / 256 ^ suc i = div-div-eq-div-mul n 256 (256 ^ i) ∙ ap (λ m. n / m) (sym (pow-succ' 256 i)) in
    let less : suc k - suc i ≡ k - i = omega arith in
    rw (less, ← next) (drop-bytes_of_number i k (n / 256))

pub bytes_of_number-zero : (k : ℕ) → bytes_of_number k 0 ≡ replicate k 0
bytes_of_number-zero zero = refl
bytes_of_number-zero (suc k) = ap (λ r. 0 ∷ r) (bytes_of_number-zero k)

pub pow_256 : (i : ℕ) → 2 ^ (8 * i) ≡ 256 ^ i
pow_256 zero = refl
pow_256 (suc i) =
    let more : 8 * suc i ≡ 8 + 8 * i = omega arith in
    rw (more, pow-add 2 8 (8 * i), pow_256 i) (sym (pow-succ' 256 i))

-- a number below 2 ^ (8 * i) has zeros from byte i on
pub zeros_above : (i n : ℕ) → n / 2 ^ (8 * i) ≡ 0 → drop i (number_bytes n) ≡ replicate (8 - i) 0
unfolding number_bytes
zeros_above i n below =
    let none : n / 256 ^ i ≡ 0 = rw (pow_256 i) at below in
    drop-bytes_of_number i 8 n ∙ rw none (bytes_of_number-zero (8 - i))

-- and none behind its eight
pub zeros_past : (i n : ℕ) → 8 ≤ i → drop i (number_bytes n) ≡ replicate (8 - i) 0
unfolding number_bytes
zeros_past i n past =
    let none : 8 - i ≡ 0 = omega arith in
    drop-bytes_of_number i 8 n ∙ rw none refl

pub drop-append : (i : ℕ) (xs ys : List ℕ) → drop i (xs ++ ys) ≡ drop i xs ++ drop (i - length xs) ys
drop-append zero xs ys = ap (λ n. xs ++ drop n ys) (let none : 0 ≡ 0 - length xs = omega arith in none)
drop-append (suc i) [] ys = ap (λ n. drop n ys) (let all : suc i ≡ suc i - 0 = omega arith in all)
drop-append (suc i) (x ∷ xs) ys = drop-append i xs ys ∙ ap (λ n. drop i xs ++ drop n ys) (let less : i - length xs ≡ suc i - suc (length xs) = omega arith in less)

-- a number that has only zeros is 0
pub zero_from_bytes : (k n : ℕ) → n < 256 ^ k → bytes_of_number k n ≡ replicate k 0 → n ≡ 0
zero_from_bytes zero n below zeros = omega arith
zero_from_bytes (suc k) n below zeros =
    let last : n % 256 ≡ 0 = cc in
    let others : bytes_of_number k (n / 256) ≡ replicate k 0 = cc in
    let less : n / 256 < 256 ^ k = div_below n 256 (256 ^ k) (omega arith) (rw pow-suc at below) in
    let none : n / 256 ≡ 0 = zero_from_bytes k (n / 256) less others in
    omega arith

pub zero_from_number_bytes : (n : ℕ) → n < 2 ^ 64 → number_bytes n ≡ replicate 8 0 → n ≡ 0
unfolding number_bytes
zero_from_number_bytes n below zeros = zero_from_bytes 8 n below zeros

-- the parts of zeros are zeros
pub zeros-split : (xs ys : List ℕ) (m n : ℕ) → length xs ≡ m → xs ++ ys ≡ replicate (m + n) 0 → (xs ≡ replicate m 0) × (ys ≡ replicate n 0)
zeros-split xs ys m n long zeros =
    let less : m ≤ m + n = omega arith in
    let rest : m + n - m ≡ n = omega arith in (
      sym (take_at xs ys m long) ∙ ap (take m) zeros ∙ take-replicate m (m + n) 0 less,
      sym (drop_at xs ys m long) ∙ ap (drop m) zeros ∙ drop-replicate m (m + n) 0 ∙ ap (λ k. replicate k 0) rest,
    )

-- a number that has only zeros from byte i on is below 2 ^ (8 * i)
pub quotient_from_zeros : (i n : ℕ) → n < 2 ^ 64 → i < 8 → drop i (number_bytes n) ≡ replicate (8 - i) 0 → n / 2 ^ (8 * i) ≡ 0
unfolding number_bytes
quotient_from_zeros i n below within zeros =
    let all : 8 * (8 - i) + 8 * i ≡ 64 = omega arith in
    let less : n / 2 ^ (8 * i) < 2 ^ (8 * (8 - i)) = shr_below n (8 * (8 - i)) (8 * i) (rw all below) in
    let fits : n / 256 ^ i < 256 ^ (8 - i) = rw (← pow_256 i, ← pow_256 (8 - i)) less in
    rw (pow_256 i) (zero_from_bytes (8 - i) (n / 256 ^ i) fits (sym (drop-bytes_of_number i 8 n) ∙ zeros))

-- what is behind `from` bytes of four numbers
pub drop-numbers : (from a b c d : ℕ) → drop from (number_bytes a ++ number_bytes b ++ number_bytes c ++ number_bytes d)
    ≡ drop from (number_bytes a) ++ drop (from - 8) (number_bytes b) ++ drop (from - 16) (number_bytes c) ++ drop (from - 24) (number_bytes d)
drop-numbers from a b c d =
    let x = number_bytes a in
    let y = number_bytes b in
    let z = number_bytes c in
    let w = number_bytes d in
    let two : length (x ++ y) ≡ 16 = simp (length-append, length-number_bytes) in
    let three : length (x ++ y ++ z) ≡ 24 = simp (length-append, length-number_bytes) in
    drop-append from (x ++ y ++ z) w
    ∙ ap (λ n. drop from (x ++ y ++ z) ++ drop (from - n) w) three
    ∙ ap (λ r. r ++ drop (from - 24) w) (drop-append from (x ++ y) z)
    ∙ ap (λ n. drop from (x ++ y) ++ drop (from - n) z ++ drop (from - 24) w) two
    ∙ ap (λ r. r ++ drop (from - 16) z ++ drop (from - 24) w) (drop-append from x y)
    ∙ ap (λ n. drop from x ++ drop (from - n) y ++ drop (from - 16) z ++ drop (from - 24) w) (length-number_bytes a)

-- each of four numbers has only zeros behind `from` bytes of them all
pub record AreShort (from a b c d : ℕ) : Type 0 where
  pub first : drop from (number_bytes a) ≡ replicate (8 - from) 0
  pub second : drop (from - 8) (number_bytes b) ≡ replicate (8 - (from - 8)) 0
  pub third : drop (from - 16) (number_bytes c) ≡ replicate (8 - (from - 16)) 0
  pub fourth : drop (from - 24) (number_bytes d) ≡ replicate (8 - (from - 24)) 0

pub zeros_joined : (from a b c d : ℕ) → from ≤ 32 → AreShort from a b c d
    → drop from (number_bytes a ++ number_bytes b ++ number_bytes c ++ number_bytes d) ≡ replicate (32 - from) 0
zeros_joined from a b c d within h =
    let all : 32 - from ≡ (8 - from) + (8 - (from - 8)) + (8 - (from - 16)) + (8 - (from - 24)) = omega arith in
    drop-numbers from a b c d ∙ rw (h.first, h.second, h.third, h.fourth, all) (simp replicate-append-replicate)

pub length-drop-number_bytes : (i n : ℕ) → length (drop i (number_bytes n)) ≡ 8 - i
length-drop-number_bytes i n = length-drop i (number_bytes n) ∙ ap (λ k. k - i) (length-number_bytes n)

pub zeros_apart : (from a b c d : ℕ) → from ≤ 32
    → drop from (number_bytes a ++ number_bytes b ++ number_bytes c ++ number_bytes d) ≡ replicate (32 - from) 0 → AreShort from a b c d
zeros_apart from a b c d within zeros =
    let x = drop from (number_bytes a) in
    let y = drop (from - 8) (number_bytes b) in
    let z = drop (from - 16) (number_bytes c) in
    let w = drop (from - 24) (number_bytes d) in
    let k = 8 - from in
    let l = 8 - (from - 8) in
    let m = 8 - (from - 16) in
    let n = 8 - (from - 24) in
    let all : 32 - from ≡ k + l + m + n = omega arith in
    let one : length x ≡ k = length-drop-number_bytes from a in
    let two : length (x ++ y) ≡ k + l = length-append x y ∙ ap (λ j. j + length y) one ∙ ap (λ j. k + j) (length-drop-number_bytes (from - 8) b) in
    let three : length (x ++ y ++ z) ≡ k + l + m = length-append (x ++ y) z ∙ ap (λ j. j + length z) two ∙ ap (λ j. k + l + j) (length-drop-number_bytes (from - 16) c) in
    let whole : x ++ y ++ z ++ w ≡ replicate (k + l + m + n) 0 = sym (drop-numbers from a b c d) ∙ zeros ∙ ap (λ j. replicate j 0) all in
    let last = zeros-split (x ++ y ++ z) w (k + l + m) n three whole in
    let middle = zeros-split (x ++ y) z (k + l) m two last.0 in
    let front = zeros-split x y k l one middle.0 in
    record { first = front.0; second = front.1; third = middle.1; fourth = last.1 }
