-- Words by their size, sums that wrap, and the order of two's complement.
use Rattle.std.proofs.Common.{◌≡◌, ◌≤◌, ◌<◌, ℕ, zero, suc, ◌+◌, ◌-◌, ◌*◌, ◌/◌, ◌%◌, ◌^◌, ℤ, pos, negsuc, leb, inl, inr, refl, ap, sym, ◌∙◌, arith}
use Rattle.std.specs.Prelude.{bit_and, bit_xor, int_le}
use Rattle.std.specs.Int.Bits.{xor_zero_r}
use Rattle.std.proofs.Math.Pow.{mod-mod-pow}
use Rattle.std.proofs.lemmas.Nat.{and_mask, xor_block}
use Rattle.std.proofs.lemmas.Bool.{le-leb, lt-leb, cases_lt}
use Rattle.std.proofs.lemmas.Bool.Decides.{nat_tests}
use Rattle.sb_packet.specs.Memories.{twos_complement, signed_le}

-- a fact of each of the four sizes of a word
pub each_size : (P : ℕ → Type 0) → P 0 → P 1 → P 2 → P 3 → (size : ℕ) → size ≤ 3 → P size
each_size P a b c d zero h = a
each_size P a b c d (suc zero) h = b
each_size P a b c d (suc (suc zero)) h = c
each_size P a b c d (suc (suc (suc zero))) h = d
each_size P a b c d (suc (suc (suc (suc n)))) h = absurd (omega arith)

-- a word has 1 to 8 bytes
pub word_length : (size : ℕ) → size ≤ 3 → 2 ^ size ≤ 8
word_length = each_size (λ s. 2 ^ s ≤ 8) (omega arith) (omega arith) (omega arith) (omega arith)

-- the last k bits of a sum of 64 bits are those of the sum
masked : (j k n g : ℕ) → j + k ≡ 64 → g + 1 ≡ 2 ^ k → bit_and (n % 2 ^ (j + k)) g ≡ n % 2 ^ k
masked j k n g whole greatest =
    let mask : g ≡ 2 ^ k - 1 = omega arith in
    rw mask (and_mask (n % 2 ^ (j + k)) k ∙ mod-mod-pow n j k)

pub wrapped : (size n g : ℕ) → size ≤ 3 → g + 1 ≡ 256 ^ 2 ^ size → bit_and (n % 18446744073709551616) g ≡ n % 256 ^ 2 ^ size
wrapped size n g fits greatest =
    each_size (λ s. g + 1 ≡ 256 ^ 2 ^ s → bit_and (n % 18446744073709551616) g ≡ n % 256 ^ 2 ^ s)
    (λ h. masked 56 8 n g refl h) (λ h. masked 48 16 n g refl h) (λ h. masked 32 32 n g refl h) (λ h. masked 0 64 n g refl h) size fits greatest

-- to turn the bit over that is worth 2 ^ k, in a number below 2 ^ k
flipped_low : (k a : ℕ) → a < 2 ^ k → bit_xor a (2 ^ k) ≡ a + 2 ^ k
flipped_low k a low =
    let none : 0 < 2 ^ k = omega arith in
    let block = xor_block k 0 1 a 0 low none in
    let left : 0 * 2 ^ k + a ≡ a = omega arith in
    let right : 1 * 2 ^ k + 0 ≡ 2 ^ k = omega arith in
    let flipped : bit_xor a (2 ^ k) ≡ 1 * 2 ^ k + bit_xor a 0 = rw (left, right) at block in
    flipped ∙ rw xor_zero_r (omega arith)

-- and in one from there on
flipped_high : (k a : ℕ) → 2 ^ k ≤ a → a < 2 * 2 ^ k → bit_xor a (2 ^ k) ≡ a - 2 ^ k
flipped_high k a high below =
    let none : 0 < 2 ^ k = omega arith in
    let rest : a - 2 ^ k < 2 ^ k = omega arith in
    let block = xor_block k 1 1 (a - 2 ^ k) 0 rest none in
    let left : 1 * 2 ^ k + (a - 2 ^ k) ≡ a = omega arith in
    let right : 1 * 2 ^ k + 0 ≡ 2 ^ k = omega arith in
    let flipped : bit_xor a (2 ^ k) ≡ 0 * 2 ^ k + bit_xor (a - 2 ^ k) 0 = rw (left, right) at block in
    flipped ∙ rw xor_zero_r (omega arith)

-- a word with no sign bit stands for itself, one with it for a number below 0
low_word : (modulus a : ℕ) → a < modulus / 2 → twos_complement modulus a ≡ pos a
low_word modulus a low = grind (arith, nat_tests)

high_word : (modulus a : ℕ) → modulus / 2 ≤ a → a < modulus → twos_complement modulus a ≡ negsuc (modulus - 1 - a)
high_word modulus a high below = grind (arith, nat_tests)

-- tests of the same fact
same_test : (a b c d : ℕ) → (a ≤ b → c ≤ d) → (c ≤ d → a ≤ b) → leb a b ≡ leb c d
same_test a b c d there back = grind (arith, nat_tests)

-- both orders, by what the words are
compared : (s modulus a b x y : ℕ) (u v : ℤ) → bit_xor a s ≡ x → bit_xor b s ≡ y → twos_complement modulus a ≡ u → twos_complement modulus b ≡ v → leb x y ≡ int_le u v → leb (bit_xor a s) (bit_xor b s) ≡ signed_le modulus a b
compared s modulus a b x y u v flipped_a flipped_b word_a word_b same =
    ap (λ (n : ℕ). leb n (bit_xor b s)) flipped_a ∙ ap (λ (n : ℕ). leb x n) flipped_b ∙ same
    ∙ sym (ap (λ (z : ℤ). int_le z (twos_complement modulus b)) word_a ∙ ap (λ (z : ℤ). int_le u z) word_b)

-- with the sign bits turned over, the order of two's complement is that of numbers without sign
flipped_order : (k modulus a b : ℕ) → modulus ≡ 2 * 2 ^ k → a < modulus → b < modulus → leb (bit_xor a (2 ^ k)) (bit_xor b (2 ^ k)) ≡ signed_le modulus a b
flipped_order k modulus a b e below_a below_b =
    let s = 2 ^ k in
    let half : modulus / 2 ≡ s = omega arith in
    elim (cases_lt a s) [
      | inl low_a ↦ elim (cases_lt b s) [
        | inl low_b ↦ compared s modulus a b (a + s) (b + s) (pos a) (pos b) (flipped_low k a low_a) (flipped_low k b low_b) (low_word modulus a (omega arith)) (low_word modulus b (omega arith))
            (same_test (a + s) (b + s) a b (λ h. omega arith) (λ h. omega arith))
        | inr high_b ↦ compared s modulus a b (a + s) (b - s) (pos a) (negsuc (modulus - 1 - b)) (flipped_low k a low_a) (flipped_high k b high_b (omega arith)) (low_word modulus a (omega arith)) (high_word modulus b (omega arith) below_b)
            (lt-leb (a + s) (b - s) (omega arith))
      ]
      | inr high_a ↦ elim (cases_lt b s) [
        | inl low_b ↦ compared s modulus a b (a - s) (b + s) (negsuc (modulus - 1 - a)) (pos b) (flipped_high k a high_a (omega arith)) (flipped_low k b low_b) (high_word modulus a (omega arith) below_a) (low_word modulus b (omega arith))
            (le-leb (a - s) (b + s) (omega arith))
        | inr high_b ↦ compared s modulus a b (a - s) (b - s) (negsuc (modulus - 1 - a)) (negsuc (modulus - 1 - b)) (flipped_high k a high_a (omega arith)) (flipped_high k b high_b (omega arith)) (high_word modulus a (omega arith) below_a) (high_word modulus b (omega arith) below_b)
            (same_test (a - s) (b - s) (modulus - 1 - b) (modulus - 1 - a) (λ h. omega arith) (λ h. omega arith))
      ]
    ]

-- the same for a word of that size, by its sign bit
order_at : (k modulus a b sign : ℕ) → modulus ≡ 2 * 2 ^ k → sign * 2 ≡ modulus → a < modulus → b < modulus → leb (bit_xor a sign) (bit_xor b sign) ≡ signed_le modulus a b
order_at k modulus a b sign e half below_a below_b =
    let worth : sign ≡ 2 ^ k = omega arith in
    ap (λ (n : ℕ). leb (bit_xor a n) (bit_xor b n)) worth ∙ flipped_order k modulus a b e below_a below_b

pub signed_order : (size a b sign : ℕ) → size ≤ 3 → sign * 2 ≡ 256 ^ 2 ^ size → a < 256 ^ 2 ^ size → b < 256 ^ 2 ^ size → leb (bit_xor a sign) (bit_xor b sign) ≡ signed_le (256 ^ 2 ^ size) a b
signed_order size a b sign fits half below_a below_b =
    each_size (λ s. sign * 2 ≡ 256 ^ 2 ^ s → a < 256 ^ 2 ^ s → b < 256 ^ 2 ^ s → leb (bit_xor a sign) (bit_xor b sign) ≡ signed_le (256 ^ 2 ^ s) a b)
    (order_at 7 256 a b sign refl) (order_at 15 65536 a b sign refl) (order_at 31 4294967296 a b sign refl) (order_at 63 18446744073709551616 a b sign refl) size fits half below_a below_b
