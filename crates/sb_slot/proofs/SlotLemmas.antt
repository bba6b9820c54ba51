-- The bytes of a slot's numbers.
use Rattle.std.proofs.Common.{◌≡◌, ◌<◌, ◌+◌, ◌/◌, ◌%◌, ◌^◌, ℕ, zero, suc, List, [], ◌++◌, take, drop, length, replicate, refl, sym, ap, ◌∙◌, arith}
use Rattle.std.proofs.lemmas.List.{append_assoc, append-nil, length-append, take_at, drop_at, take-append-drop, drop-drop, take_all, length-drop}
use Rattle.std.proofs.Math.Nat.{div-div-eq-div-mul, pow-suc}
use Rattle.std.proofs.lemmas.Nat.{div_below}
use Rattle.std.specs.Int.{w64, to_le_bytes, byte_at, bytes_low_first}
use Rattle.sb_packet.specs.Memories.{bytes_of_number, number_of, overwritten}
use Rattle.sb_slot.specs.Slots.{number_bytes, body_number}

pub byte_at-of : (i n : ℕ) → byte_at i n ≡ n / 256 ^ i % 256
byte_at-of zero n = omega arith
byte_at-of (suc i) n = refl

-- bytes from one place on are the bytes of a quotient
pub bytes_low_first-of : (i k n : ℕ) → bytes_low_first i k n ≡ bytes_of_number k (n / 256 ^ i)
bytes_low_first-of i zero n = refl
bytes_low_first-of i (suc k) n =
    let next : n / 256 ^ suc i ≡ n / 256 ^ i / 256 = ap (λ m. n / m) (pow-suc 256 i) ∙ sym (div-div-eq-div-mul n (256 ^ i) 256) in
    rw (byte_at-of i n, bytes_low_first-of (suc i) k n, next) refl

pub le_bytes_of_number : (n : ℕ) → to_le_bytes w64 n ≡ number_bytes n
unfolding number_bytes
le_bytes_of_number n = bytes_low_first-of 0 8 n ∙ ap (bytes_of_number 8) (let same : n / 256 ^ 0 ≡ n = omega arith in same)

-- 32 bytes are their four parts of 8
pub four_parts : (body : List ℕ) → length body ≡ 32
    → take 8 body ++ take 8 (drop 8 body) ++ take 8 (drop 16 body) ++ take 8 (drop 24 body) ≡ body
four_parts body whole =
    let last : take 8 (drop 24 body) ≡ drop 24 body = take_all 8 (drop 24 body) (omega (arith, length-drop 24 body)) in
    let third : take 8 (drop 16 body) ++ drop 24 body ≡ drop 16 body = ap (λ r. take 8 (drop 16 body) ++ r) (sym (drop-drop 8 16 body)) ∙ take-append-drop 8 (drop 16 body) in
    let second : take 8 (drop 8 body) ++ drop 16 body ≡ drop 8 body = ap (λ r. take 8 (drop 8 body) ++ r) (sym (drop-drop 8 8 body)) ∙ take-append-drop 8 (drop 8 body) in
    rw last (simp append_assoc (rw (third, second) (take-append-drop 8 body)))

-- numbers that have the bytes of its parts have the bytes of a body
pub parts_joined : (a b c d : ℕ) (body : List ℕ) → length body ≡ 32
    → number_bytes a ≡ take 8 body → number_bytes b ≡ take 8 (drop 8 body)
    → number_bytes c ≡ take 8 (drop 16 body) → number_bytes d ≡ take 8 (drop 24 body)
    → number_bytes a ++ number_bytes b ++ number_bytes c ++ number_bytes d ≡ body
parts_joined a b c d body whole first second third fourth =
    ap (λ x. x ++ number_bytes b ++ number_bytes c ++ number_bytes d) first
    ∙ ap (λ x. take 8 body ++ x ++ number_bytes c ++ number_bytes d) second
    ∙ ap (λ x. take 8 body ++ take 8 (drop 8 body) ++ x ++ number_bytes d) third
    ∙ ap (λ x. take 8 body ++ take 8 (drop 8 body) ++ take 8 (drop 16 body) ++ x) fourth
    ∙ four_parts body whole

pub length-number_bytes : (n : ℕ) → length (number_bytes n) ≡ 8
unfolding number_bytes
length-number_bytes n = refl

-- a part written over another of its length
pub overwritten-joined : (xs old ys new : List ℕ) (n : ℕ) → length xs ≡ n → length old ≡ 8 → length new ≡ 8 → overwritten (xs ++ (old ++ ys)) n new ≡ xs ++ new ++ ys
overwritten-joined xs old ys new n before whole eight =
    let front : take n (xs ++ (old ++ ys)) ≡ xs = take_at xs (old ++ ys) n before in
    let long : length (xs ++ old) ≡ n + length new = simp length-append (omega arith) in
    let back : drop (n + length new) (xs ++ (old ++ ys)) ≡ ys = ap (drop (n + length new)) (sym (append_assoc xs old ys)) ∙ drop_at (xs ++ old) ys (n + length new) long in
    rw (front, back) refl

-- four parts written into zeros, one after another
pub parts_written : (a b c d : List ℕ) → length a ≡ 8 → length b ≡ 8 → length c ≡ 8 → length d ≡ 8
    → overwritten (overwritten (overwritten (overwritten (replicate 32 0) 0 a) 8 b) 16 c) 24 d ≡ a ++ b ++ c ++ d
parts_written a b c d first second third fourth =
    let none : overwritten (replicate 32 0) 0 a ≡ a ++ replicate 24 0 = overwritten-joined [] (replicate 8 0) (replicate 24 0) a 0 refl refl first in
    let one : overwritten (a ++ replicate 24 0) 8 b ≡ a ++ b ++ replicate 16 0 = overwritten-joined a (replicate 8 0) (replicate 16 0) b 8 first refl second in
    let two : overwritten (a ++ b ++ replicate 16 0) 16 c ≡ a ++ b ++ c ++ replicate 8 0 =
    overwritten-joined (a ++ b) (replicate 8 0) (replicate 8 0) c 16 (simp length-append (omega arith)) refl third in
    let three : overwritten (a ++ b ++ c ++ replicate 8 0) 24 d ≡ a ++ b ++ c ++ d ++ [] =
    overwritten-joined (a ++ b ++ c) (replicate 8 0) [] d 24 (simp length-append (omega arith)) refl fourth in
    ap (λ r. overwritten (overwritten (overwritten r 8 b) 16 c) 24 d) none
    ∙ ap (λ r. overwritten (overwritten r 16 c) 24 d) one
    ∙ ap (λ r. overwritten r 24 d) two ∙ three ∙ append-nil (a ++ b ++ c ++ d)

-- the bytes of a number are worth the number
pub number_of-bytes_of_number : (k n : ℕ) → n < 256 ^ k → number_of (bytes_of_number k n) ≡ n
number_of-bytes_of_number zero n below = omega arith
number_of-bytes_of_number (suc k) n below =
    let less : n / 256 < 256 ^ k = div_below n 256 (256 ^ k) (omega arith) (rw pow-suc at below) in
    let rest : number_of (bytes_of_number k (n / 256)) ≡ n / 256 = number_of-bytes_of_number k (n / 256) less in
    rw rest (omega arith)

pub number_of-number_bytes : (n : ℕ) → n < 2 ^ 64 → number_of (number_bytes n) ≡ n
unfolding number_bytes
number_of-number_bytes n below = number_of-bytes_of_number 8 n below

-- the numbers of a body that is four parts
pub body_number-parts : (a b c d : List ℕ) → length a ≡ 8 → length b ≡ 8 → length c ≡ 8 → length d ≡ 8 → let body = a ++ b ++ c ++ d in
    (body_number 0 body ≡ number_of a) × (body_number 8 body ≡ number_of b) × (body_number 16 body ≡ number_of c) × (body_number 24 body ≡ number_of d)
body_number-parts a b c d first second third fourth =
    let two : length (a ++ b) ≡ 16 = simp length-append (omega arith) in
    let three : length (a ++ b ++ c) ≡ 24 = simp length-append (omega arith) in
    let left : a ++ b ++ c ++ d ≡ a ++ (b ++ c ++ d) = simp append_assoc in
    let middle : a ++ b ++ c ++ d ≡ a ++ b ++ (c ++ d) = simp append_assoc in
    let head : take 8 (drop 0 (a ++ b ++ c ++ d)) ≡ a = ap (take 8) left ∙ take_at a (b ++ c ++ d) 8 first in
    let next : take 8 (drop 8 (a ++ b ++ c ++ d)) ≡ b =
    ap (λ r. take 8 (drop 8 r)) left ∙ ap (take 8) (drop_at a (b ++ c ++ d) 8 first) ∙ ap (take 8) (append_assoc b c d) ∙ take_at b (c ++ d) 8 second in
    let then : take 8 (drop 16 (a ++ b ++ c ++ d)) ≡ c =
    ap (λ r. take 8 (drop 16 r)) middle ∙ ap (take 8) (drop_at (a ++ b) (c ++ d) 16 two) ∙ take_at c d 8 third in
    let last : take 8 (drop 24 (a ++ b ++ c ++ d)) ≡ d =
    ap (take 8) (drop_at (a ++ b ++ c) d 24 three) ∙ take_all 8 d (omega arith) in
    (ap number_of head, ap number_of next, ap number_of then, ap number_of last)
