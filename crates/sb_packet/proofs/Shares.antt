-- The words of bytes: word by word they are the bytes again, and each is a whole word.
use Rattle.std.proofs.Common.{◌≡◌, ◌≤◌, ◌<◌, ℕ, zero, suc, ◌+◌, ◌-◌, ◌*◌, ◌^◌, List, ◌++◌, refl, ap, arith, take, drop, length, zero-mul}
use Rattle.std.specs.Prelude.{flat_map}
use Rattle.std.specs.List.{range_with_len}
use Rattle.std.proofs.Math.Nat.{mul-le-mul_right}
use Rattle.std.proofs.lemmas.List.{drop-take, take-take, drop-drop, length-take, length-drop}
use Rattle.std.proofs.Math.Seq.{take-add}
use Rattle.sb_packet.specs.Accesses.{share}

-- words a to a + k, one after another, are the bytes from the one place to the other
pub shares_joined : (size : ℕ) (bytes : List ℕ) (a k : ℕ) → flat_map (λ j. share size j bytes) (range_with_len a k) ≡ take (k * 2 ^ size) (drop (a * 2 ^ size) bytes)
shares_joined size bytes a zero = rw zero-mul refl
shares_joined size bytes a (suc k) =
    let s = 2 ^ size in
    let split : suc k * s ≡ s + k * s = omega arith in
    let next : a * s + s ≡ (a + 1) * s = omega arith in
    rw (split, take-add s (k * s) (drop (a * s) bytes), drop-drop, next) (ap (λ (rest : List ℕ). share size a bytes ++ rest) (shares_joined size bytes (a + 1) k))

-- a word of the first n words is a word of the whole
pub share-take : (size j n : ℕ) (bytes : List ℕ) → j < n → share size j (take (n * 2 ^ size) bytes) ≡ share size j bytes
share-take size j n bytes h =
    let s = 2 ^ size in
    let within : (j + 1) * s ≤ n * s = mul-le-mul_right s (omega arith) in
    let room : n * s ≡ j * s + (n * s - j * s) = omega (arith, within) in
    let fits : s ≤ n * s - j * s = omega (arith, within) in
    rw room (rw drop-take (rw take-take refl))

-- word j of what stands from a place on is what stands j words on
pub share-drop : (size j place : ℕ) (bytes : List ℕ) → share size j (drop place bytes) ≡ take (2 ^ size) (drop (place + j * 2 ^ size) bytes)
share-drop size j place bytes = rw drop-drop refl

-- a word of long enough bytes has all its bytes
pub length-share : (size j n : ℕ) (bytes : List ℕ) → n * 2 ^ size ≤ length bytes → j < n → length (share size j bytes) ≡ 2 ^ size
length-share size j n bytes long h =
    let s = 2 ^ size in
    let within : (j + 1) * s ≤ n * s = mul-le-mul_right s (omega arith) in
    simp (length-take, length-drop) (omega (arith, within))
