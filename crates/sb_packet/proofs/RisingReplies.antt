-- Accesses whose reply addresses rise.
use Rattle.std.proofs.Common.{◌≡◌, ◌≤◌, ◌<◌, ℕ, zero, suc, ◌+◌, ◌*◌, List, [], ◌∷◌, ◌++◌, arith, subst, add-zero}
use Rattle.std.specs.Prelude.{map, All, AllPairs}
use Rattle.std.specs.List.{range_with_len}
use Rattle.std.proofs.lemmas.List.Elements.{All-cons}
use Rattle.std.proofs.lemmas.List.Kept.{AllPairs-cons}
use Rattle.sb_packet.specs.Accesses.{Access}

-- each reply address is above all those before it, and at least n
abbrev pub Rises : ℕ → List Access → Type 0
Rises n [] = Unit {0}
Rises n (a ∷ rest) = (n ≤ a.src) × Rises (a.src + 1) rest

-- what rises from n rises from less
pub rises_less : (n k : ℕ) (xs : List Access) → n ≤ k → Rises k xs → Rises n xs
rises_less n k [] le h = tt
rises_less n k (x ∷ xs) le h = (omega (arith, h.0), h.1)

-- words that each lie one word further rise, before what rises from their end
pub rises_words : (f : ℕ → Access) (base s : ℕ) → 0 < s → ((j : ℕ) → (f j).src ≡ base + j * s) → (a k : ℕ) (rest : List Access) → Rises (base + (a + k) * s) rest → Rises (base + a * s) (map f (range_with_len a k) ++ rest)
rises_words f base s some at a zero rest h = subst (λ (n : ℕ). Rises (base + n * s) rest) (add-zero a) h
rises_words f base s some at a (suc k) rest h =
    let src : (f a).src ≡ base + a * s = at a in
    let same : a + suc k ≡ a + 1 + k = omega arith in
    let later = rises_words f base s some at (a + 1) k rest (subst (λ (n : ℕ). Rises (base + n * s) rest) same h) in
    (omega arith, rises_less ((f a).src + 1) (base + (a + 1) * s) _ (omega arith) later)

all_above : (n : ℕ) (xs : List Access) → Rises n xs → All (λ b. n ≤ b.src) xs
all_above n [] h = λ i d below. absurd (omega arith)
all_above n (x ∷ xs) h = All-cons (λ b. n ≤ b.src) x xs h.0 (all_above n xs (rises_less n (x.src + 1) xs (omega (arith, h.0)) h.1))

-- where they rise, each access is below all later ones
pub pairs_from_rises : (n : ℕ) (xs : List Access) → Rises n xs → AllPairs (λ a b. a.src < b.src) xs
pairs_from_rises n [] h = λ i j d below inside. absurd (omega arith)
pairs_from_rises n (x ∷ xs) h =
    let above : All (λ b. x.src < b.src) xs = λ i d below. let least = all_above (x.src + 1) xs h.1 i d below in omega (arith, least) in
    AllPairs-cons (λ a b. a.src < b.src) x xs above (pairs_from_rises (x.src + 1) xs h.1)
