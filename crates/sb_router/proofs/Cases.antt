-- Cases of places.
use Rattle.std.proofs.Common.{◌≡◌, ◌⊎◌, inl, inr, ℕ, ◌<◌, ◌+◌, arith}
use Rattle.std.proofs.lemmas.Bool.{cases_eq}

-- a place is before another one, or that one
pub le_cases : (j n : ℕ) → j < n + 1 → (j < n) ⊎ (j ≡ n)
le_cases j n below = elim (cases_eq j n) [
  | inl e ↦ inr e
  | inr other ↦ inl (omega (arith, below, other))
]
