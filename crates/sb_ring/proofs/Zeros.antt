-- A row of zeros.
use Rattle.std.proofs.Common.{◌≡◌, ℕ, zero, suc, get_or, refl}
use Rattle.std.proofs.Math.ListN.{replicate}

pub zero_at : (n j : ℕ) → ◌≡◌ {A = ℕ} (get_or (replicate {A = ℕ} n 0) j 0) 0
zero_at zero j = refl
zero_at (suc n) zero = refl
zero_at (suc n) (suc j) = zero_at n j
