-- Counts of faults.
use Rattle.std.specs.Prelude.{ℕ, ◌+◌, ◌-◌, ◌^◌, ◌≤◌, min}

-- A count rose: it is greater than before, or stands at the end of a 64-bit number.
abbrev pub FaultsIncreased : ℕ → ℕ → Type 0
FaultsIncreased before now = min (before + 1) (2 ^ 64 - 1) ≤ now

-- a count that rises by one, but for its end
abbrev pub raised : ℕ → ℕ
raised count = min (count + 1) (2 ^ 64 - 1)
