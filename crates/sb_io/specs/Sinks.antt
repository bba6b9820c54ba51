-- What a write does.
use Rattle.std.specs.Prelude.{ℕ, ◌≡◌, ◌<◌, ◌≤◌, ◌++◌, List, length, take, Option, option_map}
use Rattle.sb_io.specs.Counts.{FaultsIncreased}
use Rattle.sb_io.specs.declared.sink.Put.{Put}
use Rattle.sb_io.specs.declared.sink.Put.TheVariants.{Took, Failed}

-- What a write does with the bytes that were held, where they are told: those that it took come behind them.
abbrev pub Writes : Option (List ℕ) → Option (List ℕ) → Put → List ℕ → Type 0
Writes before now (Took n) piece = (0 < n) × (n ≤ length piece) × (now ≡ option_map (λ held. held ++ take n piece) before)
Writes before now Failed piece = now ≡ before

-- a write that failed raises the count, and no other changes it
abbrev pub CountsWriteFaults : ℕ → ℕ → Put → Type 0
CountsWriteFaults before now (Took n) = now ≡ before
CountsWriteFaults before now Failed = (before ≤ now) × FaultsIncreased before now
