-- What a read does.
use Rattle.std.specs.Prelude.{ℕ, ◌≡◌, ◌<◌, ◌≤◌, List, [], length, take, drop, Option, IfSome, option_map}
use Rattle.sb_io.specs.Counts.{FaultsIncreased}
use Rattle.sb_io.specs.declared.source.Got.{Got}
use Rattle.sb_io.specs.declared.source.Got.TheVariants.{Bytes, End, Failed}

-- What a read does with the bytes that were left, where they are told: it takes those that it answers from their front, and it answers the end only where none is left.
abbrev pub Reads : Option (List ℕ) → Option (List ℕ) → Got → List ℕ → Type 0
Reads before now (Bytes n) buf = (0 < n) × (n ≤ length buf) × (now ≡ option_map (drop n) before) × IfSome before (λ left. take n left ≡ take n buf)
Reads before now End buf = (now ≡ before) × IfSome before (λ left. left ≡ [])
Reads before now Failed buf = now ≡ before

-- a read that failed raises the count, and no other changes it
abbrev pub CountsReadFaults : ℕ → ℕ → Got → Type 0
CountsReadFaults before now (Bytes n) = now ≡ before
CountsReadFaults before now End = now ≡ before
CountsReadFaults before now Failed = (before ≤ now) × FaultsIncreased before now
