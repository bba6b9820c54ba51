-- The widths to which packets are cut and up to which they are merged. This project's own.
use Rattle.std.specs.Prelude.{ℕ, ◌≡◌, ◌⊎◌}

-- a packet is cut to parts of 8, 16 or 32 bytes
abbrev pub IsCutWidth : ℕ → Type 0
IsCutWidth width = (width ≡ 8) ⊎ ((width ≡ 16) ⊎ (width ≡ 32))
