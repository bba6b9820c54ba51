-- What those tell of a run who print it.
use Rattle.std.specs.Prelude.{ℕ, ◌≡◌, ◌<◌, List, [], length, map, slice_index_or}
use Rattle.sb_packet.specs.Networks.{Network, device_size}
use Rattle.sb_packet.specs.Answers.{Outcome, RunResults}

-- what the transactions of the host at that place came to
abbrev pub told_outcomes : RunResults → ℕ → List Outcome
told_outcomes told host = slice_index_or told.outcomes host []

-- it has a transaction of that number
abbrev pub HasOutcome : RunResults → ℕ → ℕ → Type 0
HasOutcome told host index = index < length (told_outcomes told host)

-- what that transaction came to; at other places it is `none`
abbrev pub told_outcome : RunResults → ℕ → ℕ → Outcome → Outcome
told_outcome told host index none = slice_index_or (told_outcomes told host) index none

-- the bytes of the device at that place
abbrev pub told_image : RunResults → ℕ → List ℕ
told_image told device = slice_index_or told.images device []

-- Results are of a network's size: as many outcomes for each host as its script has transactions, and as many bytes for each device as it has.
pub record FitsNetwork (network : Network) (told : RunResults) : Type 0 where
  pub outcomes : map length told.outcomes ≡ map (λ h. length h.script) network.hosts
  pub images : map length told.images ≡ map device_size network.devices
