-- The devices so far, in 32 places.
use Rattle.std.proofs.Common.{◌≡◌, ◌<◌, ℕ, get_or, length}
use Rattle.std.specs.Prelude.{slice_get}
use Rattle.std.specs.Option.{option_map_or}
use Rattle.sb_packet.specs.Networks.{device_size}
use Rattle.sb_flow.specs.Rows.{device_of}
use Rattle.sb_flow.proofs.ranges.sizes.Given as goal

abbrev pub invariant-loop-place : goal.invariant-loop-place
invariant-loop-place l = (length l.sizes ≡ 32) × ((k : ℕ) → k < l.place → get_or l.sizes k 0 ≡ option_map_or (λ d. device_size (device_of d)) (slice_get l.devices k) 0)
