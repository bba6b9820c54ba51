-- The devices so far, in 32 places.
use Rattle.std.proofs.Common.{◌≡◌, ◌<◌, ℕ, get_or, length}
use Rattle.std.specs.Prelude.{slice_get}
use Rattle.std.specs.Option.{option_map_or}
use Rattle.sb_flow.proofs.ranges.bases.Given as goal

abbrev pub invariant-loop-place : goal.invariant-loop-place
invariant-loop-place l = (length l.bases ≡ 32) × ((k : ℕ) → k < l.place → get_or l.bases k 0 ≡ option_map_or (λ d. d.base) (slice_get l.devices k) 0)
