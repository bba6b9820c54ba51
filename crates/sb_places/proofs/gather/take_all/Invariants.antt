-- Those below the place were taken.
use Rattle.std.proofs.Common.{◌≡◌, vec_capacity}
use Rattle.std.specs.Slots.{slots_filled}
use Rattle.sb_places.specs.Taken.{place_count, values_of}
use Rattle.sb_places.proofs.Taking.{IsTaking}
use Rattle.sb_places.proofs.gather.take_all.Given as goal

abbrev pub invariant-loop-place : goal.invariant-loop-place
invariant-loop-place g l = IsTaking (place_count l.fn.closed) (vec_capacity l.fn.back) l.place (values_of l.fn.closed) (slots_filled l.closed.slots) l.back.items
    × (values_of l.closed ≡ values_of l.fn.closed) × (place_count l.closed ≡ place_count l.fn.closed) × (vec_capacity l.back ≡ vec_capacity l.fn.back)
