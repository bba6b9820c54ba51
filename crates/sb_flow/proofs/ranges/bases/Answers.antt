-- Each turn fills one place.
use Rattle.std.proofs.Common.{ℕ, arith, length-set}
use Rattle.std.specs.Prelude.{slice_get}
use Rattle.std.specs.Option.{option_map_or}
use Rattle.std.proofs.lemmas.List.FromFn.{fill_by_all}
use Rattle.std.proofs.lemmas.List.Edits.{fill_by_more}
use Rattle.sb_flow.specs.declared.device_plan.DevicePlan.{DevicePlan}
use Rattle.sb_flow.proofs.ranges.bases.Goals as goal

pub loop-place-preserved : goal.loop-place-preserved
loop-place-preserved c = (
  omega (arith, length-set {A = ℕ}, c.loop-place.invariant.0),
  λ k below. rw c.base_at.ensures (fill_by_more (λ k. option_map_or (λ (d : DevicePlan). d.base) (slice_get c.args.devices.now k) 0) c.loop-place.bases c.loop-place.place 0 (omega (arith, c.loop-place.invariant.0)) c.loop-place.invariant.1 k below),
)

pub returns : goal.returns
returns c = fill_by_all (λ k. option_map_or (λ (d : DevicePlan). d.base) (slice_get c.args.devices.now k) 0) c.loop-place.bases 32 0 c.loop-place.invariant.0 (λ k below. c.loop-place.invariant.1 k (omega arith))
