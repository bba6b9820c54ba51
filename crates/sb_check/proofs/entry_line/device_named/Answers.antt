-- No two devices have one name.
use Rattle.std.proofs.Common.{◌∙◌, ℕ, List, ap, Some}
use Rattle.std.specs.Prelude.{bytes_eq}
use Rattle.std.specs.List.{position_from}
use Rattle.sb_flow.specs.declared.device_plan.DevicePlan.{DevicePlan}
use Rattle.sb_check.proofs.EntryLemmas.{device_found, not_both, one_number}
use Rattle.sb_check.proofs.entry_line.device_named.Goals as goal

pub returns-in_err-place-clause-only : goal.returns-in_err-place-clause-only
returns-in_err-place-clause-only c = λ d below is. absurd (not_both c.first_named.result d c.in_err-place.was
    (c.first_named.ensures.place ∙ ap (λ (l : List DevicePlan). position_from (λ (x : DevicePlan). bytes_eq x.name c.args.name.now) 0 l) c.deref.ensures.value ∙ device_found c.args.bundle.now c.args.name.now d below is))

pub returns-clause-only : goal.returns-clause-only
returns-clause-only c = λ d below is. ap (λ (k : ℕ). Some k) (one_number c.first_named.result _ _ c.in_ok-place.was
    (c.first_named.ensures.place ∙ ap (λ (l : List DevicePlan). position_from (λ (x : DevicePlan). bytes_eq x.name c.args.name.now) 0 l) c.deref.ensures.value ∙ device_found c.args.bundle.now c.args.name.now d below is))
