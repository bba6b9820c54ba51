-- Nothing has come of one host more, and in the end of none.
use Rattle.std.proofs.Common.{◌≡◌, ◌<◌, ◌+◌, ◌++◌, ℕ, List, [], ◌∷◌, length, get_or, refl, ap, sym, ◌∙◌, subst, arith, None}
use Rattle.std.specs.Prelude.{IsSomeAnd, slice_get}
use Rattle.std.proofs.lemmas.List.{length-map, length_push}
use Rattle.std.proofs.lemmas.Option.{slice_get_within}
use Rattle.sb_flow.specs.NetworkOf.{network_of}
use Rattle.sb_flow.specs.Rows.{host_of}
use Rattle.sb_flow.specs.declared.host_plan.HostPlan.{HostPlan}
use Rattle.sb_check.specs.declared.host_progress.HostProgress.{HostProgress}
use Rattle.sb_check.specs.declared.progress.Progress.{Progress}
use Rattle.sb_check.proofs.BundleLookups.{host_at}
use Rattle.sb_check.proofs.WholeScripts.{IsFirstRow, first_row, first_rows, item_more, nothing_reached}
use Rattle.sb_check.proofs.progress.Progress.new.Goals as goal

pub loop-plan-preserved : goal.loop-plan-preserved
loop-plan-preserved c =
    let b = c.args.bundle.now in
    let n = c.loop-plan.plan-index in
    let plan = c.plan-item.result in
    let row = c.in_ok-new.field-0 in
    let rows = c.loop-plan.hosts.items in
    let items : c.push.new.self.items ≡ rows ++ row ∷ [] = c.in_ok-push.ensures.items in
    let read = c.deref-plan-items.ensures.value in
    let below : n < length b.hosts.items = subst (λ (l : List HostPlan). n < length l) read c.loop-plan-test.true in
    let at : plan ≡ get_or b.hosts.items n plan = c.plan-item.is ∙ ap (λ (l : List HostPlan). get_or l n plan) read in
    let this = first_row (network_of b) n (host_of plan) row (host_at b n plan below at) c.in_ok-new.ensures.start in
    record {
      long = ap length items ∙ length_push rows row ∙ ap (λ (k : ℕ). k + 1) c.loop-plan.invariant.long;
      first = λ h less. subst (λ (l : List HostProgress). IsSomeAnd (slice_get l h) (IsFirstRow (network_of b) h)) (sym items)
          (item_more (IsFirstRow (network_of b)) rows row n c.loop-plan.invariant.long c.loop-plan.invariant.first this h less);
    }

pub returns : goal.returns
returns c =
    let b = c.args.bundle.now in
    let progress : Progress = record { hosts = c.loop-plan.hosts; last = None } in
    let many = c.deref-plan-items.ensures.len in
    let end = c.loop-plan-test.false in
    record {
      start = nothing_reached (network_of b) progress
          (λ h d host at there. first_rows (network_of b) progress h d host (c.loop-plan.invariant.first h (omega (arith, slice_get_within (network_of b).hosts h host at, length-map b.hosts.items host_of, ap length c.deref-plan-items.ensures.value))) at there) refl;
    }
