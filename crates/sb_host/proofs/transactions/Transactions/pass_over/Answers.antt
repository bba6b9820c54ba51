-- What is aimed at no device takes no slot.
use Rattle.std.proofs.Common.{ℕ, sym, ap, subst, ◌∙◌}
use Rattle.sb_host.specs.Places.{asked_of}
use Rattle.sb_host.specs.Progress.{HasComeTo, TransactionsSide}
use Rattle.sb_host.specs.Windows.{begun_slots}
use Rattle.sb_host.proofs.Slots.{slots_passed_over, window_same}
use Rattle.sb_host.proofs.WindowKept.{begun_passed_over}
use Rattle.sb_host.proofs.transactions.Transactions.pass_over.Goals as goal

pub invariant_of-self : goal.invariant_of-self
invariant_of-self c =
    let lines = c.self.inside.script_plan.lines.items in
    let next = c.self.inside.cursor.next in
    let next_then = c.pass_over.new.self.next in
    let passed = c.pass_over.ensures.passed in (
      c.self.invariant.0,
      window_same lines next next_then c.self.inside.window.oldest c.self.inside.window.taken passed.onward
          (slots_passed_over (asked_of c.self.inside.script_plan) next next_then passed) c.self.invariant.1,
    )

pub returns-clause-begun : goal.returns-clause-begun
returns-clause-begun c =
    let inside = c.self.inside in
    let n = c.pass_over.new.self.next in
    let side : ℕ → ℕ → TransactionsSide = λ next part. record { asked = asked_of inside.script_plan; rows = inside.table.rows.items; next = next; part = part; ended = inside.ended } in
    let t = side inside.cursor.next inside.cursor.part in
    let come : HasComeTo t.asked t.next t.part = subst (λ (x : TransactionsSide). HasComeTo x.asked x.next x.part) (sym c.self.view_is) c.requires.come in
    ap (λ (part : ℕ). begun_slots (side n part)) c.pass_over.ensures.part ∙ begun_passed_over t n come c.pass_over.ensures.passed ∙ ap begun_slots c.self.view_is
