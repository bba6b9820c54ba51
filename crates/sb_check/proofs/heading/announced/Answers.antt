-- Only the line of a count announces it.
use Rattle.std.proofs.Common.{◌≡◌, ◌∙◌, ap, sym}
use Rattle.sb_check.specs.Spelling.{count_line}
use Rattle.sb_check.proofs.EntryLemmas.{one_number}
use Rattle.sb_check.proofs.heading.announced.Goals as goal

pub returns-then-not-has_count-clause-only : goal.returns-then-not-has_count-clause-only
returns-then-not-has_count-clause-only c = λ n a.
    let same : c.in_ok-n.n ≡ n = one_number c.count_in.result _ _ c.in_ok-n.was (c.count_in.ensures.only n a) in
    absurd (c.if-not-has_count.ensures.no (a.text ∙ ap count_line (sym same)))
