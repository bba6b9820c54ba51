-- The first line is the one that names the format, or it isn't.
use Rattle.std.proofs.Common.{◌≡◌, ◌∙◌, ◌∷◌, List, ℕ, ap, sym, arith}
use Rattle.std.specs.Prelude.{None}
use Rattle.std.proofs.lemmas.Slice.Eq.{bytes_eq-Decides}
use Rattle.sb_text.specs.Reports.{first_line}
use Rattle.sb_check.specs.ReportLines.{report_lines}
use Rattle.sb_check.proofs.ReadingLemmas.{first_read, missing, nothing_read}
use Rattle.sb_check.proofs.history.read_first.Goals as goal

pub returns-in_err-line : goal.returns-in_err-line
returns-in_err-line c = missing c.from_residual.result _ _ c.from_residual.ensures (λ line there first. nothing_read _ line c.in_err-line.ensures.line there)

pub returns-then-is_first_line : goal.returns-then-is_first_line
returns-then-is_first_line c =
    let same : c.in_ok-line.line.now ≡ first_line None = let yes = c.if-is_first_line.true in let e = c.is_first_line.ensures in grind (arith, bytes_eq-Decides) in
    c.in_ok-line.ensures.line ∙ ap (λ (l : List ℕ). l ∷ report_lines c.next_line.new.self.rest.now) same

pub returns-else-is_first_line : goal.returns-else-is_first_line
returns-else-is_first_line c = λ line there first.
    let same : line ≡ c.in_ok-line.line.now = first_read _ line _ _ c.in_ok-line.ensures.line there in
    let no = c.if-is_first_line.false in
    let e = c.is_first_line.ensures in
    let is : c.in_ok-line.line.now ≡ first_line None = sym same ∙ first in
    absurd (grind (arith, bytes_eq-Decides))
