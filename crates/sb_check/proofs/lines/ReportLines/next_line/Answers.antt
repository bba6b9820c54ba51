-- The next line ends at the first line feed, and the others stand behind it; without a line feed all the text is one line.
use Rattle.std.proofs.Common.{◌≡◌, ◌<◌, ◌∙◌, false, take, length, refl, arith}
use Rattle.std.specs.Prelude.{All}
use Rattle.std.proofs.Math.Seq.{drop-length}
use Rattle.std.proofs.lemmas.List.{take_all}
use Rattle.std.proofs.lemmas.Bool.Decides.{nat_tests}
use Rattle.sb_text.specs.Lines.{is_line_end}
use Rattle.sb_text.proofs.TextLemmas.{no_line_end}
use Rattle.sb_check.proofs.LineLemmas.{report_lines-first, report_lines-last}
use Rattle.sb_check.proofs.lines.ReportLines.next_line.Goals as goal

pub returns-in-None-clause-line : goal.returns-in-None-clause-line
returns-in-None-clause-line c =
    let text = c.args.self.now.rest.now in
    let some : 0 < length text = grind (arith, nat_tests) in
    let whole : take (length text) text ≡ text = take_all (length text) text (omega arith) in
    let none : All (λ b. is_line_end b ≡ false) (take (length text) text) = no_line_end text (length text) c.in-None.ensures in
    let all : All (λ b. is_line_end b ≡ false) text = rw whole at none in
    report_lines-last text some all ∙ rw (c.split_at.ensures.front, c.split_at.ensures.back, whole, drop-length) refl

pub returns-in-Some-clause-line : goal.returns-in-Some-clause-line
returns-in-Some-clause-line c =
    let text = c.args.self.now.rest.now in
    let n = c.in-Some.end in
    let found = c.in-Some.ensures in
    report_lines-first text n found.0.high (no_line_end text n found.0.before) found.1 ∙ rw (c.split_at-in-Some.ensures.front, c.split_at-in-Some.ensures.back) refl
