-- The lines so far stand before the report, or before what is left.
use Rattle.std.proofs.Common.{◌≡◌, ◌∙◌, ◌++◌, List, ℕ, true, false, ap, sym, take, arith}
use Rattle.std.specs.Prelude.{Some}
use Rattle.std.proofs.lemmas.List.{append-nil}
use Rattle.sb_top.specs.Judgements.{is_divider, report_split}
use Rattle.sb_top.proofs.EvidenceLemmas.{behind_both, first_line_is, line_behind, line_taken, line_within, parts_behind, split_here, split_later}
use Rattle.sb_top.proofs.evidence.split_report.Goals as goal

pub returns-then-is_divider-clause-parts : goal.returns-then-is_divider-clause-parts
returns-then-is_divider-clause-parts c =
    let line = c.in-Some.line.now in
    let front = take c.loop-line.place c.args.input.now in
    let divides : is_divider line ≡ true = sym c.is_divider.ensures ∙ c.if-is_divider.true in
    c.loop-line.invariant.parts
    ∙ ap (parts_behind front) (split_here c.loop-line.lines.rest.now line c.next_line.new.self.rest.now c.in-Some.ensures.line divides)
    ∙ ap (λ (t : List ℕ). Some (t, c.next_line.new.self.rest.now)) (append-nil front)

pub loop-line-preserved : goal.loop-line-preserved
loop-line-preserved c =
    let input = c.args.input.now in
    let rest = c.loop-line.lines.rest.now in
    let line = c.in-Some.line.now in
    let after = c.next_line.new.self.rest.now in
    let place = c.loop-line.place in
    let other : is_divider line ≡ false = sym c.is_divider.ensures ∙ c.if-is_divider.false in
    let parted : rest ≡ line ++ after = first_line_is rest line after c.in-Some.ensures.line in
    let left = c.loop-line.invariant.rest in
    record {
      left = omega (arith, c.loop-line.invariant.left, c.in-Some.ensures.shorter);
      within = line_within input rest line after place c.loop-line.invariant.within left parted;
      rest = line_behind input rest line after place left parted;
      parts = c.loop-line.invariant.parts
          ∙ ap (parts_behind (take place input)) (split_later rest line after c.in-Some.ensures.line other)
          ∙ behind_both (take place input) line (report_split after)
          ∙ ap (λ (t : List ℕ). parts_behind t (report_split after)) (line_taken input rest line after place left parted);
    }
