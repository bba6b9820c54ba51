-- The host's line, and those of its transactions.
use Rattle.std.proofs.Common.{◌≡◌, ◌∙◌, [], ◌∷◌, ℕ, List, Err, Ok, ap, length}
use Rattle.std.specs.Prelude.{codes, decimal, slice_index_or}
use Rattle.sb_packet.specs.Answers.{Outcome, RunResults}
use Rattle.sb_text.specs.Reports.{outcome_lines}
use Rattle.sb_text.specs.TextLines.{text_line}
use Rattle.sb_text.proofs.PrintLemmas.{printed_as, printed_before, printed_then}
use Rattle.sb_text.proofs.report.hosts.print_host.Goals as goal

abbrev heading : List ℕ → ℕ → List ℕ
heading name count = text_line (codes "host" ∷ name ∷ decimal count ∷ [])

abbrev outcomes_of : RunResults → ℕ → List Outcome
outcomes_of told host = slice_index_or told.outcomes host []

pub returns-in_err-print_words : goal.returns-in_err-print_words
returns-in_err-print_words g c = record {
  printed = λ told tells many.
      let outcomes = outcomes_of told c.args.host in
      let same : heading c.as_slice-2.result.now c.from.result ≡ heading c.args.plan.now.name (length outcomes) =
      ap (heading c.as_slice-2.result.now) (c.from.ensures ∙ ap length c.as_slice.ensures ∙ many) ∙ ap (λ (name : List ℕ). heading name (length outcomes)) c.as_slice-2.ensures.text in
      printed_before g.K.Sink c.from_residual.result c.in_err-print_words.field-0.0 _ _ _ _ (heading c.args.plan.now.name (length outcomes)) (outcome_lines outcomes) c.from_residual.ensures.0
      (printed_as g.K.Sink (Err c.in_err-print_words.field-0.0) _ _ _ _ _ _ same c.in_err-print_words.ensures.printed);
}

pub returns : goal.returns
returns g c = record {
  printed = λ told tells many.
      let outcomes = outcomes_of told c.args.host in
      let same : heading c.as_slice-2.result.now c.from.result ≡ heading c.args.plan.now.name (length outcomes) =
      ap (heading c.as_slice-2.result.now) (c.from.ensures ∙ ap length c.as_slice.ensures ∙ many) ∙ ap (λ (name : List ℕ). heading name (length outcomes)) c.as_slice-2.ensures.text in
      let first = printed_as g.K.Sink (Ok c.in_ok-print_words.field-0) _ _ _ _ _ _ same c.in_ok-print_words.ensures.printed in
      printed_then g.K.Sink c.print_outcomes.result _ _ _ _ _ _ (heading c.args.plan.now.name (length outcomes)) (outcome_lines outcomes) first.done first.clean
      (c.print_outcomes.ensures.printed told tells (ap length c.as_slice.ensures ∙ many));
}
