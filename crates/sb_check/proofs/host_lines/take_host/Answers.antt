-- The host's line, and those of its transactions.
use Rattle.std.proofs.Common.{◌∙◌, [], ◌∷◌, ℕ, List, Err, Ok, ap, length}
use Rattle.std.specs.Prelude.{codes, decimal, slice_index_or}
use Rattle.sb_packet.specs.Answers.{Outcome, RunResults}
use Rattle.sb_text.specs.Reports.{outcome_lines}
use Rattle.sb_text.specs.TextLines.{text_line}
use Rattle.sb_check.proofs.CompareLemmas.{compared_as, compared_before, compared_then}
use Rattle.sb_check.proofs.host_lines.take_host.Goals as goal

abbrev heading : List ℕ → ℕ → List ℕ
heading name count = text_line (codes "host" ∷ name ∷ decimal count ∷ [])

abbrev outcomes_of : RunResults → ℕ → List Outcome
outcomes_of told host = slice_index_or told.outcomes host []

pub returns-in_err-take_host_name : goal.returns-in_err-take_host_name
returns-in_err-take_host_name g c = record {
  compared = λ told tells many.
      let outcomes = outcomes_of told c.args.host in
      let first = compared_as (Err c.in_err-take_host_name.field-0.0) _ _ _ _ (ap (heading c.args.plan.now.name) (ap length c.as_slice.ensures ∙ many)) c.in_err-take_host_name.ensures.compared in
      compared_before c.from_residual.result _ _ (heading c.args.plan.now.name (length outcomes)) (outcome_lines outcomes) c.from_residual.ensures.0 first.differs;
}

pub returns : goal.returns
returns g c = record {
  compared = λ told tells many.
      let outcomes = outcomes_of told c.args.host in
      let first = compared_as (Ok c.in_ok-take_host_name.field-0) _ _ _ _ (ap (heading c.args.plan.now.name) (ap length c.as_slice.ensures ∙ many)) c.in_ok-take_host_name.ensures.compared in
      compared_then c.take_outcomes.result _ _ _ (heading c.args.plan.now.name (length outcomes)) (outcome_lines outcomes) first.there
      (c.take_outcomes.ensures.compared told tells (ap length c.as_slice.ensures ∙ many));
}
