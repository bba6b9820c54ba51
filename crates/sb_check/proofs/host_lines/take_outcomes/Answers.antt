-- One transaction more adds its line, up to the line of the last; one that isn't there is the first difference.
use Rattle.std.proofs.Common.{◌≡◌, ◌≤◌, ◌<◌, ◌∙◌, ◌∷◌, [], ℕ, List, length, get_or, ap, sym, arith}
use Rattle.std.specs.Prelude.{codes, decimal, slice_index_or}
use Rattle.std.specs.List.{enumerate_from}
use Rattle.std.proofs.lemmas.List.FromFn.{length-enumerate_from}
use Rattle.sb_packet.specs.Answers.{Outcome, RunResults}
use Rattle.sb_packet.specs.declared.transaction.TxnState.{TxnState}
use Rattle.sb_packet.specs.declared.transaction.TxnState.TheVariants.{Waiting}
use Rattle.sb_text.specs.Reports.{outcome_line, state_text}
use Rattle.sb_text.specs.TextLines.{body_text, text_line}
use Rattle.sb_check.proofs.CompareLemmas.{compared_all, compared_failed, compared_more, numbered}
use Rattle.sb_check.proofs.host_lines.take_outcomes.Goals as goal

abbrev none : Outcome
none = record { state = Waiting; body = [] }

abbrev outcomes_of : RunResults → ℕ → List Outcome
outcomes_of told host = slice_index_or told.outcomes host []

-- the line is that of the transaction at that place
line_is : (os : List Outcome) (i : ℕ) (s : TxnState) (body : List ℕ) → i < length os → (get_or os i none).state ≡ s → (get_or os i none).body ≡ body
    → text_line (codes "t" ∷ decimal i ∷ state_text s ∷ body_text body ∷ []) ≡ outcome_line (get_or (enumerate_from 0 os) i (0, none)).0 (get_or (enumerate_from 0 os) i (0, none)).1
line_is os i s body below is has =
    ap (λ (x : TxnState). text_line (codes "t" ∷ decimal i ∷ state_text x ∷ body_text body ∷ [])) (sym is)
    ∙ ap (λ (x : List ℕ). text_line (codes "t" ∷ decimal i ∷ state_text (get_or os i none).state ∷ body_text x ∷ [])) (sym has)
    ∙ ap (λ (p : ℕ × Outcome). outcome_line p.0 p.1) (sym (numbered os i none below))

pub returns-in_err-take_outcome : goal.returns-in_err-take_outcome
returns-in_err-take_outcome g c =
    let i = c.loop-index.index in
    record {
      compared = λ told tells many.
          let os = outcomes_of told c.args.host in
          let below : i < length os = omega arith in
          compared_failed tt c.in_err-take_outcome.field-0.0 c.from_residual.result (λ p. outcome_line p.0 p.1) (enumerate_from 0 os) i (0, none) _ _ _ _ c.from_residual.ensures.0 (omega (arith, below, length-enumerate_from 0 os))
          (line_is os i _ _ below (c.state.ensures.state told none tells below) (c.body.ensures.body told none tells below))
          (c.loop-index.invariant told tells many) c.in_err-take_outcome.ensures.compared;
    }

pub loop-index-preserved : goal.loop-index-preserved
loop-index-preserved g c = λ told tells many.
    let i = c.loop-index.index in
    let os = outcomes_of told c.args.host in
    let below : i < length os = omega arith in
    compared_more tt tt tt (λ p. outcome_line p.0 p.1) (enumerate_from 0 os) i (0, none) _ _ _ _ (omega (arith, below, length-enumerate_from 0 os))
    (line_is os i _ _ below (c.state.ensures.state told none tells below) (c.body.ensures.body told none tells below))
    (c.loop-index.invariant told tells many) c.in_ok-take_outcome.ensures.compared

pub returns : goal.returns
returns g c = record {
  compared = λ told tells many.
      let os = outcomes_of told c.args.host in
      let all : length os ≤ c.loop-index.index = omega arith in
      compared_all tt tt (λ p. outcome_line p.0 p.1) (enumerate_from 0 os) c.loop-index.index _ _ (omega (arith, all, length-enumerate_from 0 os)) (c.loop-index.invariant told tells many);
}
