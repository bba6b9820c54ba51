-- One transaction more adds its line, up to the line of the last; where the sink fails, a first part of all lines was written.
use Rattle.std.proofs.Common.{◌≤◌, ◌<◌, [], ℕ, List, length, arith}
use Rattle.std.specs.Prelude.{slice_index_or}
use Rattle.sb_packet.specs.Answers.{Outcome, RunResults}
use Rattle.sb_text.specs.Reports.{outcome_line}
use Rattle.sb_packet.specs.declared.transaction.TxnState.TheVariants.{Waiting}
use Rattle.sb_text.proofs.IndexedLemmas.{lines_all, lines_failed, lines_more, outcome_parts}
use Rattle.sb_text.proofs.report.hosts.print_outcomes.Goals as goal

abbrev none : Outcome
none = record { state = Waiting; body = [] }

abbrev outcomes_of : RunResults → ℕ → List Outcome
outcomes_of told host = slice_index_or told.outcomes host []

pub returns-in_err-print_outcome : goal.returns-in_err-print_outcome
returns-in_err-print_outcome g c =
    let i = c.loop-index.index in
    record {
      printed = λ told tells many.
          let below : i < length (outcomes_of told c.args.host) = omega arith in
          lines_failed outcome_line g.K.Sink tt c.in_err-print_outcome.field-0.0 c.from_residual.result _ _ _ _ _ _ _ (outcomes_of told c.args.host) i none c.from_residual.ensures.0 below
          (outcome_parts i none (outcomes_of told c.args.host) _ _ (c.state.ensures.state told none tells below) (c.body.ensures.body told none tells below))
          (c.loop-index.invariant told tells many) c.in_err-print_outcome.ensures.printed;
    }

pub loop-index-preserved : goal.loop-index-preserved
loop-index-preserved g c = λ told tells many.
    let i = c.loop-index.index in
    let below : i < length (outcomes_of told c.args.host) = omega arith in
    lines_more outcome_line g.K.Sink tt tt tt _ _ _ _ _ _ _ (outcomes_of told c.args.host) i none below
    (outcome_parts i none (outcomes_of told c.args.host) _ _ (c.state.ensures.state told none tells below) (c.body.ensures.body told none tells below))
    (c.loop-index.invariant told tells many) c.in_ok-print_outcome.ensures.printed

pub returns : goal.returns
returns g c = record {
  printed = λ told tells many.
      let all : length (outcomes_of told c.args.host) ≤ c.loop-index.index = omega arith in
      lines_all outcome_line g.K.Sink tt tt _ _ _ _ (outcomes_of told c.args.host) c.loop-index.index all (c.loop-index.invariant told tells many);
}
