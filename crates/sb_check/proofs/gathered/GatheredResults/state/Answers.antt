-- What is noted of the transaction is its outcome.
use Rattle.std.proofs.Common.{ℕ, [], ap, ◌∙◌, get_or, false}
use Rattle.sb_packet.specs.Answers.{Outcome}
use Rattle.sb_check.specs.AnswerNotes.{NotedAnswers}
use Rattle.sb_check.proofs.GatheredResults.{told_here}
use Rattle.sb_check.proofs.gathered.GatheredResults.state.Goals as goal

pub returns : goal.returns
returns c = record {
  state = λ told none is has.
      let n : NotedAnswers = record { posted = false; code = 0; body = []; room = 0 } in
      let at = c.index-notes.ensures ∙ ap (λ (k : ℕ). get_or c.args.self.now.notes.items k c.index-notes.result.now) c.from.ensures in
      ap (λ (o : Outcome). o.state) (told_here c.args.self.now told c.args.host c.args.index c.index-notes.result.now n none at is has) ∙ c.state.ensures.state n;
}
