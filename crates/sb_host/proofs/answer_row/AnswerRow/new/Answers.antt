-- A new row has no answer.
use Rattle.std.proofs.Common.{refl}
use Rattle.sb_host.specs.declared.answer_row.AnswerRow.{AnswerRow}
use Rattle.sb_host.proofs.RowAnswers.{row_new}
use Rattle.sb_host.proofs.answer_row.AnswerRow.new.Goals as goal

pub returns : goal.returns
returns c =
    let row : AnswerRow = record { answered = c.in_ok-answered.answered; missing = c.args.words; code = 0; body = c.in_ok-body.body } in
    record { row = row_new c.args.width c.args.words row (c.in_ok-answered.ensures.items_if_clones_equal (λ y same. same)) refl refl (c.in_ok-body.ensures.items_if_clones_equal (λ y same. same)) }
