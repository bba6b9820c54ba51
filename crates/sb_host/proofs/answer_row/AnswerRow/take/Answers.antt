-- A word that isn't answered takes its answer, and any other stays.
use Rattle.std.proofs.Common.{refl, ◌∙◌, ap, sym, append_assoc, ◌≡◌, ◌+◌, ◌*◌, ◌-◌, true, length, arith, max, ℕ, take, drop, ◌++◌, List}
use Rattle.std.proofs.lemmas.List.{length-map}
use Rattle.std.specs.Prelude.{is_some}
use Rattle.std.specs.Vec.{with_item}
use Rattle.sb_host.specs.declared.answer_row.AnswerRow.{AnswerRow}
use Rattle.sb_host.proofs.RowAnswers.{row_taken}
use Rattle.sb_host.proofs.answer_row.AnswerRow.take.Goals as goal

pub returns : goal.returns
returns c = record {
  row = λ answers a is code bytes.
      let body = c.args.self.now.body.items in
      let place = c.args.word * length c.args.bytes.now in
      let words : length c.args.self.now.answered.items ≡ length answers = ap length is.answered ∙ length-map answers is_some in
      let word = c.requires.word in
      let new : AnswerRow = record { answered = with_item c.args.self.now.answered c.args.word true; missing = c.args.self.now.missing - 1; code = c.max-self.result; body = c.overwrite.new.bytes } in
      row_taken (length c.args.bytes.now) answers c.args.self.now new c.args.word a is (omega (arith, words, word)) (ap length bytes)
      (sym (rw c.if-index.false at c.index.ensures)) refl refl
      (c.max-self.ensures ∙ ap (max c.args.self.now.code) (sym code))
      (c.overwrite.ensures.written ∙ ap (λ (piece : List ℕ). take place body ++ piece ++ drop (place + length c.args.bytes.now) body) (sym bytes)
      ∙ append_assoc (take place body) a.bytes (drop (place + length c.args.bytes.now) body));
}
