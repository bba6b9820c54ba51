-- All bytes of a read or an atomic are zeros.
use Rattle.std.proofs.Common.{◌≡◌, ◌-◌, ℕ, List, false, replicate, refl, ap, ◌∙◌, arith, drop, take, inl, inr}
use Rattle.sb_check.specs.AnswerNotes.{NotedAnswers}
use Rattle.sb_check.proofs.NoteLemmas.{zeros_noted}
use Rattle.sb_check.proofs.answer_note.unreached.Goals as goal

pub returns-in-Read-clause-noted : goal.returns-in-Read-clause-noted
returns-in-Read-clause-noted c n span within is =
    let noted : ℕ → List ℕ → ℕ → NotedAnswers = λ code body room. record { posted = false; code = code; body = body; room = room } in
    let none : c.args.limit - c.args.limit ≡ 0 = omega arith in
    ap (λ (code : ℕ). noted code (take (c.args.limit - c.args.start) (drop c.args.start (replicate n 0))) (c.args.limit - c.args.limit)) c.number-code.ensures.number
    ∙ ap (λ (body : List ℕ). noted 3 body (c.args.limit - c.args.limit)) (zeros_noted n c.args.start span c.args.limit within is)
    ∙ ap (noted 3 (replicate span 0)) none
    ∙ elim c.in-Read.is [ inl read ↦ rw read refl | inr atomic ↦ rw atomic.1 refl ]
