-- The bytes of a transaction lie among all.
use Rattle.std.proofs.Common.{◌≡◌, ◌-◌, ℕ, List, length, true, false, inl, inr, take, drop, ap, sym, ◌∙◌, arith}
use Rattle.std.specs.Prelude.{◌⊎◌}
use Rattle.sb_check.specs.AnswerNotes.{NotedAnswers, noted_outcome}
use Rattle.sb_check.proofs.NoteLemmas.{body_told, room_of, seen_at}
use Rattle.sb_check.proofs.answer_notes.AnswerNotes.body.Goals as goal
use Rattle.sb_check.proofs.answer_notes.AnswerNotes.body.Goals.{then-note, else-note}

pub slice_bounds-result-count : goal.slice_bounds-result-count
slice_bounds-result-count c =
    let m = c.self.inside in
    let own = room_of m.bytes.items m.notes.items c.args.index c.index-note.result.now c.args.self.now c.self.invariant.rooms c.self.view_is c.requires.there c.index-note.ensures in
    let starts = own.room.starts in
    elim c.if-note.branch [ then-note w ↦ omega (arith, w.end-is) | else-note w ↦ omega (arith, w.end-is, starts) ]

pub slice_bounds-result-start : goal.slice_bounds-result-start
slice_bounds-result-start c =
    let m = c.self.inside in
    let own = room_of m.bytes.items m.notes.items c.args.index c.index-note.result.now c.args.self.now c.self.invariant.rooms c.self.view_is c.requires.there c.index-note.ensures in
    let starts = own.room.starts in
    elim c.if-note.branch [ then-note w ↦ omega (arith, w.end-is) | else-note w ↦ omega (arith, w.end-is, starts) ]

pub slice_bounds-result-end : goal.slice_bounds-result-end
slice_bounds-result-end c =
    let m = c.self.inside in
    let own = room_of m.bytes.items m.notes.items c.args.index c.index-note.result.now c.args.self.now c.self.invariant.rooms c.self.view_is c.requires.there c.index-note.ensures in
    let starts = own.room.starts in
    let ends = own.room.ends in
    let high = own.high in
    let value = ap length c.deref.ensures.value in
    elim c.if-note.branch [ then-note w ↦ omega (arith, w.end-is, starts, ends, high, value) | else-note w ↦ omega (arith, w.end-is, ends, high, value) ]

pub returns : goal.returns
returns c = record {
  body = λ none.
      let m = c.self.inside in
      let note = c.index-note.result.now in
      let branch : ((note.posted ≡ true) × (c.if-note.end ≡ note.start)) ⊎ ((note.posted ≡ false) × (c.if-note.end ≡ note.end)) =
      elim c.if-note.branch [ then-note w ↦ inl (w.if-note.true, w.end-is) | else-note w ↦ inr (w.if-note.false, w.end-is) ] in
      ap (λ (n : NotedAnswers). (noted_outcome n).body) (seen_at m.bytes.items m.notes.items c.args.index note c.args.self.now none c.self.view_is c.requires.there c.index-note.ensures)
      ∙ body_told m.bytes.items note c.if-note.end branch
      ∙ ap (λ (l : List ℕ). take (c.if-note.end - note.start) (drop note.start l)) (sym c.deref.ensures.value);
}
