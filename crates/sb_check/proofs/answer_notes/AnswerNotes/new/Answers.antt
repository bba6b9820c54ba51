-- One transaction more has its first note, and room behind the others.
use Rattle.std.proofs.Common.{replicate, ◌∙◌, arith}
use Rattle.sb_flow.specs.NetworkOf.{network_of}
use Rattle.sb_check.specs.AnswerNotes.{first_noted, noted_in}
use Rattle.sb_check.proofs.NoteLemmas.{noted_next, rooms_more}
use Rattle.sb_check.proofs.answer_notes.AnswerNotes.new.Goals as goal

pub loop-txn-preserved : goal.loop-txn-preserved
loop-txn-preserved c =
    let before = c.loop-txn.invariant in
    let note = c.first_note-note.result in
    let joined = c.push_reserved.ensures.items in
    let inside = c.loop-txn-test.true in
    record {
      len = let len = c.push_reserved.ensures.len in let was = before.len in omega (arith, len, was);
      capacity = c.push_reserved.ensures.capacity ∙ before.capacity;
      short = let more = c.first_note-note.ensures.short in let was = before.short in omega (arith, more, was);
      rooms = rw joined (rooms_more 0 c.loop-txn.end c.loop-txn.notes.items note before.rooms c.first_note-note.ensures.start c.first_note-note.ensures.room);
      noted = λ n within.
          let start = c.first_note-note.ensures.start in
          let starts = c.first_note-note.ensures.room.starts in
          let ends = c.first_note-note.ensures.room.ends in
          noted_next (noted_in (replicate n 0)) (first_noted (network_of c.args.bundle.now)) c.loop-txn.notes.items c.push_reserved.new.self.items note c.args.script.now c.loop-txn.txn-index c.txn-item.result joined inside c.txn-item.is
          (c.first_note-note.ensures.noted n within) (before.noted n (omega (arith, within, start, starts, ends)));
    }
