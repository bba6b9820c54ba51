-- The bytes of the answer are put behind those of its transaction, where there is room for them.
use Rattle.std.proofs.Common.{◌≡◌, length, ap, ◌∙◌, arith}
use Rattle.sb_packet.proofs.Overwrites.{length-overwritten}
use Rattle.sb_check.proofs.NoteLemmas.{has_room, room_taken, rooms_kept}
use Rattle.sb_check.proofs.answer_notes.AnswerNotes.note.Goals as goal

pub overflow_cast-note : goal.overflow_cast-note
overflow_cast-note c =
    let m = c.self.inside in
    let has = has_room m.bytes.items c.args.bytes.now m.notes.items c.args.index c.index_mut-note.result.now c.args.self.now c.requires.room.0 c.self.invariant.rooms c.self.view_is c.requires.there c.index_mut-note.ensures.value c.requires.room.1 in
    let few = c.self.invariant.few in
    let within = has.within in
    let high = has.high in
    omega (arith, few, within, high)

pub overflow_add-note : goal.overflow_add-note
overflow_add-note c =
    let m = c.self.inside in
    let has = has_room m.bytes.items c.args.bytes.now m.notes.items c.args.index c.index_mut-note.result.now c.args.self.now c.requires.room.0 c.self.invariant.rooms c.self.view_is c.requires.there c.index_mut-note.ensures.value c.requires.room.1 in
    let few = c.self.invariant.few in
    let within = has.within in
    let high = has.high in
    omega (arith, few, within, high)

pub put-requires : goal.put-requires
put-requires c =
    let m = c.self.inside in
    let has = has_room m.bytes.items c.args.bytes.now m.notes.items c.args.index c.index_mut-note.result.now c.args.self.now c.requires.room.0 c.self.invariant.rooms c.self.view_is c.requires.there c.index_mut-note.ensures.value c.requires.room.1 in
    let within = has.within in
    let high = has.high in
    let long = m.bytes.ok.0 in
    record { fits = omega (arith, within, high, long) }

pub invariant_of-self : goal.invariant_of-self
invariant_of-self c =
    let m = c.self.inside in
    let note = c.index_mut-note.result.now in
    let piece = c.args.bytes.now in
    let has = has_room m.bytes.items piece m.notes.items c.args.index note c.args.self.now c.requires.room.0 c.self.invariant.rooms c.self.view_is c.requires.there c.index_mut-note.ensures.value c.requires.room.1 in
    let within = has.within in
    let high = has.high in
    let few = c.self.invariant.few in
    let long : length c.put.new.bytes.items ≡ length m.bytes.items = ap length c.put.ensures.items ∙ length-overwritten m.bytes.items note.end piece (omega (arith, within, high)) in
    record {
      rooms = rw c.max-note.ensures (rooms_kept m.bytes.items piece m.notes.items c.args.index note c.args.code (length c.put.new.bytes.items) c.self.invariant.rooms long has);
      few = omega (arith, long, few);
    }

pub returns : goal.returns
returns c = record {
  noted = λ none.
      let m = c.self.inside in
      let note = c.index_mut-note.result.now in
      let piece = c.args.bytes.now in
      let has = has_room m.bytes.items piece m.notes.items c.args.index note c.args.self.now c.requires.room.0 c.self.invariant.rooms c.self.view_is c.requires.there c.index_mut-note.ensures.value c.requires.room.1 in
      rw (c.max-note.ensures, c.put.ensures.items) (room_taken m.bytes.items piece m.notes.items c.args.index note c.args.code c.args.self.now none c.self.invariant.rooms c.self.view_is has);
}
