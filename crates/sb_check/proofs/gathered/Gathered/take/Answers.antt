-- The entry's words are requests to its device, and there is room for what is answered to them.
use Rattle.std.proofs.Common.{ℕ, ap, inr, refl}
use Rattle.std.specs.Prelude.{set}
use Rattle.sb_flow.proofs.Bundles.{accepted}
use Rattle.sb_flow.specs.NetworkOf.{network_of}
use Rattle.sb_packet.specs.Accesses.{accesses_of}
use Rattle.sb_check.proofs.GatheredEntries.{entry_asks, entry_in_range, gathered_more, index_there, memory_there, new_given, new_none, notes_given, number_is, place_is, place_some, place_there, room_given}
use Rattle.sb_check.proofs.gathered.Gathered.take.Goals as goal

pub step-requires-clause-request : goal.step-requires-clause-request
step-requires-clause-request c =
    let b = c.args.bundle.now in
    entry_asks (network_of b) (accepted b) c.requires.rightly.0 c.args.entry.now c.requires.rightly.2

pub step-requires-clause-within : goal.step-requires-clause-within
step-requires-clause-within c =
    let b = c.args.bundle.now in
    let r = c.requires.rightly in
    let old = memory_there (network_of b) (accepted b) r.0 c.args.entry.now r.2 c.args.self.now r.1 c.from.result c.index_mut-memory.result.now c.from.ensures c.index_mut-memory.ensures.value in
    entry_in_range (network_of b) (accepted b) r.0 c.args.entry.now r.2 c.index_mut-memory.result.now old

pub returns-in_default : goal.returns-in_default
returns-in_default c = record {
  gathered = λ journal gathers so.
      let b = c.args.bundle.now in
      let g = c.args.self.now in
      let e = c.args.entry.now in
      let old = memory_there (network_of b) (accepted b) journal e so g gathers c.from.result c.index_mut-memory.result.now c.from.ensures c.index_mut-memory.ensures.value in
      let none = new_none (network_of b) (accepted b) journal e so c.index_mut-memory.result.now old c.in_default.ensures.no_answers in
      gathered_more (network_of b) (accepted b) journal e so g gathers _ c.index_mut-memory.result.now c.step.new.self old (ap (λ (k : ℕ). set g.memories.items k c.step.new.self) c.from.ensures)
      c.in_default.ensures.memory c.in_default.ensures.base c.in_default.ensures.size (inr (none, refl));
}

pub unreachable-requires : goal.unreachable-requires
unreachable-requires c =
    let b = c.args.bundle.now in
    let r = c.requires.rightly in
    place_some (network_of b) (accepted b) r.0 c.args.entry.now r.2 c.host_in_network.result c.in_default-host_in_network.is c.host_in_network.ensures.place

pub note-requires-clause-host : goal.note-requires-clause-host
note-requires-clause-host c =
    let b = c.args.bundle.now in
    let r = c.requires.rightly in
    let e = c.args.entry.now in
    let place = place_is (network_of b) (accepted b) r.0 e r.2 c.host_in_network.result c.in-Some-host_in_network.host c.in-Some-host_in_network.is c.host_in_network.ensures.place in
    place_there (network_of b) (accepted b) r.0 e r.2 c.args.self.now r.1 c.in-Some-host_in_network.host place

pub note-requires-clause-there : goal.note-requires-clause-there
note-requires-clause-there c =
    let b = c.args.bundle.now in
    let r = c.requires.rightly in
    let e = c.args.entry.now in
    let a = c.in-Some.answer in
    let place = place_is (network_of b) (accepted b) r.0 e r.2 c.host_in_network.result c.in-Some-host_in_network.host c.in-Some-host_in_network.is c.host_in_network.ensures.place in
    index_there (network_of b) (accepted b) r.0 e r.2 c.args.self.now r.1 c.in-Some-host_in_network.host _ place (number_is (network_of b) (accepted b) r.0 e r.2 a c.in-Some.ensures.fields.dst)

pub note-requires-clause-room : goal.note-requires-clause-room
note-requires-clause-room c =
    let b = c.args.bundle.now in
    let r = c.requires.rightly in
    let e = c.args.entry.now in
    let a = c.in-Some.answer in
    let place = place_is (network_of b) (accepted b) r.0 e r.2 c.host_in_network.result c.in-Some-host_in_network.host c.in-Some-host_in_network.is c.host_in_network.ensures.place in
    let old = memory_there (network_of b) (accepted b) r.0 e r.2 c.args.self.now r.1 c.from.result c.index_mut-memory.result.now c.from.ensures c.index_mut-memory.ensures.value in
    let given = new_given (network_of b) (accepted b) r.0 e r.2 c.index_mut-memory.result.now old (accesses_of a) c.in-Some.ensures.answers in
    room_given (network_of b) (accepted b) r.0 e r.2 c.args.self.now r.1 a c.in-Some-host_in_network.host _ place (number_is (network_of b) (accepted b) r.0 e r.2 a c.in-Some.ensures.fields.dst) given

pub returns : goal.returns
returns c = record {
  gathered = λ journal gathers so.
      let b = c.args.bundle.now in
      let g = c.args.self.now in
      let e = c.args.entry.now in
      let a = c.in-Some.answer in
      let place = place_is (network_of b) (accepted b) journal e so c.host_in_network.result c.in-Some-host_in_network.host c.in-Some-host_in_network.is c.host_in_network.ensures.place in
      let old = memory_there (network_of b) (accepted b) journal e so g gathers c.from.result c.index_mut-memory.result.now c.from.ensures c.index_mut-memory.ensures.value in
      let given = new_given (network_of b) (accepted b) journal e so c.index_mut-memory.result.now old (accesses_of a) c.in-Some.ensures.answers in
      let notes = notes_given (network_of b) (accepted b) journal e so g gathers c.note.new.notes.items a c.in-Some-host_in_network.host _ place (number_is (network_of b) (accepted b) journal e so a c.in-Some.ensures.fields.dst) given c.note.ensures.noted in
      gathered_more (network_of b) (accepted b) journal e so g gathers _ c.index_mut-memory.result.now c.step.new.self old (ap (λ (k : ℕ). set g.memories.items k c.step.new.self) c.from.ensures)
      c.in-Some.ensures.memory c.in-Some.ensures.base c.in-Some.ensures.size notes;
}
