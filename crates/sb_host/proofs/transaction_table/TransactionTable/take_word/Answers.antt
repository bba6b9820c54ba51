-- A word that answers none is dropped, and one that answers a word goes to that one's row.
use Rattle.std.proofs.Common.{◌≡◌, ◌*◌, ◌^◌, ℕ, arith, refl, sym, ap, ◌∙◌, subst, length, List, Option}
use Rattle.std.proofs.lemmas.List.{length-set}
use Rattle.sb_packet.specs.Accesses.{Access, access_at}
use Rattle.sb_packet.specs.Messages.{message_of}
use Rattle.sb_packet.proofs.Places.{words_aligned}
use Rattle.sb_host.specs.Places.{IsPlace, asked_of}
use Rattle.sb_host.specs.Rows.{IsRow, answer_bytes, answer_width, with_answer}
use Rattle.sb_host.proofs.TableSteps.{table_same, table_more}
use Rattle.sb_host.proofs.WordBytes.{bytes_of_word, bytes_of_row, marks_of_row, row_here}
use Rattle.sb_host.proofs.transaction_table.TransactionTable.take_word.Goals as goal

pub place_of-requires-clause-aligned : goal.place_of-requires-clause-aligned
place_of-requires-clause-aligned c =
    let p = c.args.packet.now in
    let span : c.from.result ≡ c.args.word * 2 ^ p.cmd.size = c.from.ensures ∙ c.words_span.ensures in
    rw span (words_aligned p.dst c.args.word p.cmd.size p.dst_aligned)

pub returns-in_default : goal.returns-in_default
returns-in_default c = record {
  rows = refl;
  taken = λ received is.
      let p = c.args.packet.now in
      let span : c.from.result ≡ c.args.word * 2 ^ p.cmd.size = c.from.ensures ∙ c.words_span.ensures in
      let none = rw span at c.in_default.ensures.none in
      table_same (asked_of c.args.script_plan.now) received c.args.self.now.rows.items (access_at (message_of p) c.args.word) none is;
}

pub index_mut-row-requires : goal.index_mut-row-requires
index_mut-row-requires c =
    let table = c.requires.table.1 in
    let found = c.in-Some.ensures.found in
    let long = table.rows_of_lines in
    let inside = found.1.transaction in
    omega (arith, long, inside)

pub take-requires-clause-word : goal.take-requires-clause-word
take-requires-clause-word c =
    let asked = asked_of c.args.script_plan.now in
    let received = c.requires.table.0 in
    let l = c.in-Some.ensures.found.0 in
    let place = c.in-Some.ensures.found.1 in
    let i = c.in-Some.place.line in
    let row = c.index_mut-row.result.now in
    let is = row_here asked received c.args.self.now.rows.items i l row c.requires.table.1 place.at place.transaction c.index_mut-row.ensures.value in
    let marks = marks_of_row asked received (answer_width l) i l row is in
    let below = place.word in
    omega (arith, marks, below)

pub take-requires-clause-counted : goal.take-requires-clause-counted
take-requires-clause-counted c =
    let asked = asked_of c.args.script_plan.now in
    let received = c.requires.table.0 in
    let l = c.in-Some.ensures.found.0 in
    let place = c.in-Some.ensures.found.1 in
    (row_here asked received c.args.self.now.rows.items c.in-Some.place.line l c.index_mut-row.result.now c.requires.table.1 place.at place.transaction c.index_mut-row.ensures.value).counted

pub take-requires-clause-room : goal.take-requires-clause-room
take-requires-clause-room c =
    let asked = asked_of c.args.script_plan.now in
    let received = c.requires.table.0 in
    let l = c.in-Some.ensures.found.0 in
    let place = c.in-Some.ensures.found.1 in
    let i = c.in-Some.place.line in
    let row = c.index_mut-row.result.now in
    let is = row_here asked received c.args.self.now.rows.items i l row c.requires.table.1 place.at place.transaction c.index_mut-row.ensures.value in
    let marks = marks_of_row asked received (answer_width l) i l row is in
    let body = bytes_of_row asked received (answer_width l) i l row is in
    let wide : length c.share.result.now ≡ answer_width l =
    ap length c.share.ensures.share ∙ bytes_of_word l.txn.kind c.args.packet.now c.args.word c.requires.word place.opcode ∙ ap (λ (s : ℕ). answer_bytes l.txn.kind (2 ^ s)) (sym place.same_size) in
    body ∙ ap (λ (n : ℕ). n * answer_width l) (sym marks) ∙ ap (λ (n : ℕ). length row.answered.items * n) (sym wide)

pub returns : goal.returns
returns c = record {
  rows = length-set c.args.self.now.rows.items c.in-Some.place.line c.take.new.self;
  taken = λ received is.
      let script_plan = c.args.script_plan.now in
      let p = c.args.packet.now in
      let a = access_at (message_of p) c.args.word in
      let l = c.in-Some.ensures.found.0 in
      let span : c.from.result ≡ c.args.word * 2 ^ p.cmd.size = c.from.ensures ∙ c.words_span.ensures in
      let place : IsPlace (asked_of script_plan) a.op a.size a.dst c.in-Some.place.line c.in-Some.place.word l = rw span at c.in-Some.ensures.found.1 in
      let wide : length c.share.result.now ≡ answer_width l =
      ap length c.share.ensures.share ∙ bytes_of_word l.txn.kind p c.args.word c.requires.word place.opcode ∙ ap (λ (s : ℕ). answer_bytes l.txn.kind (2 ^ s)) (sym place.same_size) in
      let row : (answers : List (Option Access)) → IsRow (answer_width l) answers c.index_mut-row.result.now → IsRow (answer_width l) (with_answer answers c.in-Some.place.word a) c.take.new.self = λ answers kept.
      subst (λ (n : ℕ). IsRow n (with_answer answers c.in-Some.place.word a) c.take.new.self) wide
      (c.take.ensures.row answers a (subst (λ (n : ℕ). IsRow n answers c.index_mut-row.result.now) (sym wide) kept) refl (sym c.share.ensures.share)) in
      table_more script_plan received c.args.self.now.rows.items a c.in-Some.place.line c.in-Some.place.word l c.index_mut-row.result.now c.take.new.self place c.index_mut-row.ensures.value row is;
}
