-- One packet more steps memory, journal, body and code; all packets do what the transaction's words do, with 32 bytes of room for each.
use Rattle.std.proofs.Common.{◌≡◌, ◌≤◌, ◌-◌, ◌++◌, ◌∷◌, [], ◌∙◌, ℕ, List, ap, sym, refl, subst, arith, append_assoc, length, take}
use Rattle.std.specs.Prelude.{map, max, All}
use Rattle.std.proofs.lemmas.List.{map-append}
use Rattle.std.proofs.lemmas.List.Elements.{All-push}
use Rattle.sb_packet.specs.Messages.{Message, message_of}
use Rattle.sb_packet.specs.Answers.{Outcome, answer_body, answer_code}
use Rattle.sb_packet.specs.Cuts.{transaction_packets}
use Rattle.sb_packet.specs.Memories.{answers_to, memory_after}
use Rattle.sb_solo.specs.Solo.{solo_host}
use Rattle.sb_packet.specs.declared.entry.Entry.{Entry}
use Rattle.sb_packet.specs.declared.transaction.TxnState.{TxnState}
use Rattle.sb_solo.specs.Steps.{state_by, IsFirstRound}
use Rattle.sb_solo.proofs.IssueLemmas.{take_next, memory_next, body_next, code_next, words_whole, outcome_is}
use Rattle.sb_solo.proofs.solo.issue.Goals as goal

abbrev said : List Entry → List Message
said entries = map (λ e. message_of e.packet) entries

pub loop-k-preserved : goal.loop-k-preserved
loop-k-preserved c =
    let before = c.loop-k in
    let so_far = before.invariant in
    let m = c.args.memory.now in
    let parts = transaction_packets (solo_host []) c.args.index c.args.txn.now in
    let k = before.k in
    let p = c.packet_of-packet.result in
    let is = c.packet_of-packet.ensures.packet in
    let e : Entry = record { round = 0; device = 0; packet = p } in
    let old = c.args.journal.now.entries in
    let entries : c.step.new.journal.entries ≡ before.journal.entries ++ e ∷ [] = ap (λ j. j.entries) c.step.ensures.journal in
    let spare : c.step.new.journal.spare ≡ before.journal.spare - 1 = ap (λ j. j.spare) c.step.ensures.journal in
    let first : IsFirstRound e = record { round = refl; device = refl } in
    let P : List Entry → Type 0 = λ es. All IsFirstRound es in
    let room = ap (λ o. o.spare_bytes) c.step.ensures.body in
    record {
      memory = memory_next m before.memory c.step.new.memory parts k p is so_far.memory c.step.ensures.memory;
      base = c.step.ensures.base ∙ so_far.base;
      size = c.step.ensures.size ∙ so_far.size;
      packets = ap said entries ∙ map-append (λ (e : Entry). message_of e.packet) before.journal.entries (e ∷ [])
          ∙ ap (λ (r : List Message). r ++ message_of p ∷ []) so_far.packets ∙ append_assoc (said old) (take k parts) (message_of p ∷ [])
          ∙ ap (λ (r : List Message). said old ++ r) (sym (take_next parts k (message_of p) is));
      first = subst P (sym entries) (All-push IsFirstRound before.journal.entries e so_far.first first);
      spare = omega arith;
      outcomes = ap (λ o. o.outcomes) c.step.ensures.body ∙ so_far.outcomes;
      next = ap (λ o. o.next) c.step.ensures.body ∙ body_next m before.memory parts k p before.outcomes.next is so_far.memory so_far.next;
      rows = ap (λ o. o.spare_rows) c.step.ensures.body ∙ so_far.rows;
      room = let short = c.step.ensures.short in omega (arith, room, short, so_far.room);
      code = c.max-code.ensures ∙ ap (λ (r : ℕ). max r before.code) c.step.ensures.code ∙ code_next m before.memory parts k p before.code is so_far.memory so_far.code;
    }

pub returns-clause-memory : goal.returns-clause-memory
returns-clause-memory c =
    let counted : length (transaction_packets (solo_host []) c.args.index c.args.txn.now) ≤ c.loop-k.k = let n = c.packets-count.ensures.packets 0 0 0 c.args.index in omega (arith, n) in
    c.loop-k.invariant.memory ∙ ap (memory_after c.args.memory.now) (words_whole c.args.index c.loop-k.k c.args.txn.now counted)

pub returns-clause-outcomes : goal.returns-clause-outcomes
returns-clause-outcomes c =
    let m = c.args.memory.now in
    let i = c.args.index in
    let t = c.args.txn.now in
    let counted : length (transaction_packets (solo_host []) i t) ≤ c.loop-k.k = let n = c.packets-count.ensures.packets 0 0 0 i in omega (arith, n) in
    let whole = words_whole i c.loop-k.k t counted in
    let body = c.loop-k.invariant.next ∙ ap (λ l. answer_body (answers_to m l)) whole in
    let code = c.loop-k.invariant.code ∙ ap (λ l. answer_code (answers_to m l)) whole in
    let outcome = outcome_is m i t t.kind refl c.loop-k.outcomes.next c.loop-k.code body code in
    ap (λ o. o.outcomes) c.finish.ensures
    ∙ ap (λ (s : TxnState). c.loop-k.outcomes.outcomes ++ record { state = s; body = c.loop-k.outcomes.next } ∷ []) c.state_of.ensures
    ∙ ap (λ (os : List Outcome). os ++ record { state = state_by t.kind c.loop-k.code; body = c.loop-k.outcomes.next } ∷ []) c.loop-k.invariant.outcomes
    ∙ ap (λ (o : Outcome). c.args.outcomes.now.outcomes ++ o ∷ []) outcome

pub returns-clause-room : goal.returns-clause-room
returns-clause-room c =
    let kept = ap (λ o. o.spare_bytes) c.finish.ensures in
    let n = c.packets-count.ensures.packets 0 0 0 0 in
    omega (arith, kept, n, c.loop-k.invariant.room)
