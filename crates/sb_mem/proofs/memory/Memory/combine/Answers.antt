-- A refused atomic is answered by zeros; any other stores in its one word what it makes of the old value.
use Rattle.std.proofs.Common.{◌≡◌, ◌≤◌, ◌^◌, ◌∙◌, ap, sym, arith, ℕ, List, take, replicate}
use Rattle.std.specs.Prelude.{if◌then◌else◌}
use Rattle.std.proofs.lemmas.List.{drop-replicate, take-replicate, length-take}
use Rattle.sb_packet.specs.Memories.{code_number}
use Rattle.sb_packet.specs.Memories.{MemoryState, loaded, stored, write_code, combined_bytes}
use Rattle.sb_packet.specs.Messages.{message_of}
use Rattle.sb_packet.specs.Accesses.{access_at}
use Rattle.sb_mem.proofs.Requests.{padded_front}
use Rattle.sb_mem.proofs.Atomics.{atomic_span, atomic_memory, atomic_answers, refused_body}
use Rattle.sb_mem.proofs.TwosComplement.{word_length}
use Rattle.sb_mem.proofs.memory.Memory.combine.Goals as goal

pub answer-requires : goal.answer-requires
answer-requires c = drop-replicate _ 32 0

pub returns-then-self-clause-answers : goal.returns-then-self-clause-answers
returns-then-self-clause-answers c =
    let p = c.args.p.now in
    let m = c.args.self.now in
    let s = 2 ^ p.cmd.size in
    let short : s ≤ 8 = word_length p.cmd.size p.cmd.size_fits in
    let refuses = ap (λ (m : MemoryState). m.readonly) (sym c.self.view_is) ∙ c.if-self.true in
    let code : c.answer.result.cmd.tail ≡ code_number (write_code m) = rw refuses c.answer.ensures.code in
    let body : take s c.answer.result.body ≡ (if m.readonly then replicate s 0 else loaded m p.dst s) = rw (refuses, c.answer.ensures.body) (take-replicate s 32 0 (omega arith)) in
    atomic_answers m p c.answer.result c.requires.op c.answer.ensures.fields code body

pub returns-then-self-clause-body : goal.returns-then-self-clause-body
returns-then-self-clause-body c =
    let refuses = ap (λ (m : MemoryState). m.readonly) (sym c.self.view_is) ∙ c.if-self.true in
    c.answer.ensures.body ∙ refused_body c.args.self.now c.args.p.now c.requires.op refuses

pub slice_bounds-store-end : goal.slice_bounds-store-end
slice_bounds-store-end c =
    let p = c.args.p.now in
    let short : 2 ^ p.cmd.size ≤ 8 = word_length p.cmd.size p.cmd.size_fits in
    let spans = c.span-size.ensures ∙ atomic_span p c.requires.op in
    omega arith

pub slice_bounds-store-end-2 : goal.slice_bounds-store-end-2
slice_bounds-store-end-2 c =
    let p = c.args.p.now in
    let short : 2 ^ p.cmd.size ≤ 8 = word_length p.cmd.size p.cmd.size_fits in
    let spans = c.span-size.ensures ∙ atomic_span p c.requires.op in
    simp length-take (omega arith)

pub returns-clause-memory : goal.returns-clause-memory
returns-clause-memory c =
    let p = c.args.p.now in
    let m = c.args.self.now in
    let s = 2 ^ p.cmd.size in
    let one_word = atomic_span p c.requires.op in
    let writable = ap (λ (m : MemoryState). m.readonly) (sym c.self.view_is) ∙ c.if-self.false in
    let front = padded_front c.span-size.result c.held.result.now _ c.padded-old.result (c.held.ensures.count ∙ sym c.span-size.ensures) c.padded-old.ensures in
    let held : take c.span-size.result c.padded-old.result ≡ loaded m p.dst s = front ∙ c.held.ensures.bytes ∙ ap (λ (n : ℕ). loaded m p.dst n) one_word in
    let combined = c.combined_bytes.ensures.front ∙ ap (λ (old : List ℕ). combined_bytes (access_at (message_of p) 0) old) held in
    c.store.ensures ∙ ap (λ (n : ℕ). stored m p.dst (take n c.combined_bytes.result)) (c.span-size.ensures ∙ one_word)
    ∙ ap (λ (bytes : List ℕ). stored m p.dst bytes) combined ∙ sym (atomic_memory m p c.requires.op writable)
