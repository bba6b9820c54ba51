-- A word has at most 8 bytes, and those at the front are what the atomic makes of the old word and the operand.
use Rattle.std.proofs.Common.{◌≡◌, ◌≤◌, ◌^◌, ◌∙◌, ap, arith, sym, ℕ, List, Option, take, length}
use Rattle.std.proofs.lemmas.List.{length-take}
use Rattle.sb_packet.specs.Memories.{number_of, bytes_of_number, combined, left_by}
use Rattle.sb_word.specs.declared.atomic.AtomicOp.{AtomicOp}
use Rattle.sb_mem.proofs.Atomics.{combined_at}
use Rattle.sb_mem.proofs.TwosComplement.{word_length}
use Rattle.sb_mem.proofs.WordBytes.{bytes_of_front}
use Rattle.sb_mem.proofs.atomic.combined_bytes.Goals as goal

pub number-operand-requires : goal.number-operand-requires
number-operand-requires c =
    let size = c.args.p.now.cmd.size in
    let short : 2 ^ size ≤ 8 = word_length size c.args.p.now.cmd.size_fits in
    simp length-take (omega arith)

pub number-requires : goal.number-requires
number-requires c =
    let size = c.args.p.now.cmd.size in
    let short : 2 ^ size ≤ 8 = word_length size c.args.p.now.cmd.size_fits in
    omega arith

pub returns-clause-front : goal.returns-clause-front
returns-clause-front c =
    let p = c.args.p.now in
    let s = 2 ^ p.cmd.size in
    let short : s ≤ 8 = word_length p.cmd.size p.cmd.size_fits in
    let a = number_of c.args.old.now in
    let b = number_of (take (length c.args.old.now) p.body) in
    let word : c.combined_word.result ≡ combined c.numbered-atomic.result (256 ^ s) a b = rw (c.number.ensures.value, c.number-operand.ensures.value) at c.combined_word.ensures in
    ap (λ (bytes : List ℕ). take s bytes) c.to_le_bytes.ensures ∙ bytes_of_front s c.combined_word.result short
    ∙ ap (λ (n : ℕ). bytes_of_number s n) (word ∙ ap (λ (x : Option AtomicOp). left_by x (256 ^ s) a b) (sym c.numbered-atomic.ensures) ∙ combined_at p c.args.old.now c.requires.op c.requires.word)
