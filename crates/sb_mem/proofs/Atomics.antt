-- What an atomic does to a memory and how it is answered.
use Rattle.std.proofs.Common.{◌≡◌, ◌≤◌, ℕ, ◌+◌, ◌-◌, ◌*◌, ◌^◌, List, [], ◌∷◌, refl, ap, sym, ◌∙◌, arith, take, length, replicate, Bool, false, true, add-zero}
use Rattle.std.specs.Prelude.{map, Some, Option, if◌then◌else◌}
use Rattle.std.specs.List.{range_with_len}
use Rattle.std.proofs.lemmas.List.{take-take, length-replicate, replicate-append-replicate}
use Rattle.sb_word.specs.Atomics.{atomic_numbered}
use Rattle.sb_word.specs.declared.atomic.AtomicOp.{AtomicOp}
use Rattle.sb_word.specs.declared.command.Op.{Op}
use Rattle.sb_word.specs.declared.command.Op.TheVariants.{ReqAtomic}
use Rattle.sb_packet.specs.Messages.{message_of}
use Rattle.sb_packet.specs.Spans.{span_of, word_count_of}
use Rattle.sb_packet.specs.Accesses.{Access, share, access_at, accesses_of}
use Rattle.sb_packet.specs.Memories.{MemoryState, access_answer, answers_in, code_number, combined_bytes, left_by, loaded, memory_after, number_of, old_bytes, stored, write_code, written}
use Rattle.sb_packet.specs.declared.packet.Packet.{Packet}
use Rattle.sb_packet.proofs.Overwrites.{access_step_taken}
use Rattle.sb_mem.specs.AnswerPackets.{IsAnswerTo, padded_body, answer_packet_body, answer_packet_bytes}

-- an atomic speaks of one word
pub atomic_span : (p : Packet) → p.cmd.op ≡ ReqAtomic → span_of p.cmd ≡ 2 ^ p.cmd.size
atomic_span p op = rw op (omega arith)

-- a packet of one word is its word 0
one_word : (p : Packet) → word_count_of p.cmd ≡ 1 → accesses_of p ≡ access_at (message_of p) 0 ∷ []
one_word p one = ap (λ (n : ℕ). map (access_at (message_of p)) (range_with_len 0 n)) one

-- an atomic stores what it makes of the word that stands there
pub atomic_memory : (m : MemoryState) (p : Packet) → p.cmd.op ≡ ReqAtomic → m.readonly ≡ false → memory_after m (accesses_of p) ≡ stored m p.dst (combined_bytes (access_at (message_of p) 0) (loaded m p.dst (2 ^ p.cmd.size)))
atomic_memory m p op writable =
    let a = access_at (message_of p) 0 in
    let counted : word_count_of p.cmd ≡ 1 = rw op refl in
    let start : p.dst + 0 * 2 ^ p.cmd.size ≡ p.dst = omega arith in
    ap (λ (list : List Access). memory_after m list) (one_word p counted) ∙ access_step_taken m a writable
    ∙ ap (λ (o : Op). written o m a) op
    ∙ ap (λ (address : ℕ). stored m address (combined_bytes a (loaded m address (2 ^ p.cmd.size)))) start

-- the word of an atomic is answered by the word of its answer
atomic_word : (m : MemoryState) (p a : Packet) → p.cmd.op ≡ ReqAtomic → IsAnswerTo p a → a.cmd.tail ≡ code_number (write_code m) → take (2 ^ p.cmd.size) a.body ≡ (if m.readonly then replicate (2 ^ p.cmd.size) 0 else loaded m p.dst (2 ^ p.cmd.size)) → access_answer m (access_at (message_of p) 0) ≡ Some (access_at (message_of a) 0)
atomic_word m p a op answers code body =
    let s = 2 ^ p.cmd.size in
    let one : 1 * s ≡ s = omega arith in
    let none : 0 * s ≡ 0 = omega arith in
    let bytes : share p.cmd.size 0 (take (1 * s) a.body) ≡ old_bytes m (access_at (message_of p) 0) = rw (none, one, add-zero) (take-take s s a.body (omega arith) ∙ body) in
    rw (answers.op, answers.len, answers.size, answers.host, answers.qos, answers.prot, answers.eom, answers.eof, answers.ex, code, answers.dst, answers.src, op, bytes) refl

-- an atomic is answered by one word
pub atomic_answers : (m : MemoryState) (p a : Packet) → p.cmd.op ≡ ReqAtomic → IsAnswerTo p a → a.cmd.tail ≡ code_number (write_code m) → take (2 ^ p.cmd.size) a.body ≡ (if m.readonly then replicate (2 ^ p.cmd.size) 0 else loaded m p.dst (2 ^ p.cmd.size)) → answers_in m (accesses_of p) ≡ map Some (accesses_of a)
atomic_answers m p a op answers code body =
    let asked : word_count_of p.cmd ≡ 1 = rw op refl in
    let answered : word_count_of a.cmd ≡ 1 = rw (answers.op, answers.len, op) refl in
    ap (λ (list : List Access). answers_in m list) (one_word p asked)
    ∙ ap (λ (x : Option Access). x ∷ []) (atomic_word m p a op answers code body)
    ∙ sym (ap (λ (list : List Access). map Some list) (one_word a answered))

-- what an atomic makes of the word that stands there, by the packet's own fields
pub combined_at : (p : Packet) (old : List ℕ) → p.cmd.op ≡ ReqAtomic → length old ≡ 2 ^ p.cmd.size → left_by (atomic_numbered p.cmd.len) (256 ^ 2 ^ p.cmd.size) (number_of old) (number_of (take (length old) p.body)) ≡ left_by (access_at (message_of p) 0).atomic (256 ^ 2 ^ p.cmd.size) (number_of old) (number_of (access_at (message_of p) 0).bytes)
combined_at p old op long =
    let a = access_at (message_of p) 0 in
    let s = 2 ^ p.cmd.size in
    let modulus = 256 ^ s in
    let one : 1 * s ≡ s = omega arith in
    let none : 0 * s ≡ 0 = omega arith in
    let atomic : a.atomic ≡ atomic_numbered p.cmd.len = rw op refl in
    let bytes : a.bytes ≡ take (length old) p.body = rw (op, long, none, one) (take-take s s p.body (omega arith)) in
    sym (ap (λ (x : Option AtomicOp). left_by x modulus (number_of old) (number_of a.bytes)) atomic ∙ ap (λ (operand : List ℕ). left_by (atomic_numbered p.cmd.len) modulus (number_of old) (number_of operand)) bytes)

-- zeros are the whole body of the answer to a refused atomic
pub refused_body : (m : MemoryState) (p : Packet) → p.cmd.op ≡ ReqAtomic → m.readonly ≡ true → replicate 32 0 ≡ answer_packet_body m p
refused_body m p op refuses =
    let n = span_of p.cmd in
    let fits : n ≤ 32 = p.fits in
    let whole : n + (32 - n) ≡ 32 = omega arith in
    let zeros : padded_body (replicate n 0) ≡ replicate 32 0 = rw length-replicate (replicate-append-replicate n (32 - n) 0 ∙ ap (λ (k : ℕ). replicate k 0) whole) in
    sym (ap (λ (o : Op). padded_body (answer_packet_bytes m o p.dst n)) op ∙ ap (λ (r : Bool). padded_body (if r then replicate n 0 else loaded m p.dst n)) refuses ∙ zeros)
