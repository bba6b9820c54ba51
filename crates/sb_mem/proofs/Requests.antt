-- What a packet's words do to a memory and how they are answered, for each kind of request but atomics.
use Rattle.std.proofs.Common.{◌≡◌, ◌≤◌, ◌<◌, ◌⊎◌, inl, inr, ℕ, ◌+◌, ◌-◌, ◌*◌, ◌^◌, List, ◌++◌, refl, ap, sym, ◌∙◌, arith, take, drop, length, false, true, cond, zero-mul}
use Rattle.std.specs.Prelude.{map, flat_map, Some, None}
use Rattle.std.specs.List.{range_with_len}
use Rattle.std.proofs.lemmas.List.{take-take, take_at, length-take}
use Rattle.std.proofs.Math.Seq.{drop-nil, take-nil}
use Rattle.sb_word.specs.declared.command.Op.{Op}
use Rattle.sb_word.specs.declared.command.Op.TheVariants.{ReqRd, ReqWr, ReqWrPosted, ReqAtomic, RespRd, RespWr}
use Rattle.sb_packet.specs.Messages.{message_of}
use Rattle.sb_packet.specs.Spans.{carried_by, carried_of, span_of, word_count_by, word_count_of}
use Rattle.sb_packet.specs.Accesses.{Access, share, access_at, accesses_of}
use Rattle.sb_packet.specs.Memories.{MemoryState, access_answer, access_step, answers_in, code_number, loaded, memory_after, stored, write_code, written}
use Rattle.sb_packet.specs.declared.packet.Packet.{Packet}
use Rattle.sb_packet.proofs.Shares.{shares_joined, share-take, share-drop, length-share}
use Rattle.sb_packet.proofs.Overwrites.{access_step_taken, memory_after_unchanged, memory_after_stores, answers_in_unchanged, answers_in_alike}
use Rattle.sb_mem.specs.AnswerPackets.{IsInRange, IsAnswerTo, answer_op, answer_len}

-- a word of a read leaves the memory as it is
read_stays : (m : MemoryState) (p : Packet) (j : ℕ) → p.cmd.op ≡ ReqRd → access_step m (access_at (message_of p) j) ≡ m
read_stays m p j op = rw op (elim m.readonly as (λ r. cond r m m ≡ m) [ true ↦ refl | false ↦ refl ])

-- a read leaves the memory as it is
pub read_memory : (m : MemoryState) (p : Packet) → p.cmd.op ≡ ReqRd → memory_after m (accesses_of p) ≡ m
read_memory m p op = memory_after_unchanged m (access_at (message_of p)) (λ j. read_stays m p j op) 0 (word_count_of p.cmd)

-- word j of what was read is what stands j words behind its begin
read_share : (size j n place : ℕ) (body bytes : List ℕ) → take (n * 2 ^ size) body ≡ take (n * 2 ^ size) (drop place bytes) → j < n → share size j (take (n * 2 ^ size) body) ≡ take (2 ^ size) (drop (place + j * 2 ^ size) bytes)
read_share size j n place body bytes e h = rw e (share-take size j n (drop place bytes) h ∙ share-drop size j place bytes)

-- word j of a read is answered by word j of what was read
read_word : (m : MemoryState) (p a : Packet) (j : ℕ) → p.cmd.op ≡ ReqRd → m.base ≤ p.dst → IsAnswerTo p a → a.cmd.tail ≡ 0 → take (span_of p.cmd) a.body ≡ loaded m p.dst (span_of p.cmd) → j < word_count_of p.cmd → access_answer m (access_at (message_of p) j) ≡ Some (access_at (message_of a) j)
read_word m p a j op low answers code body h =
    let n = p.cmd.len + 1 in
    let s = 2 ^ p.cmd.size in
    let counted : word_count_of p.cmd ≡ n = rw op refl in
    let body' : take (n * s) a.body ≡ take (n * s) (drop (p.dst - m.base) m.bytes) = rw counted at body in
    let below : j < n = rw counted at h in
    let place : (p.dst - m.base) + j * s ≡ p.dst + j * s - m.base = omega arith in
    let bytes : share p.cmd.size j (take (n * s) a.body) ≡ take s (drop (p.dst + j * s - m.base) m.bytes) = rw place at (read_share p.cmd.size j n (p.dst - m.base) a.body m.bytes body' below) in
    rw (answers.op, answers.len, answers.size, answers.host, answers.qos, answers.prot, answers.eom, answers.eof, answers.ex, code, answers.dst, answers.src, op, bytes) refl

-- a read is answered by what was read
pub read_answers : (m : MemoryState) (p a : Packet) → p.cmd.op ≡ ReqRd → m.base ≤ p.dst → IsAnswerTo p a → a.cmd.tail ≡ 0 → take (span_of p.cmd) a.body ≡ loaded m p.dst (span_of p.cmd) → answers_in m (accesses_of p) ≡ map Some (accesses_of a)
read_answers m p a op low answers code body =
    let same : word_count_of a.cmd ≡ word_count_of p.cmd = rw (answers.op, answers.len, op) refl in
    answers_in_unchanged m (access_at (message_of p)) (access_at (message_of a)) Some (word_count_of p.cmd) (λ j. read_stays m p j op) (λ j h. read_word m p a j op low answers code body h) 0 (word_count_of p.cmd) (omega arith)
    ∙ ap (λ (n : ℕ). map Some (map (access_at (message_of a)) (range_with_len 0 n))) (sym same)

-- the front of a padded part is the part
pub padded_front : (n : ℕ) (part rest body : List ℕ) → length part ≡ n → body ≡ part ++ rest → take n body ≡ part
padded_front n part rest body long e = rw e (take_at part rest n long)

-- a write and a posted write store what they carry
written_by_write : (op : Op) → (op ≡ ReqWr) ⊎ (op ≡ ReqWrPosted) → (m : MemoryState) (a : Access) → written op m a ≡ stored m a.dst a.bytes
written_by_write op h m a = elim h [ inl e ↦ rw e refl | inr e ↦ rw e refl ]

carried_by_write : (op : Op) → (op ≡ ReqWr) ⊎ (op ≡ ReqWrPosted) → (span : ℕ) → carried_by op span ≡ span
carried_by_write op h span = elim h [ inl e ↦ rw e refl | inr e ↦ rw e refl ]

-- a write stores the bytes that it carries
pub write_memory : (m : MemoryState) (p : Packet) → (p.cmd.op ≡ ReqWr) ⊎ (p.cmd.op ≡ ReqWrPosted) → m.readonly ≡ false → IsInRange m p → memory_after m (accesses_of p) ≡ stored m p.dst (take (span_of p.cmd) p.body)
write_memory m p op writable within =
    let n = word_count_of p.cmd in
    let s = 2 ^ p.cmd.size in
    let bytes = take (n * s) p.body in
    let carried : carried_of p.cmd ≡ n * s = carried_by_write p.cmd.op op (span_of p.cmd) in
    let whole : n * s ≤ length bytes = simp length-take (omega (arith, p.whole, p.fits)) in
    let writes : (m : MemoryState) (j : ℕ) → m.readonly ≡ false → access_step m (access_at (message_of p) j) ≡ stored m (p.dst + j * s) (share p.cmd.size j bytes) = λ m j w. access_step_taken m (access_at (message_of p) j) w ∙ written_by_write p.cmd.op op m (access_at (message_of p) j)
    ∙ ap (λ (k : ℕ). stored m (p.dst + j * s) (share p.cmd.size j (take k p.body))) carried in
    let none : p.dst + 0 * s ≡ p.dst = omega arith in
    let joined : flat_map (λ j. share p.cmd.size j bytes) (range_with_len 0 n) ≡ bytes = shares_joined p.cmd.size bytes 0 n ∙ rw zero-mul (take-take (n * s) (n * s) p.body (omega arith)) in
    memory_after_stores (access_at (message_of p)) (λ j. share p.cmd.size j bytes) n p.dst s writes (λ j h. length-share p.cmd.size j n bytes whole h) m 0 n (omega arith) writable within.low (omega (arith, within.high, within.low))
    ∙ rw (none, joined) refl

-- word j of a write is answered by word j of a packet with no body
write_word : (r m : MemoryState) (p a : Packet) (j : ℕ) → p.cmd.op ≡ ReqWr → IsAnswerTo p a → a.cmd.tail ≡ code_number (write_code r) → m.readonly ≡ r.readonly → access_answer m (access_at (message_of p) j) ≡ Some (access_at (message_of a) j)
write_word r m p a j op answers code same =
    rw (answers.op, answers.len, answers.size, answers.host, answers.qos, answers.prot, answers.eom, answers.eof, answers.ex, code, answers.dst, answers.src, op, same, drop-nil {A = ℕ} (j * 2 ^ p.cmd.size), take-nil {A = ℕ} (2 ^ p.cmd.size)) refl

-- a write is answered by as many words
pub write_answers : (m : MemoryState) (p a : Packet) → p.cmd.op ≡ ReqWr → IsAnswerTo p a → a.cmd.tail ≡ code_number (write_code m) → answers_in m (accesses_of p) ≡ map Some (accesses_of a)
write_answers m p a op answers code =
    let same : word_count_of a.cmd ≡ word_count_of p.cmd = rw (answers.op, answers.len, op) refl in
    answers_in_alike m.readonly (access_at (message_of p)) (access_at (message_of a)) Some (λ n j h. write_word m n p a j op answers code h) m 0 (word_count_of p.cmd) refl
    ∙ ap (λ (n : ℕ). map Some (map (access_at (message_of a)) (range_with_len 0 n))) (sym same)

-- nothing answers a posted write
pub posted_answers : (m : MemoryState) (p : Packet) → p.cmd.op ≡ ReqWrPosted → answers_in m (accesses_of p) ≡ map (λ _. None) (accesses_of p)
posted_answers m p op = answers_in_alike m.readonly (access_at (message_of p)) (access_at (message_of p)) (λ _. None) (λ n j h. rw op refl) m 0 (word_count_of p.cmd) refl

-- an answer speaks of as many words as its request
word_count_of_answer : (op : Op) (len : ℕ) → word_count_by (answer_op op) (answer_len op len) ≡ word_count_by op len
word_count_of_answer ReqRd len = refl
word_count_of_answer ReqWr len = refl
word_count_of_answer ReqWrPosted len = refl
word_count_of_answer ReqAtomic len = refl
word_count_of_answer RespRd len = refl
word_count_of_answer RespWr len = refl

-- and of as many bytes
pub span_of_answer : (p a : Packet) → IsAnswerTo p a → span_of a.cmd ≡ span_of p.cmd
span_of_answer p a answers =
    ap (λ (o : Op). word_count_by o a.cmd.len * 2 ^ a.cmd.size) answers.op ∙ ap (λ (len : ℕ). word_count_by (answer_op p.cmd.op) len * 2 ^ a.cmd.size) answers.len
    ∙ ap (λ (size : ℕ). word_count_by (answer_op p.cmd.op) (answer_len p.cmd.op p.cmd.len) * 2 ^ size) answers.size
    ∙ ap (λ (n : ℕ). n * 2 ^ p.cmd.size) (word_count_of_answer p.cmd.op p.cmd.len)
