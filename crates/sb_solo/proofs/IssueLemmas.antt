-- The packets of a transaction are stepped one after another.
use Rattle.std.proofs.Common.{◌≡◌, ◌≤◌, ℕ, zero, suc, ◌+◌, List, [], ◌∷◌, ◌++◌, ap, sym, ◌∙◌, refl, arith, take, length}
use Rattle.std.specs.Prelude.{Option, Some, None, map, max, flat_map, filter_map, slice_get}
use Rattle.std.specs.List.{range_with_len}
use Rattle.std.proofs.lemmas.Grind.{flat_map-append}
use Rattle.std.proofs.lemmas.List.{append-nil, take_more, take_all}
use Rattle.std.proofs.lemmas.List.Elements.{filter_map-append}
use Rattle.std.proofs.lemmas.Option.{get_or_from_slice_get, slice_get_within}
use Rattle.sb_word.specs.declared.command.Op.{Op}
use Rattle.sb_word.specs.declared.command.Op.TheVariants.{ReqWrPosted}
use Rattle.sb_packet.specs.Messages.{Message, message_of}
use Rattle.sb_packet.specs.Accesses.{Access, access_at, accesses_of, message_accesses}
use Rattle.sb_packet.specs.Memories.{MemoryState, access_step, answer_by, answers_in, answers_to, memory_after}
use Rattle.sb_packet.specs.Answers.{Outcome, answer_body, answer_code, outcome_of}
use Rattle.sb_packet.specs.Cuts.{transaction_packets}
use Rattle.sb_packet.specs.Scripts.{request_of, transaction_accesses, transaction_message}
use Rattle.sb_solo.specs.Solo.{solo_host}
use Rattle.sb_packet.specs.declared.packet.Packet.{Packet}
use Rattle.sb_packet.specs.declared.transaction.Kind.{Kind}
use Rattle.sb_packet.specs.declared.transaction.Kind.TheVariants as kinds
use Rattle.sb_packet.specs.declared.transaction.Txn.{Txn}
use Rattle.sb_packet.proofs.CutWords.{words_of_cut}
use Rattle.sb_packet.proofs.FoundAnswers.{answers_in-append, memory_after-append}
use Rattle.sb_packet.proofs.JoinedAnswers.{answer_code-append, answer_body-append}
use Rattle.sb_solo.specs.Steps.{packet_answers, state_by}

-- one element more
pub take_next : {X : Type 0} (xs : List X) (k : ℕ) (x : X) → slice_get xs k ≡ Some x → take (k + 1) xs ≡ take k xs ++ x ∷ []
take_next xs k x h = take_more xs k x (slice_get_within xs k x h) ∙ ap (λ y. take k xs ++ y ∷ []) (get_or_from_slice_get xs k x x h)

-- the words of one packet more
pub words_next : (parts : List Message) (k : ℕ) (p : Packet) → slice_get parts k ≡ Some (message_of p) → flat_map message_accesses (take (k + 1) parts) ≡ flat_map message_accesses (take k parts) ++ accesses_of p
words_next parts k p h =
    ap (flat_map message_accesses) (take_next parts k (message_of p) h)
    ∙ flat_map-append message_accesses (take k parts) (message_of p ∷ [])
    ∙ ap (λ (r : List Access). flat_map message_accesses (take k parts) ++ r) (append-nil (accesses_of p))

found-append : (m : MemoryState) (xs ys : List Access) → answers_to m (xs ++ ys) ≡ answers_to m xs ++ answers_to (memory_after m xs) ys
found-append m xs ys = ap (filter_map (λ (a : Option Access). a)) (answers_in-append m xs ys) ∙ filter_map-append (λ (a : Option Access). a) (answers_in m xs) (answers_in (memory_after m xs) ys)

-- the memory after one packet more
pub memory_next : (m n after : MemoryState) (parts : List Message) (k : ℕ) (p : Packet) → slice_get parts k ≡ Some (message_of p) → n ≡ memory_after m (flat_map message_accesses (take k parts)) → after ≡ memory_after n (accesses_of p)
    → after ≡ memory_after m (flat_map message_accesses (take (k + 1) parts))
memory_next m n after parts k p h so_far is =
    is ∙ ap (λ (s : MemoryState). memory_after s (accesses_of p)) so_far
    ∙ sym (memory_after-append m (flat_map message_accesses (take k parts)) (accesses_of p))
    ∙ ap (memory_after m) (sym (words_next parts k p h))

-- the answers up to one packet more
found_next : (m n : MemoryState) (parts : List Message) (k : ℕ) (p : Packet) → slice_get parts k ≡ Some (message_of p) → n ≡ memory_after m (flat_map message_accesses (take k parts))
    → answers_to m (flat_map message_accesses (take (k + 1) parts)) ≡ answers_to m (flat_map message_accesses (take k parts)) ++ packet_answers n p
found_next m n parts k p h so_far =
    ap (answers_to m) (words_next parts k p h) ∙ found-append m (flat_map message_accesses (take k parts)) (accesses_of p)
    ∙ ap (λ (s : MemoryState). answers_to m (flat_map message_accesses (take k parts)) ++ answers_to s (accesses_of p)) (sym so_far)

pub body_next : (m n : MemoryState) (parts : List Message) (k : ℕ) (p : Packet) (body : List ℕ) → slice_get parts k ≡ Some (message_of p) → n ≡ memory_after m (flat_map message_accesses (take k parts))
    → body ≡ answer_body (answers_to m (flat_map message_accesses (take k parts)))
    → body ++ answer_body (packet_answers n p) ≡ answer_body (answers_to m (flat_map message_accesses (take (k + 1) parts)))
body_next m n parts k p body h so_far is =
    ap (λ (b : List ℕ). b ++ answer_body (packet_answers n p)) is
    ∙ sym (answer_body-append (answers_to m (flat_map message_accesses (take k parts))) (packet_answers n p))
    ∙ ap answer_body (sym (found_next m n parts k p h so_far))

pub code_next : (m n : MemoryState) (parts : List Message) (k : ℕ) (p : Packet) (code : ℕ) → slice_get parts k ≡ Some (message_of p) → n ≡ memory_after m (flat_map message_accesses (take k parts))
    → code ≡ answer_code (answers_to m (flat_map message_accesses (take k parts)))
    → max (answer_code (packet_answers n p)) code ≡ answer_code (answers_to m (flat_map message_accesses (take (k + 1) parts)))
code_next m n parts k p code h so_far is =
    let joined : answer_code (answers_to m (flat_map message_accesses (take (k + 1) parts))) ≡ max (answer_code (answers_to m (flat_map message_accesses (take k parts)))) (answer_code (packet_answers n p)) =
    ap answer_code (found_next m n parts k p h so_far) ∙ answer_code-append (answers_to m (flat_map message_accesses (take k parts))) (packet_answers n p) in
    omega (arith, joined, is)

-- all packets of a transaction have its words
pub words_whole : (i k : ℕ) (t : Txn) → length (transaction_packets (solo_host []) i t) ≤ k → flat_map message_accesses (take k (transaction_packets (solo_host []) i t)) ≡ transaction_accesses (solo_host []) i t
words_whole i k t all =
    ap (flat_map message_accesses) (take_all k (transaction_packets (solo_host []) i t) all) ∙ words_of_cut 32 (transaction_message (solo_host []) i t)

-- nothing answers a posted write
posted_from : (m : MemoryState) (f : ℕ → Access) → ((j : ℕ) → (f j).op ≡ ReqWrPosted) → (a k : ℕ) → answers_to m (map f (range_with_len a k)) ≡ []
posted_from m f posted a zero = refl
posted_from m f posted a (suc k) =
    let none : answer_by (f a).op m (f a) ≡ None = ap (λ (op : Op). answer_by op m (f a)) (posted a) in
    rw none (posted_from (access_step m (f a)) f posted (a + 1) k)

-- what the answers to a transaction come to
pub outcome_is : (m : MemoryState) (i : ℕ) (t : Txn) (kind : Kind) → t.kind ≡ kind → (body : List ℕ) (code : ℕ)
    → body ≡ answer_body (answers_to m (transaction_accesses (solo_host []) i t)) → code ≡ answer_code (answers_to m (transaction_accesses (solo_host []) i t))
    → let outcome : Outcome = record { state = state_by kind code; body = body } in outcome ≡ outcome_of kind (answers_to m (transaction_accesses (solo_host []) i t))
outcome_is m i t kinds.Read is body code has comes = rw (has, comes) refl
outcome_is m i t kinds.Write is body code has comes = rw (has, comes) refl
outcome_is m i t kinds.Posted is body code has comes =
    let op : request_of t.kind ≡ ReqWrPosted = ap request_of is in
    rw (has ∙ ap answer_body (posted_from m (access_at (transaction_message (solo_host []) i t)) (λ j. op) 0 t.count)) refl
outcome_is m i t (kinds.Atomic atomic) is body code has comes = rw (has, comes) refl
