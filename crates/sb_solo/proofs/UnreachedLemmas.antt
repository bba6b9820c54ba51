-- What becomes of a transaction that is aimed at no device.
use Rattle.std.proofs.Common.{◌≡◌, ◌<◌, ℕ, zero, suc, ◌+◌, ◌*◌, ◌^◌, List, [], ◌∷◌, ap, ◌∙◌, refl, arith, replicate, zero-mul}
use Rattle.std.specs.Prelude.{Some, None, map, filter_map}
use Rattle.std.specs.List.{range_with_len}
use Rattle.std.proofs.lemmas.List.{replicate-append-replicate}
use Rattle.sb_word.specs.declared.command.Op.{Op}
use Rattle.sb_word.specs.declared.command.Op.TheVariants.{ReqRd, ReqWr, ReqAtomic, RespRd, RespWr}
use Rattle.sb_packet.specs.Messages.{Message}
use Rattle.sb_packet.specs.Accesses.{Access, access_at, message_accesses}
use Rattle.sb_packet.specs.Memories.{reply}
use Rattle.sb_packet.specs.Answers.{answer_body, answer_code, code_numbered, outcome_of, unreached_by}
use Rattle.sb_packet.specs.Scripts.{request_of, transaction_message, transaction_accesses}
use Rattle.sb_solo.specs.Solo.{solo_host}
use Rattle.sb_packet.specs.declared.transaction.Code.TheVariants.{NetErr}
use Rattle.sb_packet.specs.declared.transaction.Kind.{Kind}
use Rattle.sb_packet.specs.declared.transaction.Kind.TheVariants as kinds
use Rattle.sb_packet.specs.declared.transaction.Txn.{Txn}
use Rattle.sb_packet.specs.declared.transaction.TxnState.TheVariants.{Answered}
use Rattle.sb_packet.proofs.JoinedAnswers.{answer_code-append}
use Rattle.sb_solo.specs.Steps.{lost_outcome}

-- the answers that some accesses have from no device
abbrev unreached : List Access → List Access
unreached list = filter_map (λ a. unreached_by a.op a) list

answers_made : (f g : ℕ → Access) → ((j : ℕ) → unreached_by (f j).op (f j) ≡ Some (g j)) → (a k : ℕ) → unreached (map f (range_with_len a k)) ≡ map g (range_with_len a k)
answers_made f g gives a zero = refl
answers_made f g gives a (suc k) = rw (gives a) (ap (λ (r : List Access). g a ∷ r) (answers_made f g gives (a + 1) k))

no_answers : (f : ℕ → Access) → ((j : ℕ) → unreached_by (f j).op (f j) ≡ None) → (a k : ℕ) → unreached (map f (range_with_len a k)) ≡ []
no_answers f gives a zero = refl
no_answers f gives a (suc k) = rw (gives a) (no_answers f gives (a + 1) k)

code_of_all : (n : ℕ) (g : ℕ → Access) → ((j : ℕ) → (g j).tail ≡ n) → (a k : ℕ) → answer_code (map g (range_with_len a (suc k))) ≡ n
code_of_all n g all a zero = let here = all a in omega arith
code_of_all n g all a (suc k) =
    let rest = map g (range_with_len (a + 1) (suc k)) in
    let more : answer_code rest ≡ n = code_of_all n g all (a + 1) k in
    let here = all a in
    answer_code-append (g a ∷ []) rest ∙ omega (arith, more, here)

no_bytes : (g : ℕ → Access) → ((j : ℕ) → (g j).bytes ≡ []) → (a k : ℕ) → answer_body (map g (range_with_len a k)) ≡ []
no_bytes g none a zero = refl
no_bytes g none a (suc k) = rw (none a) (no_bytes g none (a + 1) k)

zero_bytes : (s : ℕ) (g : ℕ → Access) → ((j : ℕ) → (g j).bytes ≡ replicate s 0) → (a k : ℕ) → answer_body (map g (range_with_len a k)) ≡ replicate (k * s) 0
zero_bytes s g zeros a zero = rw zero-mul refl
zero_bytes s g zeros a (suc k) =
    let split : suc k * s ≡ s + k * s = omega arith in
    rw (zeros a, zero_bytes s g zeros (a + 1) k, split) (replicate-append-replicate s (k * s) 0)

-- requests of an opcode whose answer brings zeros
zeros_for : (op : Op) (m : Message) → ((a : Access) → unreached_by op a ≡ Some (reply a RespRd NetErr (replicate (2 ^ a.size) 0))) → m.op ≡ op → (n : ℕ) → 0 < n
    → (answer_code (unreached (map (access_at m) (range_with_len 0 n))) ≡ 3) × (answer_body (unreached (map (access_at m) (range_with_len 0 n))) ≡ replicate (n * 2 ^ m.size) 0)
zeros_for op m gives is zero none = absurd (omega arith)
zeros_for op m gives is (suc k) some =
    let g : ℕ → Access = λ j. reply (access_at m j) RespRd NetErr (replicate (2 ^ m.size) 0) in
    let made : unreached (map (access_at m) (range_with_len 0 (suc k))) ≡ map g (range_with_len 0 (suc k)) = answers_made (access_at m) g (λ j. ap (λ (o : Op). unreached_by o (access_at m j)) is ∙ gives (access_at m j)) 0 (suc k) in
    (ap answer_code made ∙ code_of_all 3 g (λ j. refl) 0 k, ap answer_body made ∙ zero_bytes (2 ^ m.size) g (λ j. refl) 0 (suc k))

-- requests whose answer brings nothing
nothing_for : (m : Message) → m.op ≡ ReqWr → (n : ℕ) → 0 < n
    → (answer_code (unreached (map (access_at m) (range_with_len 0 n))) ≡ 3) × (answer_body (unreached (map (access_at m) (range_with_len 0 n))) ≡ [])
nothing_for m is zero none = absurd (omega arith)
nothing_for m is (suc k) some =
    let g : ℕ → Access = λ j. reply (access_at m j) RespWr NetErr [] in
    let made : unreached (map (access_at m) (range_with_len 0 (suc k))) ≡ map g (range_with_len 0 (suc k)) = answers_made (access_at m) g (λ j. ap (λ (o : Op). unreached_by o (access_at m j)) is) 0 (suc k) in
    (ap answer_code made ∙ code_of_all 3 g (λ j. refl) 0 k, ap answer_body made ∙ no_bytes g (λ j. refl) 0 (suc k))

outcome_alike : (list : List Access) (code : ℕ) (body : List ℕ) → (answer_code list ≡ code) × (answer_body list ≡ body) → outcome_of kinds.Read list ≡ record { state = Answered (code_numbered code); body = body }
outcome_alike list code body h = rw (h.0, h.1) refl

-- A transaction at no device comes to this.
pub outcome_of_lost : (i : ℕ) (t : Txn) → 0 < t.count → (kind : Kind) → t.kind ≡ kind → outcome_of kind (unreached (transaction_accesses (solo_host []) i t)) ≡ lost_outcome kind (t.count * 2 ^ t.size)
outcome_of_lost i t some kinds.Read is =
    let m = transaction_message (solo_host []) i t in
    outcome_alike (unreached (message_accesses m)) 3 _ (zeros_for ReqRd m (λ a. refl) (ap request_of is) t.count some)
outcome_of_lost i t some kinds.Write is =
    let m = transaction_message (solo_host []) i t in
    outcome_alike (unreached (message_accesses m)) 3 _ (nothing_for m (ap request_of is) t.count some)
outcome_of_lost i t some kinds.Posted is = refl
outcome_of_lost i t some (kinds.Atomic atomic) is =
    let m = transaction_message (solo_host []) i t in
    outcome_alike (unreached (message_accesses m)) 3 _ (zeros_for ReqAtomic m (λ a. refl) (ap request_of is) t.count some)
