-- What a row tells of a transaction is what has become of it.
use Rattle.std.proofs.Common.{◌≡◌, ◌≤◌, ◌<◌, ◌+◌, ◌^◌, ℕ, zero, suc, List, [], ◌∷◌, ◌++◌, refl, sym, ap, subst, ◌∙◌, arith, Bool, true, false, Option, Some, None, replicate}
use Rattle.std.specs.Prelude.{map, max, is_some, flat_map, not, count_by, ◌==◌, if◌then◌else◌}
use Rattle.std.specs.List.{range_with_len, list_all}
use Rattle.std.proofs.lemmas.Simd.{map-map}
use Rattle.std.proofs.lemmas.List.Folds.{sum_by-zero, list_all-map}
use Rattle.sb_word.specs.declared.command.Op.TheVariants.{RespRd, RespWr}
use Rattle.sb_packet.specs.Accesses.{Access, access_at}
use Rattle.sb_packet.specs.Answers.{answer_body, answer_code, code_numbered, outcome_of, unreached_by}
use Rattle.sb_packet.specs.Memories.{reply}
use Rattle.sb_packet.specs.Scripts.{request_of}
use Rattle.sb_packet.specs.declared.transaction.Code.TheVariants.{NetErr}
use Rattle.sb_packet.specs.declared.transaction.Kind.{Kind}
use Rattle.sb_packet.specs.declared.transaction.Kind.TheVariants.{Read, Write, Posted, Atomic}
use Rattle.sb_packet.specs.declared.transaction.TxnState.TheVariants as states
use Rattle.sb_packet.proofs.JoinedAnswers.{answer_code-append}
use Rattle.sb_packet.proofs.Ranges.{range_agrees}
use Rattle.sb_host.specs.declared.transaction_plan.TransactionPlan.{TransactionPlan}
use Rattle.sb_host.specs.declared.answer_row.AnswerRow.{AnswerRow}
use Rattle.sb_host.specs.Asked.{Asked, line_accesses, line_message}
use Rattle.sb_host.specs.Outcomes.{answer_so_far, line_outcome, outcome_by, outcome_so_far}
use Rattle.sb_host.specs.Rows.{IsRow, answer_bytes, answer_width, bytes_or_zeros, device_answer, line_answers, kept_outcome, settled_outcome}
use Rattle.sb_host.proofs.RowAnswers.{found}

list_all_agree : {X : Type 0} (p q : X → Bool) (xs : List X) → ((x : X) → p x ≡ q x) → list_all p xs ≡ list_all q xs
list_all_agree p q [] same = refl
list_all_agree p q (x ∷ xs) same = rw (same x, list_all_agree p q xs same) refl

-- none is missing where all are answered
all_answered : (answers : List (Option Access)) → list_all is_some answers ≡ (count_by not (map is_some answers) == 0)
all_answered answers =
    let missing : Bool → ℕ = λ b. if not b then 1 else 0 in
    list_all_agree is_some (λ x. missing (is_some x) == 0) answers each
    ∙ sym (list_all-map (λ b. missing b == 0) is_some answers)
    ∙ sym (sum_by-zero missing (map is_some answers))
  where
    each : (x : Option Access) → is_some x ≡ ((if not (is_some x) then 1 else 0) == 0)
    each None = refl
    each (Some x) = refl

-- where all are answered the bytes are those of the answers
all_bytes : (width : ℕ) (answers : List (Option Access)) → list_all is_some answers ≡ true → flat_map (bytes_or_zeros width) answers ≡ answer_body (found answers)
all_bytes width [] all = refl
all_bytes width (None ∷ xs) all = absurd (cc)
all_bytes width (Some x ∷ xs) all = ap (λ rest. x.bytes ++ rest) (all_bytes width xs all)

-- a transaction that is aimed at a device
aimed_outcome : (kind : Kind) (width : ℕ) (answers : List (Option Access)) (passed : Bool) (row : AnswerRow) → IsRow width answers row
    → outcome_so_far kind answers ≡ kept_outcome kind true passed row
aimed_outcome kind width answers passed row is =
    by_kind kind where
      missing : list_all is_some answers ≡ (row.missing == 0)
      missing = all_answered answers ∙ ap (λ (n : ℕ). n == 0) (sym (is.counted ∙ ap (count_by not) is.answered))

      settled : (kind : Kind) → ((list : List Access) → outcome_of kind list ≡ record { state = states.Answered (code_numbered (answer_code list)); body = answer_body list })
          → outcome_by kind answers ≡ settled_outcome true passed row
      settled kind answered =
          let goal : Bool → Bool → Type 0 = λ a b. (if a then outcome_of kind (found answers) else record { state = states.Waiting; body = [] })
          ≡ (if b then record { state = states.Answered (code_numbered row.code); body = row.body.items } else record { state = states.Waiting; body = [] }) in
          subst (goal (list_all is_some answers)) missing
          (elim (list_all is_some answers) as (λ b. list_all is_some answers ≡ b → goal b b) [
            | true ↦ λ all. answered (found answers)
                ∙ ap (λ (n : ℕ). record { state = states.Answered (code_numbered n); body = answer_body (found answers) }) (sym is.code)
                ∙ ap (λ (bytes : List ℕ). record { state = states.Answered (code_numbered row.code); body = bytes }) (sym (is.body ∙ all_bytes width answers all))
            | false ↦ λ some. refl
          ] refl)

      by_kind : (kind : Kind) → outcome_so_far kind answers ≡ kept_outcome kind true passed row
      by_kind Read = settled Read (λ list. refl)
      by_kind Write = settled Write (λ list. refl)
      by_kind Posted = refl
      by_kind (Atomic type) = settled (Atomic type) (λ list. refl)

-- answers to words that no device has: all of code 3, each with zeros
module _ (g : ℕ → Access) (width : ℕ) (code : (j : ℕ) → (g j).tail ≡ 3) (bytes : (j : ℕ) → (g j).bytes ≡ replicate width 0) where
  lost_all : (a n : ℕ) → list_all is_some (map (λ j. Some (g j)) (range_with_len a n)) ≡ true
  lost_all a zero = refl
  lost_all a (suc n) = lost_all (a + 1) n

  lost_body : (a n : ℕ) → answer_body (found (map (λ j. Some (g j)) (range_with_len a n))) ≡ flat_map (bytes_or_zeros width) (map (λ j. None) (range_with_len a n))
  lost_body a zero = refl
  lost_body a (suc n) = ap (λ (front : List ℕ). front ++ answer_body (found (map (λ j. Some (g j)) (range_with_len (a + 1) n)))) (bytes a)
      ∙ ap (λ (rest : List ℕ). replicate width 0 ++ rest) (lost_body (a + 1) n)

  lost_at_most : (a n : ℕ) → answer_code (found (map (λ j. Some (g j)) (range_with_len a n))) ≤ 3
  lost_at_most a zero = omega arith
  lost_at_most a (suc n) =
      let rest = found (map (λ j. Some (g j)) (range_with_len (a + 1) n)) in
      let joined : answer_code (g a ∷ rest) ≡ max (max 0 (g a).tail) (answer_code rest) = answer_code-append (g a ∷ []) rest in
      let few = lost_at_most (a + 1) n in
      let here = code a in
      rw joined (omega (arith, few, here))

  lost_code : (a n : ℕ) → 0 < n → answer_code (found (map (λ j. Some (g j)) (range_with_len a n))) ≡ 3
  lost_code a zero some = absurd (omega arith)
  lost_code a (suc n) some =
      let rest = found (map (λ j. Some (g j)) (range_with_len (a + 1) n)) in
      let joined : answer_code (g a ∷ rest) ≡ max (max 0 (g a).tail) (answer_code rest) = answer_code-append (g a ∷ []) rest in
      let few = lost_at_most (a + 1) n in
      let here = code a in
      joined ∙ omega (arith, few, here)

  -- the outcome of such a transaction
  lost_outcome : (kind : Kind) (n : ℕ) (row : AnswerRow) → 0 < n
      → ((list : List Access) → outcome_of kind list ≡ record { state = states.Answered (code_numbered (answer_code list)); body = answer_body list })
      → row.body.items ≡ flat_map (bytes_or_zeros width) (map (λ j. None) (range_with_len 0 n))
      → outcome_by kind (map (λ j. Some (g j)) (range_with_len 0 n)) ≡ settled_outcome false true row
  lost_outcome kind n row some answered body =
      let answers = map (λ j. Some (g j)) (range_with_len 0 n) in
      ap (λ (b : Bool). if b then outcome_of kind (found answers) else record { state = states.Waiting; body = [] }) (lost_all 0 n)
      ∙ answered (found answers)
      ∙ ap (λ (c : ℕ). record { state = states.Answered (code_numbered c); body = answer_body (found answers) }) (lost_code 0 n some)
      ∙ ap (λ (list : List ℕ). record { state = states.Answered (code_numbered 3); body = list }) (lost_body 0 n ∙ sym body)

-- no answer
abbrev no_answer : Option Access
no_answer = None

-- nothing answers a word
none_all : (a n : ℕ) → 0 < n → list_all is_some (map (λ (j : ℕ). no_answer) (range_with_len a n)) ≡ false
none_all a zero some = absurd (omega arith)
none_all a (suc n) some = refl

-- a transaction that is aimed at none
unaimed_outcome : (asked : Asked) (received : List Access) (passed : Bool) (i : ℕ) (l : TransactionPlan) (kind : Kind) (row : AnswerRow) → l.txn.kind ≡ kind → 0 < l.txn.count
    → IsRow (answer_width l) (map (device_answer received false) (line_accesses asked i l)) row
    → outcome_so_far kind (map (answer_so_far received false passed) (line_accesses asked i l)) ≡ kept_outcome kind false passed row
unaimed_outcome asked received passed i l kind row is some kept = by_kind kind is passed where
  body : row.body.items ≡ flat_map (bytes_or_zeros (answer_width l)) (map (λ (j : ℕ). no_answer) (range_with_len 0 l.txn.count))
  body = kept.body ∙ ap (flat_map (bytes_or_zeros (answer_width l))) (map-map (device_answer received false) (access_at (line_message asked i l)) (range_with_len 0 l.txn.count))

  -- before the host has passed over it
  before : (kind : Kind) → outcome_by kind (map (answer_so_far received false false) (line_accesses asked i l)) ≡ settled_outcome false false row
  before kind = ap (λ (b : Bool). if b then outcome_of kind (found (map (answer_so_far received false false) (line_accesses asked i l))) else record { state = states.Waiting; body = [] })
      (ap (list_all is_some) (map-map (answer_so_far received false false) (access_at (line_message asked i l)) (range_with_len 0 l.txn.count)) ∙ none_all 0 l.txn.count some)

  -- and afterwards
  after : (kind : Kind) (g : ℕ → Access) (width : ℕ) → answer_width l ≡ width → ((j : ℕ) → (g j).tail ≡ 3) → ((j : ℕ) → (g j).bytes ≡ replicate width 0)
      → ((j : ℕ) → unreached_by (request_of l.txn.kind) (access_at (line_message asked i l) j) ≡ Some (g j))
      → ((list : List Access) → outcome_of kind list ≡ record { state = states.Answered (code_numbered (answer_code list)); body = answer_body list })
      → outcome_by kind (map (answer_so_far received false true) (line_accesses asked i l)) ≡ settled_outcome false true row
  after kind g width wide code bytes each answered =
      ap (outcome_by kind) (map-map (answer_so_far received false true) (access_at (line_message asked i l)) (range_with_len 0 l.txn.count)
      ∙ range_agrees (λ j. unreached_by (request_of l.txn.kind) (access_at (line_message asked i l) j)) (λ j. Some (g j)) 0 0 l.txn.count (λ j below. each (0 + j)))
      ∙ lost_outcome g width code bytes kind l.txn.count row some answered (body ∙ ap (λ (n : ℕ). flat_map (bytes_or_zeros n) (map (λ (j : ℕ). no_answer) (range_with_len 0 l.txn.count))) wide)

  by_kind : (kind : Kind) → l.txn.kind ≡ kind → (passed : Bool) → outcome_so_far kind (map (answer_so_far received false passed) (line_accesses asked i l)) ≡ kept_outcome kind false passed row
  by_kind Read is false = before Read
  by_kind Write is false = before Write
  by_kind Posted is passed = refl
  by_kind (Atomic type) is false = before (Atomic type)
  by_kind Read is true = after Read (λ j. reply (access_at (line_message asked i l) j) RespRd NetErr (replicate (2 ^ l.txn.size) 0)) (2 ^ l.txn.size)
      (ap (λ (k : Kind). answer_bytes k (2 ^ l.txn.size)) is) (λ j. refl) (λ j. refl) (λ j. ap (λ (k : Kind). unreached_by (request_of k) (access_at (line_message asked i l) j)) is) (λ list. refl)
  by_kind Write is true = after Write (λ j. reply (access_at (line_message asked i l) j) RespWr NetErr []) 0
      (ap (λ (k : Kind). answer_bytes k (2 ^ l.txn.size)) is) (λ j. refl) (λ j. refl) (λ j. ap (λ (k : Kind). unreached_by (request_of k) (access_at (line_message asked i l) j)) is) (λ list. refl)
  by_kind (Atomic type) is true = after (Atomic type) (λ j. reply (access_at (line_message asked i l) j) RespRd NetErr (replicate (2 ^ l.txn.size) 0)) (2 ^ l.txn.size)
      (ap (λ (k : Kind). answer_bytes k (2 ^ l.txn.size)) is) (λ j. refl) (λ j. refl) (λ j. ap (λ (k : Kind). unreached_by (request_of k) (access_at (line_message asked i l) j)) is) (λ list. refl)

-- What a row tells of a transaction is what has become of it.
pub outcome_told : (asked : Asked) (received : List Access) (passed : Bool) (i : ℕ) (l : TransactionPlan) (row : AnswerRow) → 0 < l.txn.count
    → IsRow (answer_width l) (line_answers asked received i l) row → line_outcome asked received passed i l ≡ kept_outcome l.txn.kind l.aimed passed row
outcome_told asked received passed i l row some kept =
    elim (l.aimed) as (λ b. IsRow (answer_width l) (map (device_answer received b) (line_accesses asked i l)) row → outcome_so_far l.txn.kind (map (answer_so_far received b passed) (line_accesses asked i l)) ≡ kept_outcome l.txn.kind b passed row) [
      | true ↦ λ kept. aimed_outcome l.txn.kind (answer_width l) (map (device_answer received true) (line_accesses asked i l)) passed row kept
      | false ↦ λ kept. unaimed_outcome asked received passed i l l.txn.kind row refl some kept
    ] kept
