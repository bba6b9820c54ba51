-- What a host keeps of the answers to a transaction.
use Rattle.std.specs.Prelude.{ℕ, ◌≡◌, ◌<◌, Bool, List, [], map, filter_map, flat_map, length, replicate, set, slice_index_or, Option, Some, None, is_some, ◌==◌, not, count_by, ◌^◌, if◌then◌else◌}
use Rattle.std.specs.Option.{option_map_or}
use Rattle.std.specs.List.{AllByRecursion}
use Rattle.sb_packet.specs.Accesses.{Access}
use Rattle.sb_packet.specs.Answers.{Outcome, answer_code, code_numbered}
use Rattle.sb_packet.specs.declared.transaction.Kind.{Kind}
use Rattle.sb_packet.specs.declared.transaction.Kind.TheVariants.{Read, Write, Posted, Atomic}
use Rattle.sb_packet.specs.declared.transaction.TxnState.TheVariants as states
use Rattle.sb_host.specs.declared.transaction_plan.TransactionPlan.{TransactionPlan}
use Rattle.sb_host.specs.declared.answer_row.AnswerRow.{AnswerRow}
use Rattle.sb_host.specs.Asked.{Asked, line_accesses}
use Rattle.sb_host.specs.Outcomes.{first_answer}

-- how many bytes the answer to a word carries, by what is asked and the bytes of a word
abbrev pub answer_bytes : Kind → ℕ → ℕ
answer_bytes Read bytes = bytes
answer_bytes Write bytes = 0
answer_bytes Posted bytes = 0
answer_bytes (Atomic type) bytes = bytes

-- the same of a word of a transaction
abbrev pub answer_width : TransactionPlan → ℕ
answer_width line = answer_bytes line.txn.kind (2 ^ line.txn.size)

-- the bytes that answered a word, and zeros where it isn't answered
abbrev pub bytes_or_zeros : ℕ → Option Access → List ℕ
bytes_or_zeros width answer = option_map_or (λ a. a.bytes) answer (replicate width 0)

-- an answer brings so many bytes
abbrev pub IsAsWide : ℕ → Option Access → Type 0
IsAsWide width answer = length (bytes_or_zeros width answer) ≡ width

-- a row keeps these answers to the words of a transaction, each of which brings so many bytes
pub record IsRow (width : ℕ) (answers : List (Option Access)) (row : AnswerRow) : Type 0 where
  pub answered : row.answered.items ≡ map is_some answers
  pub counted : row.missing ≡ count_by not row.answered.items
  pub code : row.code ≡ answer_code (filter_map (λ a. a) answers)
  pub body : row.body.items ≡ flat_map (bytes_or_zeros width) answers
  pub wide : AllByRecursion (IsAsWide width) answers

-- the answers with one more at a place, where none stands there
abbrev pub with_answer : List (Option Access) → ℕ → Access → List (Option Access)
with_answer answers j a = if is_some (slice_index_or answers j None) then answers else set answers j (Some a)

-- what answered a word that is aimed at a device, or at none
abbrev pub device_answer : List Access → Bool → Access → Option Access
device_answer received aimed word = if aimed then first_answer received word else None

-- what devices answered to the words of transaction i
abbrev pub line_answers : Asked → List Access → ℕ → TransactionPlan → List (Option Access)
line_answers asked received i line = map (device_answer received line.aimed) (line_accesses asked i line)

-- A table keeps what devices answered to all transactions.
pub record IsTable (asked : Asked) (received : List Access) (rows : List AnswerRow) : Type 0 where
  pub rows_of_lines : length rows ≡ length asked.lines
  pub each : (i : ℕ) (l : TransactionPlan) (r : AnswerRow) → i < length asked.lines
      → IsRow (answer_width (slice_index_or asked.lines i l)) (line_answers asked received i (slice_index_or asked.lines i l))
      (slice_index_or rows i r)

-- a transaction is answered, by its row: all its words are, or the host has passed over it
abbrev pub is_settled : Bool → Bool → AnswerRow → Bool
is_settled aimed passed row = if aimed then row.missing == 0 else passed

-- the number of its code, which is 3 where it is aimed at no device
abbrev pub settled_code : Bool → AnswerRow → ℕ
settled_code aimed row = if aimed then row.code else 3

-- the outcome of a transaction that can be answered, by its row
abbrev pub settled_outcome : Bool → Bool → AnswerRow → Outcome
settled_outcome aimed passed row =
    if is_settled aimed passed row
    then record { state = states.Answered (code_numbered (settled_code aimed row)); body = row.body.items }
    else record { state = states.Waiting; body = [] }

-- the outcome of any transaction, by its row
abbrev pub kept_outcome : Kind → Bool → Bool → AnswerRow → Outcome
kept_outcome Read aimed passed row = settled_outcome aimed passed row
kept_outcome Write aimed passed row = settled_outcome aimed passed row
kept_outcome Posted aimed passed row = record { state = states.Posted; body = [] }
kept_outcome (Atomic type) aimed passed row = settled_outcome aimed passed row
