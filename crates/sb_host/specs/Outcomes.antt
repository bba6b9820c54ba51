-- What has become of a host's transactions, by the words that it received. Nothing is said of when a word came, nor where it is kept.
use Rattle.std.specs.Prelude.{ℕ, Bool, true, false, ◌&&◌, ◌==◌, nat_lt, List, [], map, filter_map, Option, None, is_some, if◌then◌else◌}
use Rattle.std.specs.List.{enumerate_from, find, list_all}
use Rattle.sb_word.specs.declared.command.Op.{Op}
use Rattle.sb_word.specs.declared.command.Op.TheVariants.{ReqRd, ReqWr, ReqWrPosted, ReqAtomic, RespRd, RespWr}
use Rattle.sb_packet.specs.Accesses.{Access}
use Rattle.sb_packet.specs.Answers.{Outcome, outcome_of, unreached_by}
use Rattle.sb_packet.specs.declared.transaction.Kind.{Kind}
use Rattle.sb_packet.specs.declared.transaction.Kind.TheVariants.{Read, Write, Posted, Atomic}
use Rattle.sb_packet.specs.declared.transaction.TxnState.TheVariants as states
use Rattle.sb_host.specs.declared.transaction_plan.TransactionPlan.{TransactionPlan}
use Rattle.sb_host.specs.Asked.{Asked, line_accesses}

-- an answer that brings bytes
abbrev pub is_read_answer : Op → Bool
is_read_answer RespRd = true
is_read_answer RespWr = false
is_read_answer ReqRd = false
is_read_answer ReqWr = false
is_read_answer ReqWrPosted = false
is_read_answer ReqAtomic = false

-- an answer that brings none
abbrev pub is_write_answer : Op → Bool
is_write_answer RespWr = true
is_write_answer RespRd = false
is_write_answer ReqRd = false
is_write_answer ReqWr = false
is_write_answer ReqWrPosted = false
is_write_answer ReqAtomic = false

-- which opcode answers which: bytes come back for a read and an atomic, and none for a write; nothing answers a posted write
abbrev pub is_answered_by : Op → Op → Bool
is_answered_by ReqRd answer = is_read_answer answer
is_answered_by ReqAtomic answer = is_read_answer answer
is_answered_by ReqWr answer = is_write_answer answer
is_answered_by ReqWrPosted answer = false
is_answered_by RespRd answer = false
is_answered_by RespWr answer = false

-- a received word answers a word of a script: it came to that one's reply address, with the opcode and the size of its answer
abbrev pub is_answer_to : Access → Access → Bool
is_answer_to word a = (a.dst == word.src) && (a.size == word.size) && is_answered_by word.op a.op

-- What answered a word that went to a device: the first received word that answers it.
abbrev pub first_answer : List Access → Access → Option Access
first_answer received word = find (is_answer_to word) received

-- What answered a word so far. One that is aimed at no device is answered once the host has passed over its transaction.
abbrev pub answer_so_far : List Access → Bool → Bool → Access → Option Access
answer_so_far received true passed word = first_answer received word
answer_so_far received false true word = unreached_by word.op word
answer_so_far received false false word = None

-- the outcome of a transaction that is answered, by what answered its words
abbrev pub outcome_by : Kind → List (Option Access) → Outcome
outcome_by kind answers =
    if list_all is_some answers then outcome_of kind (filter_map (λ a. a) answers) else record { state = states.Waiting; body = [] }

-- the outcome of any transaction: nothing answers a posted one
abbrev pub outcome_so_far : Kind → List (Option Access) → Outcome
outcome_so_far Read answers = outcome_by Read answers
outcome_so_far Write answers = outcome_by Write answers
outcome_so_far Posted answers = record { state = states.Posted; body = [] }
outcome_so_far (Atomic type) answers = outcome_by (Atomic type) answers

-- the outcome of transaction i, which the host has passed over or issued, or not yet
abbrev pub line_outcome : Asked → List Access → Bool → ℕ → TransactionPlan → Outcome
line_outcome asked received passed i line =
    outcome_so_far line.txn.kind (map (answer_so_far received line.aimed passed) (line_accesses asked i line))

-- What has become of all transactions of a host that has received these words and has come to transaction `next`.
abbrev pub outcomes_so_far : Asked → List Access → ℕ → List Outcome
outcomes_so_far asked received next = map (λ p. line_outcome asked received (nat_lt p.0 next) p.0 p.1) (enumerate_from 0 asked.lines)
