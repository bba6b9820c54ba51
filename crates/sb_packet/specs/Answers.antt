-- What a journal answers to each transaction, what it leaves in each memory, and so what a run comes to.
use Rattle.std.specs.Prelude.{ℕ, ◌^◌, Bool, true, false, ◌&&◌, ◌==◌, not, List, [], ◌∷◌, map, filter_map, flat_map, fold, max, replicate, Option, Some, None, bytes_eq, if◌then◌else◌, length, slice_index_or}
use Rattle.std.specs.List.{enumerate_from, range_with_len}
use Rattle.sb_word.specs.Atomics.{atomic_number}
use Rattle.sb_word.specs.Words.{opcode_of}
use Rattle.sb_word.specs.declared.atomic.AtomicOp.{AtomicOp}
use Rattle.sb_word.specs.declared.command.Op.{Op}
use Rattle.sb_word.specs.declared.command.Op.TheVariants.{ReqAtomic, ReqRd, ReqWr, ReqWrPosted, RespRd, RespWr}
use Rattle.sb_packet.specs.Accesses.{Access}
use Rattle.sb_packet.specs.Memories.{MemoryState, access_answer, access_step, answers_in, memory_after, reply}
use Rattle.sb_packet.specs.Networks.{NetHost, Network, device_at, opening_memory}
use Rattle.sb_packet.specs.Scripts.{script_accesses, transaction_accesses}
use Rattle.sb_packet.specs.Journals.{flow_part, journal_accesses}
use Rattle.sb_packet.specs.declared.entry.Entry.{Entry}
use Rattle.sb_packet.specs.declared.transaction.Code.TheVariants.{NetErr}
use Rattle.sb_packet.specs.declared.transaction.Txn.{Txn}
use Rattle.sb_packet.specs.declared.transaction.Code.{Code}
use Rattle.sb_packet.specs.declared.transaction.Kind.{Kind}
use Rattle.sb_packet.specs.declared.transaction.TxnState.{TxnState}
use Rattle.sb_packet.specs.declared.transaction.Code.TheVariants as the_codes
use Rattle.sb_packet.specs.declared.transaction.Kind.TheVariants as kinds
use Rattle.sb_packet.specs.declared.transaction.TxnState.TheVariants as states

-- both are true, or both are false
abbrev pub same_bool : Bool → Bool → Bool
same_bool a b = if a then b else not b

-- both are one atomic, or both are none
abbrev pub same_atomic : Option AtomicOp → Option AtomicOp → Bool
same_atomic (Some a) (Some b) = atomic_number a == atomic_number b
same_atomic (Some a) None = false
same_atomic None (Some b) = false
same_atomic None None = true

-- two accesses are equal in every field
abbrev pub same_access : Access → Access → Bool
same_access a b =
    (a.src == b.src) && (a.dst == b.dst) && (opcode_of a.op == opcode_of b.op) && same_atomic a.atomic b.atomic
    && (a.size == b.size) && (a.host == b.host) && bytes_eq a.bytes b.bytes && same_bool a.last b.last
    && (a.qos == b.qos) && (a.prot == b.prot) && same_bool a.eof b.eof && same_bool a.ex b.ex && (a.tail == b.tail)

-- what a run of accesses does to a device from its opening memory: its last memory, and an answer for each access
pub record DeviceRun : Type 0 where
  pub memory : MemoryState
  pub answers : List (Option Access)

-- the run of a list of accesses at device d of a network
abbrev pub access_run : Network → ℕ → List Access → DeviceRun
access_run network d list = record { memory = memory_after (opening_memory network d) list; answers = answers_in (opening_memory network d) list }

-- the answer that an access has in such a run, at the first place where it stands
abbrev pub answer_at_first : MemoryState → List Access → Access → Option Access
answer_at_first m [] a = None
answer_at_first m (x ∷ rest) a = if same_access x a then access_answer m x else answer_at_first (access_step m x) rest a

-- the answer to a request at no device: its code says so, and zeros come where bytes were asked for
abbrev pub unreached_by : Op → Access → Option Access
unreached_by ReqRd a = Some (reply a RespRd NetErr (replicate (2 ^ a.size) 0))
unreached_by ReqWr a = Some (reply a RespWr NetErr [])
unreached_by ReqWrPosted a = None
unreached_by ReqAtomic a = Some (reply a RespRd NetErr (replicate (2 ^ a.size) 0))
unreached_by RespRd a = None
unreached_by RespWr a = None

-- the answer to a word by the place of its device, where it has one: the device's own, or that of no device
abbrev pub answer_from : Network → List Entry → Access → Option ℕ → Option Access
answer_from network journal a None = unreached_by a.op a
answer_from network journal a (Some d) = answer_at_first (opening_memory network d) (journal_accesses journal d) a

-- The answer to a word of a script: the one that its device gave where the journal has it, or that of no device.
abbrev pub access_reply : Network → List Entry → Access → Option Access
access_reply network journal a = answer_from network journal a (device_at network a.dst)

-- the answers to the words of transaction i of a host, in order
abbrev pub transaction_answers : Network → List Entry → NetHost → ℕ → Txn → List Access
transaction_answers network journal host i t = filter_map (access_reply network journal) (transaction_accesses host i t)

-- the answers to all words of a host at a device, in order
abbrev pub flow_answers : Network → List Entry → NetHost → ℕ → List Access
flow_answers network journal host d = filter_map (access_reply network journal) (flow_part network host d (script_accesses host))

-- The code of an answered transaction is the greatest of its words, by its number.
abbrev pub answer_code : List Access → ℕ
answer_code answers = fold max 0 (map (λ a. a.tail) answers)

-- Its body is the bytes of its words, one after another.
abbrev pub answer_body : List Access → List ℕ
answer_body answers = flat_map (λ a. a.bytes) answers

-- A device's memory in the end.
abbrev pub final_memory : Network → List Entry → ℕ → MemoryState
final_memory network journal d = (access_run network d (journal_accesses journal d)).memory

-- What a run comes to: the outcome of each transaction, and the bytes of each device.

-- how far a transaction came, and the bytes that were answered
pub record Outcome : Type 0 where
  pub state : TxnState
  pub body : List ℕ

-- for each host the outcomes of its transactions, and for each device its bytes
pub record RunResults : Type 0 where
  pub outcomes : List (List Outcome)
  pub images : List (List ℕ)

-- the code with a number from 0 to 3
abbrev pub code_numbered : ℕ → Code
code_numbered n = slice_index_or (the_codes.Ok ∷ the_codes.ExOk ∷ the_codes.DevErr ∷ []) n the_codes.NetErr

-- what answers come to where they are waited for
abbrev pub answered : List Access → Outcome
answered answers = record { state = states.Answered (code_numbered (answer_code answers)); body = answer_body answers }

-- what the answers to all words of a transaction come to
abbrev pub outcome_of : Kind → List Access → Outcome
outcome_of kinds.Posted answers = record { state = states.Posted; body = [] }
outcome_of kinds.Read answers = answered answers
outcome_of kinds.Write answers = answered answers
outcome_of (kinds.Atomic atomic) answers = answered answers

-- The outcomes of a host's transactions by a journal, in order.
abbrev pub host_outcomes : Network → List Entry → NetHost → List Outcome
host_outcomes network journal host = map (λ p. outcome_of p.1.kind (transaction_answers network journal host p.0 p.1)) (enumerate_from 0 host.script)

-- What a journal comes to.
abbrev pub run_results : Network → List Entry → RunResults
run_results network journal = record {
  outcomes = map (host_outcomes network journal) network.hosts;
  images = map (λ d. (final_memory network journal d).bytes) (range_with_len 0 (length network.devices));
}
