-- The window of a host: which of its transactions take a slot, and for which one the next one waits.
use Rattle.std.specs.Prelude.{ℕ, ◌≡◌, ◌≤◌, ◌<◌, ◌+◌, ◌-◌, ◌==◌, ◌&&◌, nat_lt, not, Bool, true, false, List, length, Contains, filter, slice_get, Option, None, Some, option_map, option_and_then, is_some, if◌then◌else◌}
use Rattle.std.specs.List.{range_with_len}
use Rattle.std.specs.Option.{option_map_or}
use Rattle.sb_link.specs.declared.answers.Cause.{Cause}
use Rattle.sb_link.specs.declared.answers.Cause.TheVariants as causes
use Rattle.sb_packet.specs.Accesses.{Access}
use Rattle.sb_flow.specs.Rings.{is_answered, is_answered_kind}
use Rattle.sb_host.specs.declared.transaction_plan.TransactionPlan.{TransactionPlan}
use Rattle.sb_host.specs.declared.answer_row.AnswerRow.{AnswerRow}
use Rattle.sb_host.specs.Outcomes.{first_answer}
use Rattle.sb_host.specs.Progress.{TransactionsSide, left_of}

-- so many transactions of a host that are answered from the network may be under way
abbrev pub window_slots : ℕ
window_slots = 64

-- a transaction takes a slot: it is aimed at a device, and answered
abbrev pub takes_slot : TransactionPlan → Bool
takes_slot line = line.aimed && is_answered_kind line.txn.kind

-- the same of the transaction with a number
abbrev pub takes_slot_at : List TransactionPlan → ℕ → Bool
takes_slot_at lines i = option_map_or takes_slot (slice_get lines i) false

-- the numbers of the transactions before transaction n that take a slot, in order
abbrev pub slots_taken : List TransactionPlan → ℕ → List ℕ
slots_taken lines n = filter (takes_slot_at lines) (range_with_len 0 n)

-- the last but 63 of these, where there are so many
abbrev pub last_of_slot : List ℕ → Option ℕ
last_of_slot taken = if nat_lt (length taken) window_slots then None else slice_get taken (length taken - window_slots)

-- The transaction that took the slot of transaction n before it: the one 64 such transactions earlier.
abbrev pub slot_before : List TransactionPlan → ℕ → Option ℕ
slot_before lines n = last_of_slot (slots_taken lines n)

-- a transaction misses a word of its answer, by its row
abbrev pub misses_word : List AnswerRow → ℕ → Bool
misses_word rows i = option_map_or (λ row. not (row.missing == 0)) (slice_get rows i) false

-- a transaction, where it misses a word
abbrev pub if_missing : List AnswerRow → ℕ → Option ℕ
if_missing rows i = if misses_word rows i then Some i else None

-- For which transaction the next one waits, before its first packet: for the one that took its slot before it, where that one misses a word.
abbrev pub window_wait : TransactionsSide → Option ℕ
window_wait t = if (t.part == 0) && takes_slot_at t.asked.lines t.next then option_and_then (if_missing t.rows) (slot_before t.asked.lines t.next) else None

-- the same, as the cause for which a host does nothing
abbrev pub window_cause : TransactionsSide → Option Cause
window_cause t = option_map causes.Window (window_wait t)

-- how many transactions have begun
abbrev pub begun_count : TransactionsSide → ℕ
begun_count t = if t.part == 0 then t.next else t.next + 1

-- the transactions that have begun and take a slot
abbrev pub begun_slots : TransactionsSide → List ℕ
begun_slots t = slots_taken t.asked.lines (begun_count t)

-- No slot is taken again before its transaction is answered: one behind which 64 others have begun misses no word.
abbrev pub KeepsWindow : TransactionsSide → Type 0
KeepsWindow t = (k i : ℕ) → slice_get (begun_slots t) k ≡ Some i → k + window_slots < length (begun_slots t) → misses_word t.rows i ≡ false

-- The transactions that are under way: they have begun, and miss a word.
abbrev pub under_way : TransactionsSide → List ℕ
under_way t = filter (misses_word t.rows) (begun_slots t)

-- A host has held its next packet back: it waits for a slot.
pub record IsHeldBack (before after : TransactionsSide) : Type 0 where
  pub left : left_of after ≡ left_of before
  pub waits : is_some (window_cause after) ≡ true

-- A word was offered that is answered, and nothing that answers it was received.
pub record IsAnswerMissed (id : ℕ) (offered received : List Access) : Type 0 where
  pub word : Access
  pub own : word.host ≡ id
  pub was_offered : Contains offered word
  pub answered : is_answered word.op ≡ true
  pub missed : first_answer received word ≡ None

-- The last transactions before transaction n that take a slot, at most 64: so many, and the first of them.
pub record IsWindow (lines : List TransactionPlan) (n oldest taken : ℕ) : Type 0 where
  pub behind : oldest ≤ n
  pub counted : length (slots_taken lines oldest) + taken ≡ length (slots_taken lines n)
  pub few : taken ≤ window_slots
  pub all : taken < window_slots → length (slots_taken lines oldest) ≡ 0
  pub first : 0 < taken → takes_slot_at lines oldest ≡ true
