-- What a packet does to a memory and a journal.
use Rattle.std.specs.Prelude.{ℕ, ◌≡◌, ◌+◌, ◌*◌, ◌^◌, List, [], ◌∷◌, length, replicate, if◌then◌else◌}
use Rattle.sb_packet.specs.Accesses.{Access, accesses_of}
use Rattle.sb_packet.specs.Memories.{MemoryState, answers_to}
use Rattle.sb_packet.specs.Networks.{has_address}
use Rattle.sb_packet.specs.Answers.{Outcome, code_numbered}
use Rattle.sb_packet.specs.Cuts.{transaction_packets}
use Rattle.sb_solo.specs.Solo.{solo_device, solo_host}
use Rattle.sb_packet.specs.declared.entry.Entry.{Entry}
use Rattle.sb_packet.specs.declared.packet.Packet.{Packet}
use Rattle.sb_packet.specs.declared.transaction.Code.TheVariants.{NetErr}
use Rattle.sb_packet.specs.declared.transaction.Kind.{Kind}
use Rattle.sb_packet.specs.declared.transaction.Kind.TheVariants as kinds
use Rattle.sb_packet.specs.declared.transaction.Txn.{Txn}
use Rattle.sb_packet.specs.declared.transaction.TxnState.{TxnState}
use Rattle.sb_packet.specs.declared.transaction.TxnState.TheVariants.{Posted, Answered}

-- the answers to the words of a packet, in order
abbrev pub packet_answers : MemoryState → Packet → List Access
packet_answers m p = answers_to m (accesses_of p)

-- an entry of the one memory, in the one round
pub record IsFirstRound (e : Entry) : Type 0 where
  pub round : e.round ≡ 0
  pub device : e.device ≡ 0

-- how many there are
abbrev pub entries_of : Txn → ℕ
entries_of t = if has_address t.addr solo_device then length (transaction_packets (solo_host []) 0 t) else 0

-- how many bytes are kept for the answers to a transaction
abbrev pub answer_room_of : Txn → ℕ
answer_room_of t = if has_address t.addr solo_device then 32 * length (transaction_packets (solo_host []) 0 t) else t.count * 2 ^ t.size

-- the same of a script
abbrev pub entries_in : List Txn → ℕ
entries_in [] = 0
entries_in (t ∷ txns) = entries_of t + entries_in txns

-- the room for the answers of a whole script
abbrev pub answer_room_in : List Txn → ℕ
answer_room_in [] = 0
answer_room_in (t ∷ txns) = answer_room_of t + answer_room_in txns

-- the state of a transaction whose words were answered with that code at most
abbrev pub state_by : Kind → ℕ → TxnState
state_by kinds.Read code = Answered (code_numbered code)
state_by kinds.Write code = Answered (code_numbered code)
state_by kinds.Posted code = Posted
state_by (kinds.Atomic atomic) code = Answered (code_numbered code)

-- what becomes of a transaction at no device, by what it asks for and how many bytes it speaks of
abbrev pub lost_outcome : Kind → ℕ → Outcome
lost_outcome kinds.Read span = record { state = Answered NetErr; body = replicate span 0 }
lost_outcome kinds.Write span = record { state = Answered NetErr; body = [] }
lost_outcome kinds.Posted span = record { state = Posted; body = [] }
lost_outcome (kinds.Atomic atomic) span = record { state = Answered NetErr; body = replicate span 0 }
