-- What the entries so far come to: the memory of each device, and what was answered to each transaction; and how entries are followed.
use Rattle.std.specs.Prelude.{ℕ, ◌≡◌, ◌<◌, ◌+◌, ◌*◌, ◌/◌, ◌%◌, ◌^◌, Bool, ◌&&◌, ◌==◌, List, map, filter, filter_map, length, slice_get, slice_index_or, Some, Option, None}
use Rattle.std.specs.Option.{option_map_or}
use Rattle.sb_packet.specs.Accesses.{Access}
use Rattle.sb_packet.specs.Answers.{RunResults, answer_body, answer_code, unreached_by}
use Rattle.sb_packet.specs.Journals.{journal_accesses}
use Rattle.sb_packet.specs.Memories.{MemoryState, answers_to, memory_after}
use Rattle.sb_packet.specs.Networks.{NetHost, Network, device_at, opening_memory}
use Rattle.sb_packet.specs.Scripts.{transaction_accesses}
use Rattle.sb_check.specs.AnswerNotes.{NotedAnswers, is_posted, noted_at, noted_outcome}
use Rattle.sb_check.specs.declared.gathered.Gathered.{Gathered}
use Rattle.sb_packet.specs.declared.entry.Entry.{Entry}
use Rattle.sb_packet.specs.declared.transaction.Txn.{Txn}
use Rattle.sb_check.specs.Histories.{IsFirstWrong}
use Rattle.sb_check.specs.Progresses.{HasReached}
use Rattle.sb_check.specs.declared.course.Course.{Course}
use Rattle.sb_check.specs.declared.progress.Progress.{Progress}

-- the transaction to which the answers at an address go, by its number in its host's script
abbrev pub transaction_number : ℕ → ℕ
transaction_number address = address % 2 ^ 40 / 2 ^ 11

-- an access answers a word of transaction i of the host with that id
abbrev pub is_reply_to : ℕ → ℕ → Access → Bool
is_reply_to id i a = (a.host == id) && (transaction_number a.dst == i)

-- what device d has answered to that transaction by a journal, in order
abbrev pub device_replies : Network → List Entry → ℕ → ℕ → ℕ → List Access
device_replies network journal id i d =
    filter (is_reply_to id i) (answers_to (opening_memory network d) (journal_accesses journal d))

-- what was answered to transaction i of a host by a journal that may go on, by its device or where there is none
abbrev pub replies_so_far : Network → List Entry → NetHost → ℕ → Txn → List Access
replies_so_far network journal host i t =
    option_map_or (device_replies network journal host.id i) (device_at network t.addr)
    (filter_map (λ a. unreached_by a.op a) (transaction_accesses host i t))

-- the answers to transaction i of a host are noted; all bytes that it speaks of have room
pub record AreNoted (network : Network) (journal : List Entry) (host : NetHost) (i : ℕ) (t : Txn) (n : NotedAnswers) : Type 0 where
  pub posted : n.posted ≡ is_posted t.kind
  pub code : n.code ≡ answer_code (replies_so_far network journal host i t)
  pub body : n.body ≡ answer_body (replies_so_far network journal host i t)
  pub room : length n.body + n.room ≡ t.count * 2 ^ t.size

-- a memory is that of device d after the entries of a journal
pub record IsStepped (network : Network) (journal : List Entry) (d : ℕ) (m : MemoryState) : Type 0 where
  pub stepped : m ≡ memory_after (opening_memory network d) (journal_accesses journal d)
  pub base : m.base ≡ (opening_memory network d).base
  pub size : length m.bytes ≡ length (opening_memory network d).bytes

-- Each device's memory is stepped by the entries of a journal, and what they answered is noted of each transaction of each host.
pub record Gathers (network : Network) (journal : List Entry) (g : Gathered) : Type 0 where
  pub memory_count : length g.memories.items ≡ length network.devices
  pub memories : (d : ℕ) (none : MemoryState) → d < length network.devices
      → IsStepped network journal d (slice_index_or g.memories.items d none)
  pub note_counts : map length g.notes.items ≡ map (λ h. length h.script) network.hosts
  pub notes : (k i : ℕ) (host : NetHost) (t : Txn) → slice_get network.hosts k ≡ Some host → slice_get host.script i ≡ Some t
      → AreNoted network journal host i t (noted_at g.notes.items k i)

-- what is gathered, as results
abbrev pub gathered_results : Gathered → RunResults
gathered_results g = record { outcomes = map (map noted_outcome) g.notes.items; images = map (λ m. m.bytes) g.memories.items }

-- Following the entries of a history.

-- up to a first entry that doesn't come rightly, or to the last one
abbrev pub IsFollowedTo : Option ℕ → Network → List Entry → Progress → Gathered → Type 0
IsFollowedTo None network journal progress gathered = HasReached network progress journal × Gathers network journal gathered
IsFollowedTo (Some place) network journal progress gathered = IsFirstWrong network journal place

-- A journal was followed: it is known how far the scripts are in it and what it comes to; or which is the first entry that
-- doesn't come rightly.
abbrev pub IsFollowed : Network → List Entry → Course → Type 0
IsFollowed network journal course = IsFollowedTo course.wrong network journal course.progress course.gathered
