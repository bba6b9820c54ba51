-- What is noted of the answers to each transaction, what that comes to, and where the bytes lie.
use Rattle.std.specs.Prelude.{ℕ, ◌-◌, ◌*◌, ◌^◌, Bool, true, false, List, [], ◌++◌, length, max, replicate, set, slice_index_or, is_some, if◌then◌else◌, ◌≤◌, ◌∷◌, take, drop}
use Rattle.sb_packet.specs.Networks.{Network, device_at}
use Rattle.sb_packet.specs.Answers.{Outcome, code_numbered}
use Rattle.sb_packet.specs.declared.transaction.Kind.{Kind}
use Rattle.sb_packet.specs.declared.transaction.Kind.TheVariants.{Atomic, Posted, Read, Write}
use Rattle.sb_packet.specs.declared.transaction.Txn.{Txn}
use Rattle.sb_check.specs.declared.answer_note.AnswerNote.{AnswerNote}
use Rattle.sb_packet.specs.declared.transaction.TxnState.TheVariants as states

-- What is noted of the answers to each transaction, and what that comes to.

-- of a transaction: whether it is posted, the greatest code of its answers so far, their bytes, and the room for more
pub record NotedAnswers : Type 0 where
  pub posted : Bool
  pub code : ℕ
  pub body : List ℕ
  pub room : ℕ

-- what a transaction came to, by what is noted of its answers
abbrev pub noted_outcome : NotedAnswers → Outcome
noted_outcome n =
    if n.posted then record { state = states.Posted; body = [] }
    else record { state = states.Answered (code_numbered n.code); body = n.body }

-- one answer more, with its code and its bytes
abbrev pub with_reply : NotedAnswers → ℕ → List ℕ → NotedAnswers
with_reply n code bytes = record { posted = n.posted; code = max n.code code; body = n.body ++ bytes; room = n.room - length bytes }

-- nothing answers a posted write
abbrev pub is_posted : Kind → Bool
is_posted Read = false
is_posted Write = false
is_posted Posted = true
is_posted (Atomic atomic) = false

-- no answer yet to a transaction of a kind, which speaks of so many bytes
abbrev pub none_noted : Kind → ℕ → NotedAnswers
none_noted kind span = record { posted = is_posted kind; code = 0; body = []; room = span }

-- all answers to a transaction at no device
abbrev pub unreached_noted : Kind → ℕ → NotedAnswers
unreached_noted Read span = record { posted = false; code = 3; body = replicate span 0; room = 0 }
unreached_noted Write span = record { posted = false; code = 3; body = []; room = span }
unreached_noted Posted span = record { posted = true; code = 0; body = []; room = span }
unreached_noted (Atomic atomic) span = record { posted = false; code = 3; body = replicate span 0; room = 0 }

-- What is noted of a transaction before any entry.
abbrev pub first_noted : Network → Txn → NotedAnswers
first_noted network t =
    if is_some (device_at network t.addr) then none_noted t.kind (t.count * 2 ^ t.size) else unreached_noted t.kind (t.count * 2 ^ t.size)

-- what is noted of transaction i of host k, where there is one
abbrev pub noted_at : List (List NotedAnswers) → ℕ → ℕ → NotedAnswers
noted_at notes k i = slice_index_or (slice_index_or notes k []) i (record { posted = false; code = 0; body = []; room = 0 })

-- all notes, with one answer more to transaction i of host k
abbrev pub notes_with : List (List NotedAnswers) → ℕ → ℕ → ℕ → List ℕ → List (List NotedAnswers)
notes_with notes k i code bytes = set notes k (set (slice_index_or notes k []) i (with_reply (noted_at notes k i) code bytes))

-- what is noted of a transaction, with its bytes among all
abbrev pub noted_in : List ℕ → AnswerNote → NotedAnswers
noted_in bytes note = record {
  posted = note.posted;
  code = note.code;
  body = take (note.end - note.start) (drop note.start bytes);
  room = note.limit - note.end;
}

-- the bytes of an answer lie in its room
pub record IsInRoom (note : AnswerNote) : Type 0 where
  pub starts : note.start ≤ note.end
  pub ends : note.end ≤ note.limit

-- rooms lie one behind another, from one place to another
abbrev pub AreBehind : ℕ → ℕ → List AnswerNote → Type 0
AreBehind from to [] = from ≤ to
AreBehind from to (note ∷ notes) = (from ≤ note.start) × IsInRoom note × AreBehind note.limit to notes

-- All rooms lie among the bytes, of which there are not too many.
pub record AreLaidOut (bytes : List ℕ) (notes : List AnswerNote) : Type 0 where
  pub rooms : AreBehind 0 (length bytes) notes
  pub few : length bytes ≤ 2 ^ 27
