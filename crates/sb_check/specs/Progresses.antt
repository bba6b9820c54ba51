-- How far the scripts of a network are in a journal: for each host and device, the next word that is to come there.
use Rattle.std.specs.Prelude.{ℕ, ◌≡◌, ◌≤◌, ◌+◌, ◌==◌, ◌<◌, ◌-◌, ◌++◌, true, List, length, drop, flat_map, Option, Some, None, IsSomeAnd, option_and_then, slice_get}
use Rattle.std.specs.List.{enumerate_from}
use Rattle.sb_packet.specs.Messages.{Message}
use Rattle.sb_packet.specs.Cuts.{part_of}
use Rattle.sb_packet.specs.Accesses.{Access}
use Rattle.sb_packet.specs.Journals.{flow_part, journal_accesses}
use Rattle.sb_packet.specs.Networks.{NetHost, Network}
use Rattle.sb_packet.specs.Scripts.{script_accesses, transaction_accesses}
use Rattle.sb_flow.specs.Ways.{is_aimed_at}
use Rattle.sb_check.specs.Beginnings.{IsLawfulSoFar}
use Rattle.sb_check.specs.declared.next_word.NextWord.{NextWord}
use Rattle.sb_check.specs.declared.host_progress.HostProgress.{HostProgress}
use Rattle.sb_check.specs.declared.progress.Progress.{Progress}
use Rattle.sb_packet.specs.declared.entry.Entry.{Entry}
use Rattle.sb_packet.specs.declared.transaction.Txn.{Txn}

-- When a packet is a part of a message.

-- a part of a message, from word `from` on, ends it just where it has its last word
pub record IsPartFrom (m : Message) (from : ℕ) (part : Message) : Type 0 where
  pub within : from + part.count ≤ m.count
  pub same : part ≡ part_of m from part.count (from + part.count == m.count)

-- what all parts of a message share with it
pub record SharesFields (m part : Message) : Type 0 where
  pub op : part.op ≡ m.op
  pub atomic : part.atomic ≡ m.atomic
  pub size : part.size ≡ m.size
  pub host : part.host ≡ m.host
  pub qos : part.qos ≡ m.qos
  pub prot : part.prot ≡ m.prot
  pub eof : part.eof ≡ m.eof
  pub ex : part.ex ≡ m.ex
  pub tail : part.tail ≡ m.tail

-- the words of a script from transaction `first` on
abbrev pub script_from : NetHost → ℕ → List Access
script_from host first = flat_map (λ p. transaction_accesses host p.0 p.1) (enumerate_from first (drop first host.script))

-- the words of a host's script from one on that are at a device
abbrev pub words_left : Network → NetHost → ℕ → NextWord → List Access
words_left network host d next = flow_part network host d (drop next.word (script_from host next.transaction))

-- A word is one of a host's script at a device, where it isn't behind all of the script.
pub record IsWordAt (network : Network) (host : NetHost) (d : ℕ) (next : NextWord) : Type 0 where
  pub aimed : (t : Txn) → slice_get host.script next.transaction ≡ Some t → is_aimed_at network d t ≡ true
  pub within : (t : Txn) → slice_get host.script next.transaction ≡ Some t → next.word < t.count

-- It is the next of its host at its device: the words that a journal has there, and those from it on, are all of the script there.
pub record IsNextWord (network : Network) (journal : List Entry) (host : NetHost) (d : ℕ) (next : NextWord) : Type 0 where
  pub place : IsWordAt network host d next
  pub joined : flow_part network host d (journal_accesses journal d) ++ words_left network host d next ≡ flow_part network host d (script_accesses host)

-- a host's next word at device d, and that of the host at place h
abbrev pub row_next : HostProgress → ℕ → Option NextWord
row_next row d = slice_get row.words.items d

abbrev pub next_at : Progress → ℕ → ℕ → Option NextWord
next_at progress h d = option_and_then (λ row. row_next row d) (slice_get progress.hosts.items h)

-- the last entry of a journal
abbrev pub last_entry : List Entry → Option Entry
last_entry journal = slice_get journal (length journal - 1)

-- The scripts are so far in a journal that is lawful so far.
pub record HasReached (network : Network) (progress : Progress) (journal : List Entry) : Type 0 where
  pub lawful : IsLawfulSoFar network journal
  pub words : (h d : ℕ) (host : NetHost) → slice_get network.hosts h ≡ Some host → d < length network.devices
      → IsSomeAnd (next_at progress h d) (IsNextWord network journal host d)
  pub last : progress.last ≡ last_entry journal

-- no word of the host at place h is left at device d
abbrev pub IsDoneAt : Network → Progress → ℕ → ℕ → Type 0
IsDoneAt network progress h d = (host : NetHost) → slice_get network.hosts h ≡ Some host
    → IsSomeAnd (next_at progress h d) (λ next. slice_get host.script next.transaction ≡ None)
