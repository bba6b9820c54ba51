-- What remains of a network that was settled, and when it tells what a journal says.
use Rattle.std.specs.Prelude.{◌≡◌, ℕ, ◌<◌, false, List, [], length, Some, slice_get, slice_index_or}
use Rattle.sb_packet.specs.Accesses.{Access}
use Rattle.sb_packet.specs.Answers.{Outcome, final_memory, host_outcomes}
use Rattle.sb_packet.specs.Memories.{MemoryState}
use Rattle.sb_packet.specs.Networks.{NetHost, Network}
use Rattle.sb_packet.specs.declared.entry.Entry.{Entry}
use Rattle.sb_host.specs.Asked.{asked_by}
use Rattle.sb_host.specs.Outcomes.{outcomes_so_far}
use Rattle.sb_host.specs.Progress.{TransactionsSide}
use Rattle.sb_host.specs.Rows.{IsTable}

-- the transactions of each host, and the memory of each device
pub record SettledSide : Type 0 where
  pub hosts : List TransactionsSide
  pub memories : List MemoryState

-- the transactions of the host at a place
abbrev pub transactions_at : SettledSide → ℕ → TransactionsSide
transactions_at settled host = slice_index_or settled.hosts host (record { asked = record { id = 0; qos = 0; prot = 0; lines = [] }; rows = []; next = 0; part = 0; ended = false })

-- the memory of the device at a place
abbrev pub memory_at : SettledSide → ℕ → MemoryState
memory_at settled device = slice_index_or settled.memories device (record { base = 0; bytes = []; readonly = false })

-- A host's transactions tell what a journal says of its script: these were asked for, and by the words that were received their outcomes are the journal's.
pub record TellsHost (network : Network) (journal : List Entry) (host : NetHost) (t : TransactionsSide) : Type 0 where
  pub asked : t.asked ≡ asked_by network host
  pub received : List Access
  pub table : IsTable t.asked received t.rows
  pub outcomes : outcomes_so_far t.asked received t.next ≡ host_outcomes network journal host

-- What remains tells what a journal says: of each host the outcomes of its transactions, and of each device the memory that the journal leaves.
pub record TellsRun (network : Network) (journal : List Entry) (settled : SettledSide) : Type 0 where
  pub hosts_count : length settled.hosts ≡ length network.hosts
  pub devices_count : length settled.memories ≡ length network.devices
  pub outcomes : (n : ℕ) (host : NetHost) → slice_get network.hosts n ≡ Some host → TellsHost network journal host (transactions_at settled n)
  pub memories : (d : ℕ) → d < length network.devices → memory_at settled d ≡ final_memory network journal d

-- the outcome of the transaction at that place of a host's script, by a journal
abbrev pub outcome_at : Network → List Entry → NetHost → ℕ → Outcome → Outcome
outcome_at network journal host index none = slice_index_or (host_outcomes network journal host) index none
