-- What a host asks for: its script, and whether a device has the address of each transaction.
use Rattle.std.specs.Prelude.{ℕ, List, [], map, flat_map, if◌then◌else◌, is_some, All}
use Rattle.std.specs.List.{enumerate_from}
use Rattle.sb_packet.specs.Accesses.{Access, message_accesses}
use Rattle.sb_packet.specs.Messages.{Message}
use Rattle.sb_packet.specs.Cuts.{cut_parts}
use Rattle.sb_packet.specs.Networks.{NetHost, Network, device_at}
use Rattle.sb_packet.specs.Scripts.{IsTransaction, request_message}
use Rattle.sb_packet.specs.declared.transaction.Txn.{Txn}
use Rattle.sb_host.specs.declared.transaction_plan.TransactionPlan.{TransactionPlan}
use Rattle.sb_flow.specs.Issuable.{IsTransaction-prop}

-- what a host asks for, with the fields that all its packets have
pub record Asked : Type 0 where
  pub id : ℕ
  pub qos : ℕ
  pub prot : ℕ
  -- its transactions, in order
  pub lines : List TransactionPlan

-- a transaction of a network's script
abbrev pub line_in : Network → Txn → TransactionPlan
line_in network t = record { txn = t; aimed = is_some (device_at network t.addr) }

-- What a host of a network asks for.
abbrev pub asked_by : Network → NetHost → Asked
asked_by network host = record { id = host.id; qos = host.qos; prot = host.prot; lines = map (line_in network) host.script }

-- transaction i, as one message
abbrev pub line_message : Asked → ℕ → TransactionPlan → Message
line_message asked i line = request_message asked.id asked.qos asked.prot i line.txn

-- the words of transaction i, in order
abbrev pub line_accesses : Asked → ℕ → TransactionPlan → List Access
line_accesses asked i line = message_accesses (line_message asked i line)

-- the words of transaction i that go to a device: all or none
abbrev pub sent_accesses : Asked → ℕ → TransactionPlan → List Access
sent_accesses asked i line = if line.aimed then line_accesses asked i line else []

-- the words that go to devices, from transaction i on
abbrev pub accesses_from : Asked → ℕ → List TransactionPlan → List Access
accesses_from asked i lines = flat_map (λ p. sent_accesses asked p.0 p.1) (enumerate_from i lines)

-- All words of a host that go to devices, in order.
abbrev pub asked_accesses : Asked → List Access
asked_accesses asked = accesses_from asked 0 asked.lines

-- the packets of transaction i that go to a device: parts of at most 32 bytes
abbrev pub sent_packets : Asked → ℕ → TransactionPlan → List Message
sent_packets asked i line = if line.aimed then cut_parts 32 (line_message asked i line) else []

-- the packets that go to devices, from transaction i on
abbrev pub packets_from : Asked → ℕ → List TransactionPlan → List Message
packets_from asked i lines = flat_map (λ p. sent_packets asked p.0 p.1) (enumerate_from i lines)

-- All packets of a host that go to devices, in order.
abbrev pub asked_packets : Asked → List Message
asked_packets asked = packets_from asked 0 asked.lines

-- That each transaction of a host can be issued is one fact.

-- all transactions of a host can be issued
abbrev pub AreTransactions : List TransactionPlan → Type 0
AreTransactions lines = All (λ l. IsTransaction l.txn) lines

pub AreTransactions-prop : (lines : List TransactionPlan) → IsProp (AreTransactions lines)
AreTransactions-prop lines = hlevel (λ (l : TransactionPlan). IsTransaction-prop l.txn)
