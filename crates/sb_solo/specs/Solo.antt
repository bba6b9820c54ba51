-- The network of `solo`: one host, one memory, and a router between them.
use Rattle.std.specs.Prelude.{ℕ, ◌≡◌, List, [], ◌∷◌, map, flat_map, All, Some, None, codes, false, if◌then◌else◌}
use Rattle.std.specs.List.{enumerate_from}
use Rattle.sb_packet.specs.Messages.{Message, message_of}
use Rattle.sb_packet.specs.Networks.{Network, NetHost, NetRouter, NetDevice, NetLink, NetPlace, has_address, at_host, at_router, at_device}
use Rattle.sb_packet.specs.Cuts.{transaction_packets}
use Rattle.sb_packet.specs.declared.entry.Entry.{Entry}
use Rattle.sb_packet.specs.declared.transaction.Txn.{Txn}

-- 16 pages from address 0, which begin as zeros
abbrev pub solo_device : NetDevice
solo_device = record { name = codes "mem"; base = 0; pages = 16; readonly = false; image = [] }

-- the one host, which has the whole script
abbrev pub solo_host : List Txn → NetHost
solo_host script = record { name = codes "host"; id = 0; qos = 0; prot = 0; script = script }

-- a router that leads on to the memory by the second link
abbrev pub solo_router : NetRouter
solo_router = record { name = codes "hub"; side = 0; routes = Some 1 ∷ [] }

-- a link with room for one packet a ring
abbrev pub solo_link : List ℕ → NetPlace → NetPlace → NetLink
solo_link name from to = record { name = name; from = from; to = to; width = 32; capacity = 1 }

-- the network of `solo`: the host, a router that leads on to the memory, and the memory
abbrev pub solo_network : List Txn → Network
solo_network script = record {
  hosts = solo_host script ∷ [];
  routers = solo_router ∷ [];
  devices = solo_device ∷ [];
  links = solo_link (codes "up") (at_host 0) (at_router 0) ∷ solo_link (codes "dn") (at_router 0) (at_device 0) ∷ [];
  wire = None;
}

-- the packets of transaction i, where it is aimed at the memory
abbrev pub aimed_packets : List Txn → ℕ → Txn → List Message
aimed_packets script i t = if has_address t.addr solo_device then transaction_packets (solo_host script) i t else []

-- the packets of the transactions that are aimed at the memory, in script order, from transaction i on
abbrev pub solo_packets_from : List Txn → ℕ → List Txn → List Message
solo_packets_from script i txns = flat_map (λ p. aimed_packets script p.0 p.1) (enumerate_from i txns)

-- the packets of a whole script that are aimed at the memory
abbrev pub solo_packets : List Txn → List Message
solo_packets script = solo_packets_from script 0 script

-- what the packets of a journal say, in order
abbrev pub entry_messages : List Entry → List Message
entry_messages journal = map (λ e. message_of e.packet) journal

-- The journal of a script is a function of it: an entry for each of these packets, in round 0.
pub record IsSoloJournal (script : List Txn) (journal : List Entry) : Type 0 where
  pub packets : entry_messages journal ≡ solo_packets script
  pub first_round : All (λ e. e.round ≡ 0) journal
  pub one_device : All (λ e. e.device ≡ 0) journal
