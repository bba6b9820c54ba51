-- A network for tests: two hosts, a router, and two devices, each at a link of its own.
use Rattle.std.specs.Prelude.{ℕ, List, [], ◌∷◌, Some, None}
use Rattle.sb_packet.specs.Networks.{NetHost, NetLink, NetRouter, Network, at_device, at_host, at_router}
use Rattle.sb_packet.specs.declared.transaction.Kind.TheVariants.{Read}
use Rattle.sb_packet.specs.declared.transaction.Txn.{Txn}
use Rattle.sb_flow.specs.Samples.{label, page_device, plain_link}

-- a read of so many words of 8 bytes
abbrev pub read : ℕ → ℕ → Txn
read addr count = record { kind = Read; size = 3; addr = addr; count = count; body = [] }

-- The first host has id 5, and reads a word at the first device and two at the second. The second host has id 2, and reads a word at the first device.
abbrev pub crossing_hosts : List NetHost
crossing_hosts = record { name = label 104 0; id = 5; qos = 0; prot = 0; script = read 4096 1 ∷ read 8192 2 ∷ [] } ∷ record { name = label 104 1; id = 2; qos = 0; prot = 0; script = read 4096 1 ∷ [] } ∷ []

abbrev pub crossing_router : NetRouter
crossing_router = record { name = label 114 0; side = 0; routes = Some 2 ∷ Some 3 ∷ [] }

-- the link of the first host is 8 bytes wide, and the others 32
abbrev pub crossing_links : List NetLink
crossing_links = record (plain_link 0 (at_host 0) (at_router 0)) { width = 8 } ∷ plain_link 1 (at_host 1) (at_router 0) ∷ plain_link 2 (at_router 0) (at_device 0) ∷ plain_link 3 (at_router 0) (at_device 1) ∷ []

abbrev pub crossing : Network
crossing = record { hosts = crossing_hosts; routers = crossing_router ∷ []; devices = page_device 0 ∷ page_device 1 ∷ []; links = crossing_links; wire = None }
