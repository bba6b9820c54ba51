-- A network for tests: one host, a chain of 32 routers with the wire in its middle, and one device.
use Rattle.std.specs.Prelude.{ℕ, ◌+◌, ◌-◌, ◌*◌, ◌/◌, ◌%◌, ◌==◌, nat_lt, List, [], ◌∷◌, map, false, Some, None, if◌then◌else◌}
use Rattle.std.specs.List.{range_with_len}
use Rattle.sb_packet.specs.Networks.{NetDevice, NetHost, NetLink, NetPlace, NetRouter, Network, at_device, at_host, at_router}
use Rattle.sb_packet.specs.declared.transaction.Kind.TheVariants.{Posted, Read}
use Rattle.sb_packet.specs.declared.transaction.Txn.{Txn}

-- a name of three letters, of which the last two count
abbrev pub label : ℕ → ℕ → List ℕ
label letter n = letter ∷ (97 + n / 26) ∷ (97 + n % 26) ∷ []

-- two words are read, and a third one is written, posted
abbrev pub chain_script : List Txn
chain_script = record { kind = Read; size = 3; addr = 4096; count = 2; body = [] } ∷ record { kind = Posted; size = 0; addr = 8191; count = 1; body = 9 ∷ [] } ∷ []

abbrev pub chain_host : NetHost
chain_host = record { name = label 104 0; id = 7; qos = 0; prot = 0; script = chain_script }

-- the first 16 routers stand on side 0
abbrev pub chain_router : ℕ → NetRouter
chain_router r = record { name = label 114 r; side = if nat_lt r 16 then 0 else 1; routes = Some (r + 1) ∷ [] }

abbrev pub chain_device : NetDevice
chain_device = record { name = label 100 0; base = 4096; pages = 1; readonly = false; image = [] }

-- the wire is the narrowest link, and the links before it are the widest
abbrev pub chain_width : ℕ → ℕ
chain_width k = if nat_lt k 16 then 32 else if k == 16 then 8 else 16

-- link k leads to router k, and the last one to the device
abbrev pub chain_start : ℕ → NetPlace
chain_start k = if k == 0 then at_host 0 else at_router (k - 1)

abbrev pub chain_end : ℕ → NetPlace
chain_end k = if k == 32 then at_device 0 else at_router k

abbrev pub chain_link : ℕ → NetLink
chain_link k = record { name = label 108 k; from = chain_start k; to = chain_end k; width = chain_width k; capacity = k + 1 }

-- the whole
abbrev pub chain : Network
chain = record { hosts = chain_host ∷ []; routers = map chain_router (range_with_len 0 32); devices = chain_device ∷ []; links = map chain_link (range_with_len 0 33); wire = Some 16 }

-- A second one: two hosts, of which one asks for nothing, and two routers with two links from the first to the second, one for each device.
abbrev pub twin_script : List Txn
twin_script = record { kind = Read; size = 3; addr = 4096; count = 2; body = [] } ∷ record { kind = Read; size = 3; addr = 8192; count = 1; body = [] } ∷ []

abbrev pub twin_hosts : List NetHost
twin_hosts = record { name = label 104 0; id = 3; qos = 0; prot = 0; script = twin_script } ∷ record { name = label 104 1; id = 9; qos = 0; prot = 0; script = [] } ∷ []

abbrev pub twin_routers : List NetRouter
twin_routers = record { name = label 114 0; side = 0; routes = Some 2 ∷ Some 3 ∷ [] } ∷ record { name = label 114 1; side = 0; routes = Some 4 ∷ Some 5 ∷ [] } ∷ []

-- device k is page k + 1
abbrev pub page_device : ℕ → NetDevice
page_device k = record { name = label 100 k; base = (k + 1) * 4096; pages = 1; readonly = false; image = [] }

abbrev pub plain_link : ℕ → NetPlace → NetPlace → NetLink
plain_link k from to = record { name = label 108 k; from = from; to = to; width = 32; capacity = 4 }

abbrev pub twin_links : List NetLink
twin_links = plain_link 0 (at_host 0) (at_router 0) ∷ plain_link 1 (at_host 1) (at_router 0) ∷ plain_link 2 (at_router 0) (at_router 1) ∷ plain_link 3 (at_router 0) (at_router 1) ∷ plain_link 4 (at_router 1) (at_device 0) ∷ plain_link 5 (at_router 1) (at_device 1) ∷ []

abbrev pub twins : Network
twins = record { hosts = twin_hosts; routers = twin_routers; devices = page_device 0 ∷ page_device 1 ∷ []; links = twin_links; wire = None }
