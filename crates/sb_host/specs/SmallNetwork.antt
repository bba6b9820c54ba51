-- A network for tests: two hosts at one router, and a device. The second host asks only for what no device has.
use Rattle.std.specs.Prelude.{List, [], ◌∷◌, Some, None}
use Rattle.sb_packet.specs.Networks.{NetHost, NetLink, NetRouter, Network, at_device, at_host, at_router}
use Rattle.sb_packet.specs.declared.transaction.Kind.TheVariants.{Posted, Read, Write}
use Rattle.sb_packet.specs.declared.transaction.Txn.{Txn}
use Rattle.sb_flow.specs.Samples.{label, page_device, plain_link}

-- five words are read, two words that no device has, and a byte is written, posted
abbrev pub near_script : List Txn
near_script = record { kind = Read; size = 3; addr = 4096; count = 5; body = [] } ∷ record { kind = Read; size = 3; addr = 0; count = 2; body = [] } ∷ record { kind = Posted; size = 0; addr = 8191; count = 1; body = 9 ∷ [] } ∷ []

-- two words, and a byte twice, that no device has
abbrev pub lost_script : List Txn
lost_script = record { kind = Read; size = 3; addr = 0; count = 2; body = [] } ∷ record { kind = Write; size = 0; addr = 16; count = 1; body = 9 ∷ [] } ∷ record { kind = Posted; size = 0; addr = 8192; count = 1; body = 9 ∷ [] } ∷ []

abbrev pub small_hosts : List NetHost
small_hosts = record { name = label 104 0; id = 3; qos = 5; prot = 2; script = near_script } ∷ record { name = label 104 1; id = 9; qos = 0; prot = 0; script = lost_script } ∷ []

abbrev pub small_routers : List NetRouter
small_routers = record { name = label 114 0; side = 0; routes = Some 2 ∷ [] } ∷ []

abbrev pub small_links : List NetLink
small_links = plain_link 0 (at_host 0) (at_router 0) ∷ plain_link 1 (at_host 1) (at_router 0) ∷ plain_link 2 (at_router 0) (at_device 0) ∷ []

-- the whole
abbrev pub small : Network
small = record { hosts = small_hosts; routers = small_routers; devices = page_device 0 ∷ []; links = small_links; wire = None }
