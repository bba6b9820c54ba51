-- The network that the tests run: one host, one router and one device.
use Rattle.std.specs.Prelude.{ℕ, List, [], ◌∷◌, false, Some, None}
use Rattle.std.specs.List.{range_with_len}
use Rattle.sb_word.specs.declared.atomic.AtomicOp.TheVariants.{Add}
use Rattle.sb_packet.specs.Networks.{NetDevice, NetHost, NetLink, NetRouter, Network, at_device, at_host, at_router}
use Rattle.sb_packet.specs.declared.transaction.Kind.TheVariants.{Atomic, Posted, Read, Write}
use Rattle.sb_packet.specs.declared.transaction.Txn.{Txn}

-- forty bytes, each its place and one more
abbrev pub forty_bytes : List ℕ
forty_bytes = range_with_len 1 40

-- Forty bytes are written and read back; the page's last byte is written, posted; one word is changed; an address of no device is read; and what was changed and posted is read.
abbrev pub sample_script : List Txn
sample_script = record { kind = Write; size = 2; addr = 4160; count = 10; body = forty_bytes }
    ∷ record { kind = Read; size = 2; addr = 4160; count = 10; body = [] }
    ∷ record { kind = Posted; size = 0; addr = 8191; count = 1; body = 9 ∷ [] }
    ∷ record { kind = Atomic Add; size = 2; addr = 4160; count = 1; body = 255 ∷ 0 ∷ 0 ∷ 0 ∷ [] }
    ∷ record { kind = Read; size = 3; addr = 12288; count = 2; body = [] }
    ∷ record { kind = Read; size = 2; addr = 4160; count = 1; body = [] }
    ∷ record { kind = Read; size = 0; addr = 8191; count = 1; body = [] }
    ∷ []

abbrev pub sample_host : NetHost
sample_host = record { name = 104 ∷ []; id = 0; qos = 0; prot = 0; script = sample_script }

abbrev pub sample_router : NetRouter
sample_router = record { name = 114 ∷ []; side = 0; routes = Some 1 ∷ [] }

-- one page
abbrev pub sample_device : NetDevice
sample_device = record { name = 100 ∷ []; base = 4096; pages = 1; readonly = false; image = [] }

-- the link between host and router, and that between router and device
abbrev pub near_link : NetLink
near_link = record { name = 110 ∷ []; from = at_host 0; to = at_router 0; width = 32; capacity = 2 }

abbrev pub far_link : NetLink
far_link = record { name = 102 ∷ []; from = at_router 0; to = at_device 0; width = 32; capacity = 1 }

-- the whole
abbrev pub sample : Network
sample = record { hosts = sample_host ∷ []; routers = sample_router ∷ []; devices = sample_device ∷ []; links = near_link ∷ far_link ∷ []; wire = None }
