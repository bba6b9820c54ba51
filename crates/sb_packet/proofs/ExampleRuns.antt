-- Small networks, their packets and their journals, for examples.
use Rattle.std.proofs.Common.{lit≤, replicate, refl, [], ◌∷◌, List, ℕ, false, true, Some, None}
use Rattle.std.specs.Prelude.{codes}
use Rattle.sb_word.specs.declared.atomic.AtomicOp.TheVariants as atomics
use Rattle.sb_packet.specs.Networks.{NetHost, NetDevice, Network, at_host, at_router, at_device}
use Rattle.sb_packet.specs.declared.entry.Entry.{Entry}
use Rattle.sb_packet.specs.declared.packet.Packet.{Packet}
use Rattle.sb_packet.specs.declared.transaction.Txn.{Txn}
use Rattle.sb_packet.specs.declared.transaction.Kind.TheVariants.{Read, Write, Posted, Atomic}
use Rattle.sb_word.specs.declared.command.Cmd.{Cmd}
use Rattle.sb_word.specs.declared.command.Op.TheVariants.{ReqRd, ReqWr, ReqAtomic}

-- a host that has the whole script
abbrev pub one_host : List Txn → NetHost
one_host script = record { name = codes "host"; id = 0; qos = 0; prot = 0; script = script }

-- a network of that host, a router, and a memory of one page
abbrev pub one_page : List Txn → Network
one_page script = record {
  hosts = one_host script ∷ [];
  routers = record { name = codes "hub"; side = 0; routes = Some 1 ∷ [] } ∷ [];
  devices = record { name = codes "mem"; base = 0; pages = 1; readonly = false; image = [] } ∷ [];
  links = record { name = codes "up"; from = at_host 0; to = at_router 0; width = 32; capacity = 1 }
      ∷ record { name = codes "dn"; from = at_router 0; to = at_device 0; width = 32; capacity = 1 } ∷ [];
  wire = None;
}

-- a write of 01 to 08 at 0x10, and a read of the same word
abbrev pub write_and_read : List Txn
write_and_read =
    record { kind = Write; size = 3; addr = 16; count = 1; body = 1 ∷ 2 ∷ 3 ∷ 4 ∷ 5 ∷ 6 ∷ 7 ∷ 8 ∷ [] }
    ∷ record { kind = Read; size = 3; addr = 16; count = 1; body = [] } ∷ []

-- a request of host 0 for one word of eight bytes that ends its transaction
abbrev pub plain_write : Cmd
plain_write = record { op = ReqWr; size = 3; len = 0; qos = 0; prot = 0; eom = true; eof = false; ex = false; tail = 0; host = 0; size_fits = lit≤ tt; qos_fits = lit≤ tt; prot_fits = lit≤ tt; tail_fits = lit≤ tt; host_fits = lit≤ tt; atomic_type_fits = λ h. lit≤ tt }

abbrev pub plain_read : Cmd
plain_read = record { op = ReqRd; size = 3; len = 0; qos = 0; prot = 0; eom = true; eof = false; ex = false; tail = 0; host = 0; size_fits = lit≤ tt; qos_fits = lit≤ tt; prot_fits = lit≤ tt; tail_fits = lit≤ tt; host_fits = lit≤ tt; atomic_type_fits = λ h. lit≤ tt }

-- the packets of these transactions
abbrev pub write_packet : Packet
write_packet = record { cmd = plain_write; dst = 16; src = 0; body = 1 ∷ 2 ∷ 3 ∷ 4 ∷ 5 ∷ 6 ∷ 7 ∷ 8 ∷ replicate 24 0; whole = refl; fits = lit≤ tt; dst_aligned = refl; src_aligned = refl; dst_in_range = lit≤ tt; src_in_range = lit≤ tt; padding = refl }

abbrev pub read_packet : Packet
read_packet = record { cmd = plain_read; dst = 16; src = 2048; body = replicate 32 0; whole = refl; fits = lit≤ tt; dst_aligned = refl; src_aligned = refl; dst_in_range = lit≤ tt; src_in_range = lit≤ tt; padding = refl }

-- a swap of host 1: a word of four bytes at 0x30008
abbrev pub swap : Cmd
swap = record { op = ReqAtomic; size = 2; len = 8; qos = 3; prot = 0; eom = true; eof = false; ex = false; tail = 0; host = 1; size_fits = lit≤ tt; qos_fits = lit≤ tt; prot_fits = lit≤ tt; tail_fits = lit≤ tt; host_fits = lit≤ tt; atomic_type_fits = λ h. lit≤ tt }

abbrev pub swap_packet : Packet
swap_packet = record { cmd = swap; dst = 196616; src = 1099511627776; body = 120 ∷ 86 ∷ 52 ∷ 18 ∷ replicate 28 0; whole = refl; fits = lit≤ tt; dst_aligned = refl; src_aligned = refl; dst_in_range = lit≤ tt; src_in_range = lit≤ tt; padding = refl }

-- a device of one page
abbrev pub page_at : List ℕ → ℕ → NetDevice
page_at name base = record { name = name; base = base; pages = 1; readonly = false; image = [] }

-- two hosts, of which beta asks for a word at no device
abbrev pub alpha : NetHost
alpha = record {
  name = codes "alpha";
  id = 0;
  qos = 0;
  prot = 0;
  script = record { kind = Write; size = 2; addr = 32; count = 1; body = 1 ∷ 0 ∷ 0 ∷ 0 ∷ [] }
      ∷ record { kind = Read; size = 1; addr = 4096; count = 2; body = [] } ∷ [];
}

abbrev pub beta : NetHost
beta = record {
  name = codes "beta";
  id = 1;
  qos = 3;
  prot = 0;
  script = record { kind = Atomic atomics.Add; size = 2; addr = 32; count = 1; body = 255 ∷ 0 ∷ 0 ∷ 0 ∷ [] }
      ∷ record { kind = Write; size = 0; addr = 4096; count = 1; body = 9 ∷ [] }
      ∷ record { kind = Posted; size = 0; addr = 36864; count = 1; body = 9 ∷ [] } ∷ [];
}

-- They stand at a router, with a memory `a` of one page, and a page `b` behind it that refuses to be written.
abbrev pub two_hosts : Network
two_hosts = record {
  hosts = alpha ∷ beta ∷ [];
  routers = record { name = codes "hub"; side = 0; routes = Some 2 ∷ Some 3 ∷ [] } ∷ [];
  devices = page_at (codes "a") 0 ∷ record (page_at (codes "b") 4096) { readonly = true; image = 1 ∷ 2 ∷ 3 ∷ 4 ∷ [] } ∷ [];
  links = record { name = codes "up0"; from = at_host 0; to = at_router 0; width = 32; capacity = 4 }
      ∷ record { name = codes "up1"; from = at_host 1; to = at_router 0; width = 32; capacity = 4 }
      ∷ record { name = codes "dn0"; from = at_router 0; to = at_device 0; width = 32; capacity = 4 }
      ∷ record { name = codes "dn1"; from = at_router 0; to = at_device 1; width = 8; capacity = 4 } ∷ [];
  wire = None;
}

-- the packets of its transactions; that of the posted write at no device has no place
abbrev pub alpha_write : Packet
alpha_write = record { cmd = record plain_write { size = 2; size_fits = lit≤ tt }; dst = 32; src = 0; body = 1 ∷ replicate 31 0; whole = refl; fits = lit≤ tt; dst_aligned = refl; src_aligned = refl; dst_in_range = lit≤ tt; src_in_range = lit≤ tt; padding = refl }

abbrev pub alpha_read : Packet
alpha_read = record { cmd = record plain_read { size = 1; len = 1; size_fits = lit≤ tt; atomic_type_fits = λ h. lit≤ tt }; dst = 4096; src = 2048; body = replicate 32 0; whole = refl; fits = lit≤ tt; dst_aligned = refl; src_aligned = refl; dst_in_range = lit≤ tt; src_in_range = lit≤ tt; padding = refl }

abbrev pub beta_addition : Packet
beta_addition = record { cmd = record swap { len = 0; atomic_type_fits = λ h. lit≤ tt }; dst = 32; src = 1099511627776; body = 255 ∷ replicate 31 0; whole = refl; fits = lit≤ tt; dst_aligned = refl; src_aligned = refl; dst_in_range = lit≤ tt; src_in_range = lit≤ tt; padding = refl }

abbrev pub beta_write : Packet
beta_write = record { cmd = record swap { op = ReqWr; size = 0; len = 0; size_fits = lit≤ tt; atomic_type_fits = λ h. lit≤ tt }; dst = 4096; src = 1099511629824; body = 9 ∷ replicate 31 0; whole = refl; fits = lit≤ tt; dst_aligned = refl; src_aligned = refl; dst_in_range = lit≤ tt; src_in_range = lit≤ tt; padding = refl }

-- In round 1 `a` steps alpha's write and `b` beta's; in round 2 `a` steps beta's addition and `b` alpha's read.
abbrev pub two_rounds : List Entry
two_rounds =
    record { round = 1; device = 0; packet = alpha_write }
    ∷ record { round = 1; device = 1; packet = beta_write }
    ∷ record { round = 2; device = 0; packet = beta_addition }
    ∷ record { round = 2; device = 1; packet = alpha_read } ∷ []
