-- The run of a network of two hosts, three routers, four devices and a wire, which is lawful.
use Rattle.std.proofs.Common.{◌≡◌, lit≤, replicate, refl, arith, [], ◌∷◌, List, ℕ, zero, suc, true, Some, None}
use Rattle.std.specs.Prelude.{All, IsTrue, codes}
use Rattle.std.specs.List.{range_with_len, AllByRecursion}
use Rattle.std.proofs.lemmas.List.Elements.{All-from_recursion}
use Rattle.sb_word.specs.declared.atomic.AtomicOp.TheVariants as atomics
use Rattle.sb_packet.specs.Accesses.{accesses_of}
use Rattle.sb_packet.specs.Networks.{NetHost, NetRouter, NetDevice, NetLink, Network, at_host, at_router, at_device}
use Rattle.sb_packet.specs.Scripts.{script_accesses}
use Rattle.sb_packet.specs.Journals.{journal_accesses, flow_part, is_at, IsPlaced, IsLawful}
use Rattle.sb_packet.specs.declared.entry.Entry.{Entry}
use Rattle.sb_packet.specs.declared.packet.Packet.{Packet}
use Rattle.sb_packet.specs.declared.transaction.Kind.TheVariants.{Read, Write, Posted, Atomic}
use Rattle.sb_word.specs.declared.command.Op.TheVariants.{ReqRd, ReqWr, ReqWrPosted, ReqAtomic}
use Rattle.sb_packet.proofs.FoundAnswers.{eq_below}
use Rattle.sb_packet.proofs.ExampleRuns.{page_at, plain_read, plain_write, swap, swap_packet}

-- the numbers 0 to 31
abbrev pub rising_bytes : List ℕ
rising_bytes = range_with_len 0 32

-- The first host writes 32 bytes to `m0` and reads them, posts a write of 4 bytes to `m1` and reads them, and adds 1 to a word of `m2`.
abbrev pub cpu0 : NetHost
cpu0 = record {
  name = codes "cpu0";
  id = 0;
  qos = 0;
  prot = 0;
  script = record { kind = Write; size = 3; addr = 65536; count = 4; body = rising_bytes }
      ∷ record { kind = Read; size = 3; addr = 65536; count = 4; body = [] }
      ∷ record { kind = Posted; size = 2; addr = 131088; count = 1; body = 170 ∷ 187 ∷ 204 ∷ 221 ∷ [] }
      ∷ record { kind = Read; size = 2; addr = 131088; count = 1; body = [] }
      ∷ record { kind = Atomic atomics.Add; size = 3; addr = 196608; count = 1; body = 1 ∷ replicate 7 0 } ∷ [];
}

-- The second swaps a word of `m2`, writes to `rom`, which refuses, reads that, reads where no device is, and raises its word of `m2`.
abbrev pub cpu1 : NetHost
cpu1 = record {
  name = codes "cpu1";
  id = 1;
  qos = 3;
  prot = 0;
  script = record { kind = Atomic atomics.Swap; size = 2; addr = 196616; count = 1; body = 120 ∷ 86 ∷ 52 ∷ 18 ∷ [] }
      ∷ record { kind = Write; size = 0; addr = 262144; count = 1; body = 255 ∷ [] }
      ∷ record { kind = Read; size = 0; addr = 262144; count = 4; body = [] }
      ∷ record { kind = Read; size = 1; addr = 327680; count = 2; body = [] }
      ∷ record { kind = Atomic atomics.MaxU; size = 2; addr = 196616; count = 1; body = 0 ∷ 0 ∷ 0 ∷ 128 ∷ [] } ∷ [];
}

-- `r0` leads to `r1`, which has `m0` and `m1`, and over the wire to `r2`, which has `m2` and `rom`
abbrev pub three_routers : List NetRouter
three_routers =
    record { name = codes "r0"; side = 0; routes = Some 2 ∷ Some 2 ∷ Some 3 ∷ Some 3 ∷ [] }
    ∷ record { name = codes "r1"; side = 0; routes = Some 4 ∷ Some 5 ∷ None ∷ None ∷ [] }
    ∷ record { name = codes "r2"; side = 1; routes = None ∷ None ∷ Some 6 ∷ Some 7 ∷ [] } ∷ []

abbrev pub four_devices : List NetDevice
four_devices =
    page_at (codes "m0") 65536 ∷ page_at (codes "m1") 131072 ∷ page_at (codes "m2") 196608
    ∷ record (page_at (codes "rom") 262144) { readonly = true; image = 222 ∷ 173 ∷ 190 ∷ 239 ∷ [] } ∷ []

abbrev pub eight_links : List NetLink
eight_links =
    record { name = codes "l0"; from = at_host 0; to = at_router 0; width = 32; capacity = 8 }
    ∷ record { name = codes "l1"; from = at_host 1; to = at_router 0; width = 16; capacity = 4 }
    ∷ record { name = codes "l2"; from = at_router 0; to = at_router 1; width = 16; capacity = 4 }
    ∷ record { name = codes "l3"; from = at_router 0; to = at_router 2; width = 8; capacity = 2 }
    ∷ record { name = codes "l4"; from = at_router 1; to = at_device 0; width = 32; capacity = 8 }
    ∷ record { name = codes "l5"; from = at_router 1; to = at_device 1; width = 8; capacity = 2 }
    ∷ record { name = codes "l6"; from = at_router 2; to = at_device 2; width = 16; capacity = 1 }
    ∷ record { name = codes "l7"; from = at_router 2; to = at_device 3; width = 8; capacity = 1 } ∷ []

abbrev pub wired : Network
wired = record { hosts = cpu0 ∷ cpu1 ∷ []; routers = three_routers; devices = four_devices; links = eight_links; wire = Some 3 }

-- the packets of the first host, one a transaction
abbrev pub cpu0_write : Packet
cpu0_write = record { cmd = record plain_write { len = 3; atomic_type_fits = λ h. lit≤ tt }; dst = 65536; src = 0; body = rising_bytes; whole = refl; fits = lit≤ tt; dst_aligned = refl; src_aligned = refl; dst_in_range = lit≤ tt; src_in_range = lit≤ tt; padding = refl }

abbrev pub cpu0_read : Packet
cpu0_read = record { cmd = record plain_read { len = 3; atomic_type_fits = λ h. lit≤ tt }; dst = 65536; src = 2048; body = replicate 32 0; whole = refl; fits = lit≤ tt; dst_aligned = refl; src_aligned = refl; dst_in_range = lit≤ tt; src_in_range = lit≤ tt; padding = refl }

abbrev pub cpu0_posted : Packet
cpu0_posted = record { cmd = record plain_write { op = ReqWrPosted; size = 2; size_fits = lit≤ tt; atomic_type_fits = λ h. lit≤ tt }; dst = 131088; src = 4096; body = 170 ∷ 187 ∷ 204 ∷ 221 ∷ replicate 28 0; whole = refl; fits = lit≤ tt; dst_aligned = refl; src_aligned = refl; dst_in_range = lit≤ tt; src_in_range = lit≤ tt; padding = refl }

abbrev pub cpu0_read_back : Packet
cpu0_read_back = record { cmd = record plain_read { size = 2; size_fits = lit≤ tt; atomic_type_fits = λ h. lit≤ tt }; dst = 131088; src = 6144; body = replicate 32 0; whole = refl; fits = lit≤ tt; dst_aligned = refl; src_aligned = refl; dst_in_range = lit≤ tt; src_in_range = lit≤ tt; padding = refl }

abbrev pub cpu0_addition : Packet
cpu0_addition = record { cmd = record plain_write { op = ReqAtomic; atomic_type_fits = λ h. lit≤ tt }; dst = 196608; src = 8192; body = 1 ∷ replicate 31 0; whole = refl; fits = lit≤ tt; dst_aligned = refl; src_aligned = refl; dst_in_range = lit≤ tt; src_in_range = lit≤ tt; padding = refl }

-- those of the second, of which the first is the swap; the read at no device goes nowhere
abbrev pub cpu1_write : Packet
cpu1_write = record { cmd = record swap { op = ReqWr; size = 0; len = 0; size_fits = lit≤ tt; atomic_type_fits = λ h. lit≤ tt }; dst = 262144; src = 1099511629824; body = 255 ∷ replicate 31 0; whole = refl; fits = lit≤ tt; dst_aligned = refl; src_aligned = refl; dst_in_range = lit≤ tt; src_in_range = lit≤ tt; padding = refl }

abbrev pub cpu1_read : Packet
cpu1_read = record { cmd = record swap { op = ReqRd; size = 0; len = 3; size_fits = lit≤ tt; atomic_type_fits = λ h. lit≤ tt }; dst = 262144; src = 1099511631872; body = replicate 32 0; whole = refl; fits = lit≤ tt; dst_aligned = refl; src_aligned = refl; dst_in_range = lit≤ tt; src_in_range = lit≤ tt; padding = refl }

abbrev pub cpu1_maximum : Packet
cpu1_maximum = record { cmd = record swap { len = 6; atomic_type_fits = λ h. lit≤ tt }; dst = 196616; src = 1099511635968; body = 0 ∷ 0 ∷ 0 ∷ 128 ∷ replicate 28 0; whole = refl; fits = lit≤ tt; dst_aligned = refl; src_aligned = refl; dst_in_range = lit≤ tt; src_in_range = lit≤ tt; padding = refl }

-- Each device steps the packets that aim at it; `m2` has the swap, then the addition, and then the maximum.
abbrev pub wired_run : List Entry
wired_run =
    record { round = 0; device = 0; packet = cpu0_write }
    ∷ record { round = 0; device = 2; packet = swap_packet }
    ∷ record { round = 1; device = 0; packet = cpu0_read }
    ∷ record { round = 1; device = 1; packet = cpu0_posted }
    ∷ record { round = 1; device = 2; packet = cpu0_addition }
    ∷ record { round = 1; device = 3; packet = cpu1_write }
    ∷ record { round = 2; device = 1; packet = cpu0_read_back }
    ∷ record { round = 2; device = 2; packet = cpu1_maximum }
    ∷ record { round = 2; device = 3; packet = cpu1_read } ∷ []

-- the words of a host at each device are those of its script there
abbrev IsKept : NetHost → Type 0
IsKept host = (d : ℕ) → flow_part wired host d (journal_accesses wired_run d) ≡ flow_part wired host d (script_accesses host)

cpu0_is_kept : IsKept cpu0
cpu0_is_kept zero = refl
cpu0_is_kept (suc zero) = refl
cpu0_is_kept (suc (suc zero)) = refl
cpu0_is_kept (suc (suc (suc zero))) = refl
cpu0_is_kept (suc (suc (suc (suc d)))) = rw (eq_below 0 (suc (suc (suc (suc d)))) (omega arith), eq_below 1 (suc (suc (suc (suc d)))) (omega arith), eq_below 2 (suc (suc (suc (suc d)))) (omega arith), eq_below 3 (suc (suc (suc (suc d)))) (omega arith)) refl

cpu1_is_kept : IsKept cpu1
cpu1_is_kept zero = refl
cpu1_is_kept (suc zero) = refl
cpu1_is_kept (suc (suc zero)) = refl
cpu1_is_kept (suc (suc (suc zero))) = refl
cpu1_is_kept (suc (suc (suc (suc d)))) = rw (eq_below 0 (suc (suc (suc (suc d)))) (omega arith), eq_below 1 (suc (suc (suc (suc d)))) (omega arith), eq_below 2 (suc (suc (suc (suc d)))) (omega arith), eq_below 3 (suc (suc (suc (suc d)))) (omega arith)) refl

-- an entry's words are at its device
aimed_from_each : (d : ℕ) (p : Packet) → AllByRecursion (λ a. IsTrue (is_at wired d a)) (accesses_of p) → All (λ a. IsTrue (is_at wired d a)) (accesses_of p)
aimed_from_each d p each = All-from_recursion (λ a. IsTrue (is_at wired d a)) (accesses_of p) each

cpu0_write_is_placed : IsPlaced wired (record { round = 0; device = 0; packet = cpu0_write })
cpu0_write_is_placed = record { host = (0, omega arith, refl); device = omega arith; aimed = aimed_from_each 0 cpu0_write (refl, (refl, (refl, (refl, tt)))); narrow = omega arith }

swap_packet_is_placed : IsPlaced wired (record { round = 0; device = 2; packet = swap_packet })
swap_packet_is_placed = record { host = (1, omega arith, refl); device = omega arith; aimed = aimed_from_each 2 swap_packet (refl, tt); narrow = omega arith }

cpu0_read_is_placed : IsPlaced wired (record { round = 1; device = 0; packet = cpu0_read })
cpu0_read_is_placed = record { host = (0, omega arith, refl); device = omega arith; aimed = aimed_from_each 0 cpu0_read (refl, (refl, (refl, (refl, tt)))); narrow = omega arith }

cpu0_posted_is_placed : IsPlaced wired (record { round = 1; device = 1; packet = cpu0_posted })
cpu0_posted_is_placed = record { host = (0, omega arith, refl); device = omega arith; aimed = aimed_from_each 1 cpu0_posted (refl, tt); narrow = omega arith }

cpu0_addition_is_placed : IsPlaced wired (record { round = 1; device = 2; packet = cpu0_addition })
cpu0_addition_is_placed = record { host = (0, omega arith, refl); device = omega arith; aimed = aimed_from_each 2 cpu0_addition (refl, tt); narrow = omega arith }

cpu1_write_is_placed : IsPlaced wired (record { round = 1; device = 3; packet = cpu1_write })
cpu1_write_is_placed = record { host = (1, omega arith, refl); device = omega arith; aimed = aimed_from_each 3 cpu1_write (refl, tt); narrow = omega arith }

cpu0_read_back_is_placed : IsPlaced wired (record { round = 2; device = 1; packet = cpu0_read_back })
cpu0_read_back_is_placed = record { host = (0, omega arith, refl); device = omega arith; aimed = aimed_from_each 1 cpu0_read_back (refl, tt); narrow = omega arith }

cpu1_maximum_is_placed : IsPlaced wired (record { round = 2; device = 2; packet = cpu1_maximum })
cpu1_maximum_is_placed = record { host = (1, omega arith, refl); device = omega arith; aimed = aimed_from_each 2 cpu1_maximum (refl, tt); narrow = omega arith }

cpu1_read_is_placed : IsPlaced wired (record { round = 2; device = 3; packet = cpu1_read })
cpu1_read_is_placed = record { host = (1, omega arith, refl); device = omega arith; aimed = aimed_from_each 3 cpu1_read (refl, (refl, (refl, (refl, tt)))); narrow = omega arith }

-- That run is a lawful history of the network.
pub wired_run_is_lawful : IsLawful wired wired_run
wired_run_is_lawful = record {
  in_script_order = All-from_recursion IsKept (cpu0 ∷ cpu1 ∷ []) (cpu0_is_kept, (cpu1_is_kept, tt));
  at_target = All-from_recursion (IsPlaced wired) wired_run (cpu0_write_is_placed, (swap_packet_is_placed, (cpu0_read_is_placed, (cpu0_posted_is_placed, (cpu0_addition_is_placed, (cpu1_write_is_placed, (cpu0_read_back_is_placed, (cpu1_maximum_is_placed, (cpu1_read_is_placed, tt)))))))));
  in_round_order = refl;
}
