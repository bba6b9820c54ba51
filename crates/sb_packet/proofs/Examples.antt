-- The definitions of accesses, memories and packets computed on small cases.
use Rattle.std.proofs.Common.{◌≡◌, replicate, refl, [], ◌∷◌, ◌++◌, List, ℕ, false, true, Some, None}
use Rattle.std.specs.Prelude.{codes}
use Rattle.std.specs.List.{range_with_len}
use Rattle.sb_packet.specs.Accesses.{Access}
use Rattle.sb_packet.specs.Memories.{MemoryState, access_answer, access_step, answers_in, combined, memory_after}
use Rattle.sb_packet.specs.Networks.{NetHost}
use Rattle.sb_packet.specs.Scripts.{script_accesses}
use Rattle.sb_packet.specs.Cuts.{transaction_packets}
use Rattle.sb_packet.specs.declared.transaction.Kind.TheVariants.{Read, Write}
use Rattle.sb_word.specs.declared.atomic.AtomicOp.{AtomicOp}
use Rattle.sb_word.specs.declared.atomic.AtomicOp.TheVariants as atomics
use Rattle.sb_word.specs.declared.command.Op.TheVariants.{ReqRd, ReqWr, ReqWrPosted, ReqAtomic, RespRd, RespWr}

-- Host 2 writes two words of two bytes at 16, and then reads one word of eight bytes at 4,096.
abbrev two_asks : NetHost
two_asks = record {
  name = codes "h";
  id = 2;
  qos = 3;
  prot = 1;
  script = record { kind = Write; size = 1; addr = 16; count = 2; body = 1 ∷ 2 ∷ 3 ∷ 4 ∷ [] }
      ∷ record { kind = Read; size = 3; addr = 4096; count = 1; body = [] } ∷ [];
}

-- Its accesses: the second word of the write lies two bytes further, at both addresses, and ends its transaction. The
-- answers to transaction 1 go 2,048 bytes behind those to transaction 0, and all of them to 2 * 2 ^ 40 and above.
pub words_of_a_script : script_accesses two_asks ≡
    record { op = ReqWr; atomic = None; size = 1; host = 2; dst = 16; src = 2199023255552; bytes = 1 ∷ 2 ∷ []; last = false; qos = 3; prot = 1; eof = false; ex = false; tail = 0 }
    ∷ record { op = ReqWr; atomic = None; size = 1; host = 2; dst = 18; src = 2199023255554; bytes = 3 ∷ 4 ∷ []; last = true; qos = 3; prot = 1; eof = false; ex = false; tail = 0 }
    ∷ record { op = ReqRd; atomic = None; size = 3; host = 2; dst = 4096; src = 2199023257600; bytes = []; last = true; qos = 3; prot = 1; eof = false; ex = false; tail = 0 } ∷ []
words_of_a_script = refl

-- six bytes of zeros from 100 on
abbrev six_zeros : MemoryState
six_zeros = record { base = 100; bytes = replicate 6 0; readonly = false }

-- a write of the bytes 07 and 08 at 102, to be answered at 40
abbrev the_write : Access
the_write = record { op = ReqWr; atomic = None; size = 1; host = 0; dst = 102; src = 40; bytes = 7 ∷ 8 ∷ []; last = true; qos = 0; prot = 0; eof = false; ex = false; tail = 0 }

-- a read of the same word
abbrev the_read : Access
the_read = record the_write { op = ReqRd; src = 42; bytes = [] }

-- The write is answered with code 0 and no bytes, and the read with what was written.
pub written_and_read : answers_in six_zeros (the_write ∷ the_read ∷ []) ≡
    Some (record the_write { op = RespWr; dst = 40; src = 102; bytes = [] })
    ∷ Some (record the_write { op = RespRd; dst = 42; src = 102 }) ∷ []
written_and_read = refl

-- The bytes stand where they were written, and the read changes nothing.
pub left_by_a_write : memory_after six_zeros (the_write ∷ the_read ∷ []) ≡ record six_zeros { bytes = 0 ∷ 0 ∷ 7 ∷ 8 ∷ 0 ∷ 0 ∷ [] }
left_by_a_write = refl

-- At one byte 01 and ff add up to 00, since the sum wraps.
pub sum_wraps : combined atomics.Add 256 1 255 ≡ 0
sum_wraps = refl

-- 80 is negative in two's complement, so the greater of 7f and 80 is 7f there, and the lesser 80.
pub signed_maximum : combined atomics.Max 256 127 128 ≡ 127
signed_maximum = refl

pub signed_minimum : combined atomics.Min 256 127 128 ≡ 128
signed_minimum = refl

-- Without sign 80 is the greater.
pub unsigned_maximum : combined atomics.MaxU 256 127 128 ≡ 128
unsigned_maximum = refl

pub unsigned_minimum : combined atomics.MinU 256 127 128 ≡ 127
unsigned_minimum = refl

-- AND, OR and XOR of 0c and 0a, and SWAP
pub bit_by_bit : combined atomics.And 256 12 10 ∷ combined atomics.Or 256 12 10 ∷ combined atomics.Xor 256 12 10 ∷ combined atomics.Swap 256 12 10 ∷ [] ≡ 8 ∷ 14 ∷ 6 ∷ 10 ∷ []
bit_by_bit = refl

-- a memory of one byte, and an atomic with an operand at it
abbrev one_byte : ℕ → MemoryState
one_byte b = record { base = 0; bytes = b ∷ []; readonly = false }

abbrev atomic_by : AtomicOp → ℕ → Access
atomic_by atomic b = record { op = ReqAtomic; atomic = Some atomic; size = 0; host = 0; dst = 0; src = 64; bytes = b ∷ []; last = true; qos = 0; prot = 0; eof = false; ex = false; tail = 0 }

-- the answer to an atomic with that operand: the byte before it
abbrev old_byte : ℕ → ℕ → Access
old_byte old b = record (atomic_by atomics.Add b) { op = RespRd; atomic = None; dst = 64; src = 0; bytes = old ∷ [] }

-- ADD of ff to 01 answers 01, and leaves 00.
pub added : answers_in (one_byte 1) (atomic_by atomics.Add 255 ∷ []) ≡ Some (old_byte 1 255) ∷ []
added = refl

pub left_by_an_addition : access_step (one_byte 1) (atomic_by atomics.Add 255) ≡ one_byte 0
left_by_an_addition = refl

-- MAX of 80 and 7f leaves 7f, and MAXU leaves 80; both answer 7f.
pub left_by_maximums : (access_step (one_byte 127) (atomic_by atomics.Max 128)).bytes ++ (access_step (one_byte 127) (atomic_by atomics.MaxU 128)).bytes ≡ 127 ∷ 128 ∷ []
left_by_maximums = refl

pub answered_by_maximums : access_answer (one_byte 127) (atomic_by atomics.Max 128) ∷ access_answer (one_byte 127) (atomic_by atomics.MaxU 128) ∷ [] ≡ Some (old_byte 127 128) ∷ Some (old_byte 127 128) ∷ []
answered_by_maximums = refl

-- a memory of six bytes that refuses to be written
abbrev refusing : MemoryState
refusing = record { base = 100; bytes = 1 ∷ 2 ∷ 3 ∷ 4 ∷ 5 ∷ 6 ∷ []; readonly = true }

-- A write is refused with code 2, a posted one with nothing, and an atomic with code 2 and zeros; a read is answered.
pub refused : answers_in refusing (the_write ∷ record the_write { op = ReqWrPosted } ∷ record the_write { op = ReqAtomic; atomic = Some atomics.Swap } ∷ the_read ∷ []) ≡
    Some (record the_write { op = RespWr; dst = 40; src = 102; bytes = []; tail = 2 })
    ∷ None
    ∷ Some (record the_write { op = RespRd; dst = 40; src = 102; bytes = 0 ∷ 0 ∷ []; tail = 2 })
    ∷ Some (record the_write { op = RespRd; dst = 42; src = 102; bytes = 3 ∷ 4 ∷ [] }) ∷ []
refused = refl

-- None of them changes it.
pub unchanged : memory_after refusing (the_write ∷ record the_write { op = ReqWrPosted } ∷ record the_write { op = ReqAtomic; atomic = Some atomics.Swap } ∷ the_read ∷ []) ≡ refusing
unchanged = refl

-- the words of `count` from 1 on, of one byte each
abbrev counted : ℕ → ℕ → List ℕ
counted a n = range_with_len a n

-- Transaction 3 of host 1: a write of five words of eight bytes at 512. At most 32 bytes go into a packet, so the first
-- one has four words and doesn't end the transaction, and the second lies 32 bytes further at both addresses, and does.
pub cut_in_two : transaction_packets (record two_asks { id = 1 }) 3 (record { kind = Write; size = 3; addr = 512; count = 5; body = counted 1 40 }) ≡
    record { op = ReqWr; atomic = None; size = 3; host = 1; dst = 512; src = 1099511633920; count = 4; bytes = counted 1 32; eom = false; qos = 3; prot = 1; eof = false; ex = false; tail = 0 }
    ∷ record { op = ReqWr; atomic = None; size = 3; host = 1; dst = 544; src = 1099511633952; count = 1; bytes = counted 33 8; eom = true; qos = 3; prot = 1; eof = false; ex = false; tail = 0 } ∷ []
cut_in_two = refl
