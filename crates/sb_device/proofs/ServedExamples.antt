-- What a device answers, computed.
use Rattle.std.proofs.Common.{◌≡◌, ℕ, List, [], ◌∷◌, false, true, None, refl}
use Rattle.sb_word.specs.declared.command.Op.TheVariants.{ReqRd, ReqWr, ReqWrPosted, RespRd, RespWr}
use Rattle.sb_packet.specs.Accesses.{Access}
use Rattle.sb_packet.specs.Memories.{MemoryState, memory_after, answers_to}
use Rattle.sb_packet.specs.declared.item.Item.TheVariants as items
use Rattle.sb_device.specs.Served.{item_packets}

-- a memory of two bytes
abbrev two_bytes : MemoryState
two_bytes = record { base = 4096; bytes = 7 ∷ 8 ∷ []; readonly = false }

-- a read of its first byte
abbrev first_read : Access
first_read = record {
  op = ReqRd;
  atomic = None;
  size = 0;
  host = 0;
  dst = 4096;
  src = 1;
  bytes = [];
  last = true;
  qos = 0;
  prot = 0;
  eof = false;
  ex = false;
  tail = 0;
}

-- a write of 9 there, and a posted write of 5
abbrev first_write : Access
first_write = record first_read { op = ReqWr; src = 2; bytes = 9 ∷ [] }

abbrev first_posted : Access
first_posted = record first_read { op = ReqWrPosted; src = 3; bytes = 5 ∷ [] }

-- the answers, as the bytes that the byte had come
abbrev byte_answer : List ℕ → Access
byte_answer bytes = record first_read { op = RespRd; dst = 1; src = 4096; bytes = bytes }

abbrev write_answer : Access
write_answer = record first_read { op = RespWr; dst = 2; src = 4096 }

-- each request is answered by the memory that those before it left, and a posted write by nothing
answered_in_order : answers_to two_bytes (first_read ∷ first_write ∷ first_posted ∷ first_read ∷ []) ≡ byte_answer (7 ∷ []) ∷ write_answer ∷ byte_answer (5 ∷ []) ∷ []
answered_in_order = refl

-- in another order the answers are others
answered_in_another : answers_to two_bytes (first_posted ∷ first_write ∷ first_read ∷ []) ≡ write_answer ∷ byte_answer (9 ∷ []) ∷ []
answered_in_another = refl

-- the memory that is left
left_by_all : memory_after two_bytes (first_read ∷ first_write ∷ first_posted ∷ []) ≡ record two_bytes { bytes = 5 ∷ 8 ∷ [] }
left_by_all = refl

-- a Close is no packet
close_is_no_packet : item_packets (items.Close ∷ []) ≡ []
close_is_no_packet = refl
