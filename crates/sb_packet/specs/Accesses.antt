-- Accesses: what a memory is stepped by is not a packet but one word of it.
use Rattle.std.specs.Prelude.{ℕ, ◌+◌, ◌*◌, ◌^◌, Bool, ◌&&◌, ◌==◌, List, [], map, take, drop, Option}
use Rattle.std.specs.List.{range_with_len}
use Rattle.sb_word.specs.declared.atomic.AtomicOp.{AtomicOp}
use Rattle.sb_word.specs.declared.command.Op.{Op}
use Rattle.sb_packet.specs.Messages.{Message, message_of}
use Rattle.sb_packet.specs.declared.packet.Packet.{Packet}
use Rattle.sb_packet.specs.declared.item.Item.{Item}
use Rattle.sb_packet.specs.declared.item.Item.TheVariants as items

-- an access to one word, or the answer to one
pub record Access : Type 0 where
  pub op : Op
  -- which atomic it is; nothing else has one
  pub atomic : Option AtomicOp
  pub size : ℕ
  pub host : ℕ
  pub dst : ℕ
  pub src : ℕ
  -- the word's bytes, where it carries any
  pub bytes : List ℕ
  -- the last word of its transaction
  pub last : Bool
  pub qos : ℕ
  pub prot : ℕ
  pub eof : Bool
  pub ex : Bool
  pub tail : ℕ

-- word j of bytes that are words of that size
abbrev pub share : ℕ → ℕ → List ℕ → List ℕ
share size j bytes = take (2 ^ size) (drop (j * 2 ^ size) bytes)

-- word j of a message: both addresses are raised by the words before it
abbrev pub access_at : Message → ℕ → Access
access_at m j = record {
  op = m.op;
  atomic = m.atomic;
  size = m.size;
  host = m.host;
  dst = m.dst + j * 2 ^ m.size;
  src = m.src + j * 2 ^ m.size;
  bytes = share m.size j m.bytes;
  last = m.eom && (j + 1 == m.count);
  qos = m.qos;
  prot = m.prot;
  eof = m.eof;
  ex = m.ex;
  tail = m.tail;
}

-- all words of a message, in order
abbrev pub message_accesses : Message → List Access
message_accesses m = map (access_at m) (range_with_len 0 m.count)

-- all words of a packet, in order
abbrev pub accesses_of : Packet → List Access
accesses_of p = message_accesses (message_of p)

-- all words of what goes over a ring; a Close has none
abbrev pub accesses_of_item : Item → List Access
accesses_of_item (items.Packet p) = accesses_of p
accesses_of_item items.Close = []
