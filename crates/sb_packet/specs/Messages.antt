-- What a packet says. A packet, a part of one and a whole transaction are all messages: words of one size that lie one after another.
use Rattle.std.specs.Prelude.{ℕ, ◌*◌, ◌^◌, Bool, List, take, Option, None}
use Rattle.sb_word.specs.Atomics.{atomic_numbered}
use Rattle.sb_word.specs.declared.atomic.AtomicOp.{AtomicOp}
use Rattle.sb_word.specs.declared.command.Op.{Op}
use Rattle.sb_word.specs.declared.command.Op.TheVariants.{ReqRd, ReqWr, ReqWrPosted, ReqAtomic, RespRd, RespWr}
use Rattle.sb_packet.specs.Spans.{word_count_of, carried_of}
use Rattle.sb_packet.specs.declared.packet.Packet.{Packet}

-- what a packet, a part or a whole transaction says
pub record Message : Type 0 where
  pub op : Op
  -- which atomic it is; nothing else has one
  pub atomic : Option AtomicOp
  -- a word has 2 ^ size bytes
  pub size : ℕ
  -- the id of the host that asked
  pub host : ℕ
  -- the first word's addresses: where it goes, and where it comes from
  pub dst : ℕ
  pub src : ℕ
  -- the number of words
  pub count : ℕ
  -- the bytes that it carries, all words' one after another
  pub bytes : List ℕ
  -- it ends its transaction
  pub eom : Bool
  -- fields that are carried unchanged, and the code of an answer
  pub qos : ℕ
  pub prot : ℕ
  pub eof : Bool
  pub ex : Bool
  pub tail : ℕ

-- how many bytes a message speaks of
abbrev pub message_span : Message → ℕ
message_span m = m.count * 2 ^ m.size

-- which atomic it is stands in its `len`, by its number
abbrev pub atomic_of : Op → ℕ → Option AtomicOp
atomic_of ReqAtomic len = atomic_numbered len
atomic_of ReqRd len = None
atomic_of ReqWr len = None
atomic_of ReqWrPosted len = None
atomic_of RespRd len = None
atomic_of RespWr len = None

-- what a packet says
abbrev pub message_of : Packet → Message
message_of p = record {
  op = p.cmd.op;
  atomic = atomic_of p.cmd.op p.cmd.len;
  size = p.cmd.size;
  host = p.cmd.host;
  dst = p.dst;
  src = p.src;
  count = word_count_of p.cmd;
  bytes = take (carried_of p.cmd) p.body;
  eom = p.cmd.eom;
  qos = p.cmd.qos;
  prot = p.cmd.prot;
  eof = p.cmd.eof;
  ex = p.cmd.ex;
  tail = p.cmd.tail;
}
