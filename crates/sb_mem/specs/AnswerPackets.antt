-- What may be asked of a memory, and the packet that answers it. After UMI, in this project's profile.
use Rattle.std.specs.Prelude.{ℕ, ◌≡◌, ◌≤◌, ◌+◌, ◌-◌, List, [], ◌++◌, length, replicate, if◌then◌else◌}
use Rattle.sb_word.specs.declared.command.Op.{Op}
use Rattle.sb_word.specs.declared.command.Op.TheVariants.{ReqRd, ReqWr, ReqWrPosted, ReqAtomic, RespRd, RespWr}
use Rattle.sb_packet.specs.Spans.{span_of}
use Rattle.sb_packet.specs.Memories.{MemoryState, loaded, write_code}
use Rattle.sb_packet.specs.declared.packet.Packet.{Packet}
use Rattle.sb_packet.specs.declared.transaction.Code.{Code}
use Rattle.sb_packet.specs.declared.transaction.Code.TheVariants as the_codes

-- all bytes that a packet speaks of lie in the memory's range
pub record IsInRange (m : MemoryState) (p : Packet) : Type 0 where
  pub low : m.base ≤ p.dst
  pub high : p.dst + span_of p.cmd ≤ m.base + length m.bytes

-- a write is answered by RespWr, and every other request by RespRd
abbrev pub answer_op : Op → Op
answer_op ReqWr = RespWr
answer_op ReqRd = RespRd
answer_op ReqWrPosted = RespRd
answer_op ReqAtomic = RespRd
answer_op RespRd = RespRd
answer_op RespWr = RespRd

-- An answer speaks of as many words as its request: `len` stays, but that of an atomic, whose one word is `len` 0.
abbrev pub answer_len : Op → ℕ → ℕ
answer_len ReqAtomic len = 0
answer_len ReqRd len = len
answer_len ReqWr len = len
answer_len ReqWrPosted len = len
answer_len RespRd len = len
answer_len RespWr len = len

-- A packet answers another: it has the opcode of the answer, goes back where the other came from, and keeps all else but code and body.
pub record IsAnswerTo (p a : Packet) : Type 0 where
  pub op : a.cmd.op ≡ answer_op p.cmd.op
  pub len : a.cmd.len ≡ answer_len p.cmd.op p.cmd.len
  pub dst : a.dst ≡ p.src
  pub src : a.src ≡ p.dst
  pub size : a.cmd.size ≡ p.cmd.size
  pub qos : a.cmd.qos ≡ p.cmd.qos
  pub prot : a.cmd.prot ≡ p.cmd.prot
  pub eom : a.cmd.eom ≡ p.cmd.eom
  pub eof : a.cmd.eof ≡ p.cmd.eof
  pub ex : a.cmd.ex ≡ p.cmd.ex
  pub host : a.cmd.host ≡ p.cmd.host

-- the code of an answer: a memory refuses all but reads where it can't be written
abbrev pub answer_packet_code : MemoryState → Op → Code
answer_packet_code m ReqRd = the_codes.Ok
answer_packet_code m ReqWr = write_code m
answer_packet_code m ReqWrPosted = write_code m
answer_packet_code m ReqAtomic = write_code m
answer_packet_code m RespRd = write_code m
answer_packet_code m RespWr = write_code m

-- the bytes that an answer carries, of so many from an address on: those before the step, and zeros where an atomic is refused
abbrev pub answer_packet_bytes : MemoryState → Op → ℕ → ℕ → List ℕ
answer_packet_bytes m ReqRd address count = loaded m address count
answer_packet_bytes m ReqAtomic address count = if m.readonly then replicate count 0 else loaded m address count
answer_packet_bytes m ReqWr address count = []
answer_packet_bytes m ReqWrPosted address count = []
answer_packet_bytes m RespRd address count = []
answer_packet_bytes m RespWr address count = []

-- bytes as the body of a packet, with zeros behind them
abbrev pub padded_body : List ℕ → List ℕ
padded_body bytes = bytes ++ replicate (32 - length bytes) 0

-- the body of the answer to a packet
abbrev pub answer_packet_body : MemoryState → Packet → List ℕ
answer_packet_body m p = padded_body (answer_packet_bytes m p.cmd.op p.dst (span_of p.cmd))
