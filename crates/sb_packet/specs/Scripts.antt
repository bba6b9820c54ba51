-- What a host's script asks for, word by word.
use Rattle.std.specs.Prelude.{ℕ, ◌≡◌, ◌≤◌, ◌<◌, ◌%◌, ◌+◌, ◌*◌, ◌^◌, true, false, List, [], length, flat_map, Option, Some, None}
use Rattle.std.specs.List.{enumerate_from}
use Rattle.sb_packet.specs.Messages.{Message}
use Rattle.sb_packet.specs.Accesses.{Access, message_accesses}
use Rattle.sb_packet.specs.Networks.{NetHost}
use Rattle.sb_word.specs.declared.atomic.AtomicOp.{AtomicOp}
use Rattle.sb_word.specs.declared.command.Op.{Op}
use Rattle.sb_word.specs.declared.command.Op.TheVariants.{ReqRd, ReqWr, ReqWrPosted, ReqAtomic}
use Rattle.sb_packet.specs.declared.transaction.Kind.{Kind}
use Rattle.sb_packet.specs.declared.transaction.Kind.TheVariants.{Read, Write, Posted, Atomic}
use Rattle.sb_packet.specs.declared.transaction.Txn.{Txn}

-- the opcode that asks for a kind of transaction
abbrev pub request_of : Kind → Op
request_of Read = ReqRd
request_of Write = ReqWr
request_of Posted = ReqWrPosted
request_of (Atomic atomic) = ReqAtomic

-- which atomic it is; nothing else has one
abbrev pub atomic_of_kind : Kind → Option AtomicOp
atomic_of_kind Read = None
atomic_of_kind Write = None
atomic_of_kind Posted = None
atomic_of_kind (Atomic atomic) = Some atomic

-- where the answers to transaction i of the host with that id go: each has 2,048 bytes of its own, the most that one speaks of
abbrev pub reply_address : ℕ → ℕ → ℕ
reply_address id i = id * 2 ^ 40 + i * 2 ^ 11

-- transaction i of the host with that id, qos and prot, as one message
abbrev pub request_message : ℕ → ℕ → ℕ → ℕ → Txn → Message
request_message id qos prot i t = record {
  op = request_of t.kind;
  atomic = atomic_of_kind t.kind;
  size = t.size;
  host = id;
  dst = t.addr;
  src = reply_address id i;
  count = t.count;
  bytes = t.body;
  eom = true;
  qos = qos;
  prot = prot;
  eof = false;
  ex = false;
  tail = 0;
}

-- transaction i of a host, as one message
abbrev pub transaction_message : NetHost → ℕ → Txn → Message
transaction_message host i t = request_message host.id host.qos host.prot i t

-- the words of transaction i of a host, in order
abbrev pub transaction_accesses : NetHost → ℕ → Txn → List Access
transaction_accesses host i t = message_accesses (transaction_message host i t)

-- All words of a host's script, in order.
abbrev pub script_accesses : NetHost → List Access
script_accesses host = flat_map (λ p. transaction_accesses host p.0 p.1) (enumerate_from 0 host.script)

-- a read brings no bytes, and all else brings as many as it speaks of
abbrev pub HasBody : Kind → ℕ → List ℕ → Type 0
HasBody Read span body = body ≡ []
HasBody Write span body = length body ≡ span
HasBody Posted span body = length body ≡ span
HasBody (Atomic atomic) span body = length body ≡ span

-- an atomic is one word
abbrev pub IsOneWordIfAtomic : Kind → ℕ → Type 0
IsOneWordIfAtomic (Atomic atomic) count = count ≡ 1
IsOneWordIfAtomic Read count = Unit {0}
IsOneWordIfAtomic Write count = Unit {0}
IsOneWordIfAtomic Posted count = Unit {0}

-- What a line of a script can ask for.
pub record IsTransaction (t : Txn) : Type 0 where
  pub size : t.size ≤ 3
  pub some : 0 < t.count
  pub most : t.count ≤ 256
  pub atomic : IsOneWordIfAtomic t.kind t.count
  pub body : HasBody t.kind (t.count * 2 ^ t.size) t.body
  pub aligned : t.addr % 2 ^ t.size ≡ 0
  pub page : t.addr % 4096 + t.count * 2 ^ t.size ≤ 4096
  pub range : t.addr < 2 ^ 56
