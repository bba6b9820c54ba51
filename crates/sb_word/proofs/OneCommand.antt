-- A word is no more than one command's.
use Rattle.std.proofs.Common.{◌≡◌, ◌≤◌, ℕ, refl, arith, sym, ◌∙◌}
use Rattle.std.proofs.Props.{props}
use Rattle.sb_word.specs.declared.command.Cmd.{Cmd}
use Rattle.sb_word.specs.declared.command.Op.{Op}
use Rattle.sb_word.specs.declared.command.Op.TheVariants.{ReqRd, ReqWr, ReqWrPosted, ReqAtomic, RespRd, RespWr}
use Rattle.sb_word.specs.Words.{opcode_of, IsWordOf}
use mathlib.Core.HLevel.{is_prop→PathP}

-- two opcodes have different numbers
pub opcode_of-injective : (a b : Op) → opcode_of a ≡ opcode_of b → a ≡ b
opcode_of-injective ReqRd ReqRd e = refl
opcode_of-injective ReqWr ReqWr e = refl
opcode_of-injective ReqWrPosted ReqWrPosted e = refl
opcode_of-injective ReqAtomic ReqAtomic e = refl
opcode_of-injective RespRd RespRd e = refl
opcode_of-injective RespWr RespWr e = refl
opcode_of-injective _ _ e = absurd (omega arith)

pub one_command : (w : ℕ) (c d : Cmd) → IsWordOf w c → IsWordOf w d → c ≡ d
one_command w c d a b =
    let op : c.op ≡ d.op = opcode_of-injective c.op d.op (sym a.op ∙ b.op) in
    let size : c.size ≡ d.size = sym a.size ∙ b.size in
    let len : c.len ≡ d.len = sym a.len ∙ b.len in
    let qos : c.qos ≡ d.qos = sym a.qos ∙ b.qos in
    let prot : c.prot ≡ d.prot = sym a.prot ∙ b.prot in
    let eom : c.eom ≡ d.eom = sym a.eom ∙ b.eom in
    let eof : c.eof ≡ d.eof = sym a.eof ∙ b.eof in
    let ex : c.ex ≡ d.ex = sym a.ex ∙ b.ex in
    let tail : c.tail ≡ d.tail = sym a.tail ∙ b.tail in
    let host : c.host ≡ d.host = sym a.host ∙ b.host in
    λ i. record {
      op = op i;
      size = size i;
      len = len i;
      qos = qos i;
      prot = prot i;
      eom = eom i;
      eof = eof i;
      ex = ex i;
      tail = tail i;
      host = host i;
      size_fits = is_prop→PathP (λ j. size j ≤ 3) (λ j. hlevel props) c.size_fits d.size_fits i;
      qos_fits = is_prop→PathP (λ j. qos j ≤ 15) (λ j. hlevel props) c.qos_fits d.qos_fits i;
      prot_fits = is_prop→PathP (λ j. prot j ≤ 3) (λ j. hlevel props) c.prot_fits d.prot_fits i;
      tail_fits = is_prop→PathP (λ j. tail j ≤ 3) (λ j. hlevel props) c.tail_fits d.tail_fits i;
      host_fits = is_prop→PathP (λ j. host j ≤ 31) (λ j. hlevel props) c.host_fits d.host_fits i;
      atomic_type_fits = is_prop→PathP (λ j. op j ≡ ReqAtomic → len j ≤ 8) (λ j. hlevel props) c.atomic_type_fits d.atomic_type_fits i;
    }
