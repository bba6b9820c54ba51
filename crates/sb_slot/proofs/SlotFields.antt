-- What a command speaks of, by the numbers in its word.
use Rattle.std.proofs.Common.{◌≡◌, ◌+◌, ◌*◌, ◌/◌, ◌%◌, ◌^◌, ◌==◌, ℕ, refl, ap, ◌∙◌}
use Rattle.std.specs.Prelude.{◌||◌, if◌then◌else◌}
use Rattle.sb_word.specs.declared.command.Cmd.{Cmd}
use Rattle.sb_word.specs.declared.command.Op.{Op}
use Rattle.sb_word.specs.declared.command.Op.TheVariants.{ReqRd, ReqWr, ReqWrPosted, ReqAtomic, RespRd, RespWr}
use Rattle.sb_word.specs.Words.{opcode_of, IsWordOf}
use Rattle.sb_packet.specs.Spans.{word_count_by, span_of, carried_by, carried_of}
use Rattle.sb_slot.specs.SlotFaults.{size_in, span_in, carried_in}

pub word_count_by-opcode : (op : Op) (len : ℕ) → (if opcode_of op == 9 then 1 else len + 1) ≡ word_count_by op len
word_count_by-opcode ReqRd len = refl
word_count_by-opcode ReqWr len = refl
word_count_by-opcode ReqWrPosted len = refl
word_count_by-opcode ReqAtomic len = refl
word_count_by-opcode RespRd len = refl
word_count_by-opcode RespWr len = refl

pub carried_by-opcode : (op : Op) (span : ℕ) → (if (opcode_of op == 1) || (opcode_of op == 4) then 0 else span) ≡ carried_by op span
carried_by-opcode ReqRd span = refl
carried_by-opcode ReqWr span = refl
carried_by-opcode ReqWrPosted span = refl
carried_by-opcode ReqAtomic span = refl
carried_by-opcode RespRd span = refl
carried_by-opcode RespWr span = refl

pub size_in-IsWordOf : (w : ℕ) (c : Cmd) → IsWordOf w c → size_in w ≡ 2 ^ c.size
size_in-IsWordOf w c h = ap (λ n. 2 ^ n) h.size

pub span_in-IsWordOf : (w : ℕ) (c : Cmd) → IsWordOf w c → span_in w ≡ span_of c
span_in-IsWordOf w c h =
    ap (λ n. (if n == 9 then 1 else w / 2 ^ 8 % 2 ^ 8 + 1) * size_in w) h.op
    ∙ ap (λ n. (if opcode_of c.op == 9 then 1 else n + 1) * size_in w) h.len
    ∙ ap (λ n. n * size_in w) (word_count_by-opcode c.op c.len)
    ∙ ap (λ n. word_count_by c.op c.len * n) (size_in-IsWordOf w c h)

pub carried_in-IsWordOf : (w : ℕ) (c : Cmd) → IsWordOf w c → carried_in w ≡ carried_of c
carried_in-IsWordOf w c h =
    ap (λ n. if (n == 1) || (n == 4) then 0 else span_in w) h.op
    ∙ carried_by-opcode c.op (span_in w)
    ∙ ap (carried_by c.op) (span_in-IsWordOf w c h)
