-- How many bytes a command speaks of, and how many of them its packet carries. After UMI.
use Rattle.std.specs.Prelude.{ℕ, ◌+◌, ◌*◌, ◌^◌}
use Rattle.sb_word.specs.declared.command.Cmd.{Cmd}
use Rattle.sb_word.specs.declared.command.Op.{Op}
use Rattle.sb_word.specs.declared.command.Op.TheVariants.{ReqRd, ReqWr, ReqWrPosted, ReqAtomic, RespRd, RespWr}

-- An atomic is of one word, since its `len` is its number. Every other command is of len + 1 words.
abbrev pub word_count_by : Op → ℕ → ℕ
word_count_by ReqAtomic len = 1
word_count_by ReqRd len = len + 1
word_count_by ReqWr len = len + 1
word_count_by ReqWrPosted len = len + 1
word_count_by RespRd len = len + 1
word_count_by RespWr len = len + 1

-- how many words a command speaks of
abbrev pub word_count_of : Cmd → ℕ
word_count_of c = word_count_by c.op c.len

-- how many bytes a command speaks of
abbrev pub span_of : Cmd → ℕ
span_of c = word_count_of c * 2 ^ c.size

-- A read carries nothing, nor does the answer to a write. Every other packet carries all that it speaks of.
abbrev pub carried_by : Op → ℕ → ℕ
carried_by ReqRd span = 0
carried_by RespWr span = 0
carried_by ReqWr span = span
carried_by ReqWrPosted span = span
carried_by ReqAtomic span = span
carried_by RespRd span = span

-- how many bytes of body a packet with that command carries
abbrev pub carried_of : Cmd → ℕ
carried_of c = carried_by c.op (span_of c)
