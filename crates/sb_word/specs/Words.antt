-- The command word: 32 bits that hold a command. After UMI; the places of the bits and the numbers are this project's own.
use Rattle.std.specs.Prelude.{ℕ, ◌≡◌, ◌+◌, ◌*◌, ◌/◌, ◌%◌, ◌^◌, Bool, ◌==◌, if◌then◌else◌}
use Rattle.sb_word.specs.declared.command.Cmd.{Cmd}
use Rattle.sb_word.specs.declared.command.Op.{Op}
use Rattle.sb_word.specs.declared.command.Op.TheVariants.{ReqRd, ReqWr, ReqWrPosted, ReqAtomic, RespRd, RespWr}

-- the number of an opcode: a request has an odd one, an answer an even one
abbrev pub opcode_of : Op → ℕ
opcode_of ReqRd = 1
opcode_of RespRd = 2
opcode_of ReqWr = 3
opcode_of RespWr = 4
opcode_of ReqWrPosted = 5
opcode_of ReqAtomic = 9

-- a bit as a number
abbrev pub bit_of : Bool → ℕ
bit_of b = if b then 1 else 0

-- The word of a command, field by field from the lowest bit:
-- opcode in bits 0 to 4, size in 5 to 7, len in 8 to 15, qos in 16 to 19, prot in 20 and 21, eom in 22, eof in 23, ex in 24, tail in 25 and 26, host in 27 to 31.
abbrev pub word_of : Cmd → ℕ
word_of c =
    opcode_of c.op + c.size * 2 ^ 5 + c.len * 2 ^ 8 + c.qos * 2 ^ 16 + c.prot * 2 ^ 20
    + bit_of c.eom * 2 ^ 22 + bit_of c.eof * 2 ^ 23 + bit_of c.ex * 2 ^ 24 + c.tail * 2 ^ 25 + c.host * 2 ^ 27

-- A word is a command's: each field stands in its bits, and no bit is above them.
pub record IsWordOf (word : ℕ) (c : Cmd) : Type 0 where
  pub op : word % 2 ^ 5 ≡ opcode_of c.op
  pub size : word / 2 ^ 5 % 2 ^ 3 ≡ c.size
  pub len : word / 2 ^ 8 % 2 ^ 8 ≡ c.len
  pub qos : word / 2 ^ 16 % 2 ^ 4 ≡ c.qos
  pub prot : word / 2 ^ 20 % 2 ^ 2 ≡ c.prot
  pub eom : (word / 2 ^ 22 % 2 == 1) ≡ c.eom
  pub eof : (word / 2 ^ 23 % 2 == 1) ≡ c.eof
  pub ex : (word / 2 ^ 24 % 2 == 1) ≡ c.ex
  pub tail : word / 2 ^ 25 % 2 ^ 2 ≡ c.tail
  pub host : word / 2 ^ 27 ≡ c.host
