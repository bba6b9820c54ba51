-- What holds of a word that is a command's.
use Rattle.std.proofs.Common.{◌≡◌, ℕ, arith, rules}
use Rattle.std.specs.Prelude.{None}
use Rattle.std.proofs.lemmas.Grind.{common_steps}
use Rattle.sb_word.specs.declared.command.Cmd.{Cmd}
use Rattle.sb_word.specs.Faults.{word_fault}
use Rattle.sb_word.specs.Words.{word_of, IsWordOf}

-- it is the sum of its fields
pub word_of-IsWordOf : (w : ℕ) (c : Cmd) → IsWordOf w c → w ≡ word_of c
word_of-IsWordOf w c h = grind (arith, common_steps)

-- it has no fault
pub word_fault-IsWordOf : (w : ℕ) (c : Cmd) → IsWordOf w c → word_fault w ≡ None
word_fault-IsWordOf w c h = search rules
