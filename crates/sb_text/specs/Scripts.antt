-- What a script's text says.
use Rattle.std.specs.Prelude.{ℕ, ◌≢◌, ◌+◌, nat_le, List, [], ◌∷◌, length, sum_by, Option, Some, None, Result, Ok, Err}
use Rattle.sb_packet.specs.declared.transaction.Txn.{Txn}
use Rattle.sb_text.specs.Sentences.{line_of, unless, ◌>>=◌}
use Rattle.sb_text.specs.Lines.{lines_of}
use Rattle.sb_text.specs.declared.line_fault.LineFault.{LineFault}
use Rattle.sb_text.specs.declared.line_fault.LineFault.TheVariants as line_faults
use Rattle.sb_text.specs.declared.script_fault.ScriptFault.{ScriptFault}
use Rattle.sb_text.specs.declared.script_fault.ScriptFault.TheVariants.{Lines, Line, Words, Memory}

-- what a line says, or its fault with its number
abbrev pub at_line : ℕ → Result (Option Txn) LineFault → Result (Option Txn) ScriptFault
at_line number (Ok txn) = Ok txn
at_line number (Err fault) = Err (Line number fault)

-- a transaction, where there is one, before others
abbrev pub before : Option Txn → List Txn → List Txn
before None txns = txns
before (Some txn) txns = txn ∷ txns

-- the transactions of lines, of which the first has that number; or the first line's fault
abbrev pub transactions_from : ℕ → List (List ℕ) → Result (List Txn) ScriptFault
transactions_from number [] = Ok []
transactions_from number (line ∷ lines) = do
  txn ← at_line number (line_of line)
  txns ← transactions_from (number + 1) lines
  Ok (before txn txns)

-- the words of all transactions together
abbrev pub words_together : List Txn → ℕ
words_together txns = sum_by (λ txn. txn.count) txns

-- A script is the transactions of its lines, of which there are at most 65,536, with 262,144 words at most.
abbrev pub script_of_text : List ℕ → Result (List Txn) ScriptFault
script_of_text text = do
  done ← unless (nat_le (length (lines_of text)) 65536) (Lines (length (lines_of text)))
  txns ← transactions_from 1 (lines_of text)
  done ← unless (nat_le (words_together txns) 262144) (Words (words_together txns))
  Ok txns

-- a script's fault never says of a line that memory was missing
abbrev pub SaysNoMemory : ScriptFault → Type 0
SaysNoMemory (Lines count) = Unit {0}
SaysNoMemory (Line number fault) = fault ≢ line_faults.Memory
SaysNoMemory (Words words) = Unit {0}
SaysNoMemory Memory = Unit {0}
