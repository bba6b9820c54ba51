-- The transactions of lines, one line after another.
use Rattle.std.proofs.Common.{◌≡◌, ◌+◌, ◌++◌, ◌∷◌, [], ◌∙◌, ℕ, List, Option, Some, None, Result, Ok, Err, ap, sym, refl, append_assoc}
use Rattle.std.proofs.lemmas.List.{append-nil}
use Rattle.sb_packet.specs.declared.transaction.Txn.{Txn}
use Rattle.sb_text.specs.Sentences.{line_of, ◌>>=◌}
use Rattle.sb_text.specs.Scripts.{at_line, before, transactions_from}
use Rattle.sb_text.specs.declared.line_fault.LineFault.{LineFault}
use Rattle.sb_text.specs.declared.script_fault.ScriptFault.{ScriptFault}

-- behind transactions come those of the next line and of the lines after it
pub next_said : (txns : List Txn) (number : ℕ) (line : List ℕ) (lines : List (List ℕ)) (txn : Option Txn) → line_of line ≡ Ok txn
    → (transactions_from number (line ∷ lines) >>= (λ (more : List Txn). Ok (txns ++ more))) ≡ (transactions_from (number + 1) lines >>= (λ (more : List Txn). Ok ((txns ++ before txn []) ++ more)))
next_said txns number line lines txn says =
    ap (λ (r : Result (Option Txn) LineFault). (at_line number r >>= (λ (t : Option Txn). transactions_from (number + 1) lines >>= (λ (ts : List Txn). Ok (before t ts)))) >>= (λ (more : List Txn). Ok (txns ++ more))) says
    ∙ then (transactions_from (number + 1) lines) txn
  where
    then : (rest : Result (List Txn) ScriptFault) (t : Option Txn) → ((rest >>= (λ (ts : List Txn). Ok (before t ts))) >>= (λ (more : List Txn). Ok (txns ++ more))) ≡ (rest >>= (λ (more : List Txn). Ok ((txns ++ before t []) ++ more)))
    then (Ok ts) None = ap (λ (l : List Txn). Ok (l ++ ts)) (sym (append-nil txns))
    then (Ok ts) (Some t) = ap (λ (l : List Txn). Ok l) (sym (append_assoc txns (t ∷ []) ts))
    then (Err fault) t = refl
