-- A line's transaction, if it has one, goes behind those so far, and those of the lines that are left still follow.
use Rattle.std.proofs.Common.{◌+◌, ◌++◌, ◌∙◌, ℕ, List, Ok, length, ap, sym, arith}
use Rattle.sb_packet.specs.declared.transaction.Txn.{Txn}
use Rattle.sb_text.specs.Lines.{lines_of}
use Rattle.sb_text.specs.Sentences.{◌>>=◌}
use Rattle.sb_text.specs.Scripts.{transactions_from}
use Rattle.sb_text.proofs.ScriptLemmas.{next_said}
use Rattle.sb_text.proofs.script.transactions.Goals as goal

pub loop-index-preserved : goal.loop-index-preserved
loop-index-preserved c =
    let number = c.loop-index.index + 1 in
    let line = c.in-Some.line.now in
    let lines = lines_of c.next_line.new.self.rest.now in
    let txns = c.loop-index.txns.items in
    let line_is = c.in-Some.ensures.line in
    record {
      said = c.loop-index.invariant.said
          ∙ ap (λ (left : List (List ℕ)). transactions_from number left >>= (λ (more : List Txn). Ok (txns ++ more))) line_is
          ∙ next_said txns number line lines c.in-Ok.txn c.in-Ok.ensures.value
          ∙ ap (λ (kept : List Txn). transactions_from (number + 1) lines >>= (λ (more : List Txn). Ok (kept ++ more))) (sym c.in_ok-keep-in-Ok.ensures.items);
      lines = omega (arith, ap length line_is);
      limit = omega (arith, c.in_ok-keep-in-Ok.ensures.limit);
      transactions = c.in_ok-keep-in-Ok.ensures.transactions;
    }
