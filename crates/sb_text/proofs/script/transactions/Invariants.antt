-- The transactions so far, followed by those of the lines that are left, are those of all lines; so the first fault is still ahead.
use Rattle.std.proofs.Common.{◌≡◌, ◌≤◌, ◌+◌, ◌++◌, List, length, Ok}
use Rattle.std.specs.Prelude.{All, vec_len}
use Rattle.sb_packet.specs.Scripts.{IsTransaction}
use Rattle.sb_packet.specs.declared.transaction.Txn.{Txn}
use Rattle.sb_text.specs.Lines.{lines_of}
use Rattle.sb_text.specs.Sentences.{◌>>=◌}
use Rattle.sb_text.specs.Scripts.{transactions_from}
use Rattle.sb_text.proofs.script.transactions.Given as goal

abbrev pub invariant-loop-index : goal.invariant-loop-index
invariant-loop-index l = record {
  said : transactions_from 1 (lines_of l.text) ≡ (transactions_from (l.index + 1) (lines_of l.lines.rest.now) >>= (λ (more : List Txn). Ok (l.txns.items ++ more)));
  lines : length (lines_of l.text) ≡ l.index + length (lines_of l.lines.rest.now);
  limit : vec_len l.txns ≤ l.index;
  transactions : All IsTransaction l.txns.items;
}
