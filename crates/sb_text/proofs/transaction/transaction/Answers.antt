-- The body is as long as the words that were counted, and a read has none.
use Rattle.std.proofs.Common.{◌≡◌, Some, sym, ◌∙◌}
use Rattle.sb_text.specs.Sentences.{count_of}
use Rattle.sb_text.proofs.TransactionLemmas.{has_body}
use Rattle.sb_text.proofs.transaction.transaction.Goals as goal

pub placed-requires-clause-body : goal.placed-requires-clause-body
placed-requires-clause-body c =
    let counted : count_of c.args.kind c.in_ok-size.size c.in_ok-told.told c.in_ok-body.body ≡ Some c.in_ok-count.count = sym (rw c.as_slice.ensures at c.count.ensures) ∙ c.in_ok-count.ensures.ok_part in
    has_body c.args.kind c.in_ok-size.size c.in_ok-told.told c.args.last.now c.in_ok-body.body c.in_ok-count.count c.in_ok-body.ensures.ok counted
