-- The table takes the answer, and the rest stays.
use Rattle.std.proofs.Common.{◌++◌, sym, subst}
use Rattle.sb_packet.specs.Accesses.{accesses_of}
use Rattle.sb_host.specs.Progress.{TransactionsSide}
use Rattle.sb_host.specs.Rows.{IsTable}
use Rattle.sb_host.proofs.transactions.Transactions.take.Goals as goal

pub returns-clause-taken : goal.returns-clause-taken
returns-clause-taken c = λ received is.
    subst (λ (t : TransactionsSide). IsTable t.asked (received ++ accesses_of c.args.answer.now) c.take.new.self.rows.items) c.self.view_is
    (c.take.ensures.taken received (subst (λ (t : TransactionsSide). IsTable t.asked received t.rows) (sym c.self.view_is) is))
