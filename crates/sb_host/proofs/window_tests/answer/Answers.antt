-- The table takes the answer.
use Rattle.std.proofs.Common.{◌++◌, sym, subst}
use Rattle.sb_packet.specs.Accesses.{accesses_of}
use Rattle.sb_host.specs.Progress.{TransactionsSide}
use Rattle.sb_host.specs.Rows.{IsTable}
use Rattle.sb_host.proofs.window_tests.answer.Goals as goal

pub returns-clause-table : goal.returns-clause-table
returns-clause-table c =
    let old = c.requires.table in
    let words = old.0 ++ accesses_of c.args.packet.now in
    (words, subst (λ (t : TransactionsSide). IsTable t.asked words c.take.new.self.rows) (sym c.take.ensures.rest) (c.take.ensures.taken old.0 old.1))
