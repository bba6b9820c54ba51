-- What the row tells is what has become of the transaction.
use Rattle.std.proofs.Common.{◌∙◌, ap, sym}
use Rattle.sb_packet.specs.Answers.{Outcome}
use Rattle.sb_host.proofs.NewTable.{outcome_kept}
use Rattle.sb_host.proofs.transaction_table.TransactionTable.state.Goals as goal

pub returns : goal.returns
returns c = record {
  state = λ received none is.
      ap (λ (o : Outcome). o.state) (outcome_kept c.args.script_plan.now received c.args.self.now.rows.items c.args.next c.args.index none c.index.result.now c.index-2.result.now c.requires.index c.index.ensures c.index-2.ensures is)
      ∙ sym c.state_of.ensures;
}
