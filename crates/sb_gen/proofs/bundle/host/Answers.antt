-- The transactions that are drawn can be issued.
use Rattle.std.proofs.lemmas.List.Elements.{All-same}
use Rattle.sb_packet.specs.Scripts.{IsTransaction}
use Rattle.sb_gen.specs.Generated.{gen_transactions}
use Rattle.sb_gen.proofs.TransactionLists.{generated_are_transactions}
use Rattle.sb_gen.proofs.bundle.host.Goals as goal

pub invariant_of-result : goal.invariant_of-result
invariant_of-result c =
    let x = c.args.generator.now.state in
    record { lines = All-same IsTransaction c.in_ok-script.script (gen_transactions x 0 2048) c.in_ok-script.ensures.transactions (generated_are_transactions x 0 2048) }
