-- A transaction has as many packets as it takes to hold its words.
use Rattle.std.proofs.Common.{ℕ, ap, ◌∙◌}
use Rattle.std.specs.Int.{div_ceil}
use Rattle.sb_packet.proofs.PacketsOfTransactions.{packets_number}
use Rattle.sb_packet.proofs.request.packets.Goals as goal

pub returns-clause-packets : goal.returns-clause-packets
returns-clause-packets c = λ id qos prot i.
    c.div_ceil.ensures ∙ ap (λ (n : ℕ). div_ceil n c.words_a_packet-words.result) c.from.ensures
    ∙ packets_number id qos prot i c.args.limit c.words_a_packet-words.result c.args.txn.now c.requires.limit c.words_a_packet-words.ensures.exact c.requires.txn
