-- A transaction speaks of at most 2048 bytes.
use Rattle.std.proofs.Common.{◌≡◌, ◌*◌, ◌^◌, ℕ, ap, ◌∙◌, arith}
use Rattle.sb_packet.proofs.ReplyAddresses.{span_of_transaction}
use Rattle.sb_solo.proofs.solo.transaction_span.Goals as goal

pub returns-clause-short : goal.returns-clause-short
returns-clause-short c =
    let t = c.args.txn.now in
    let short = span_of_transaction t c.requires in
    let span : c.words_span.result ≡ t.count * 2 ^ t.size = c.words_span.ensures ∙ ap (λ (n : ℕ). n * 2 ^ t.size) c.from.ensures in
    omega (arith, short, span)
