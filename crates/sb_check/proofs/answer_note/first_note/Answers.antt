-- A transaction speaks of at most 2,048 bytes.
use Rattle.std.proofs.Common.{◌*◌, ◌≡◌, ◌^◌, ap, ◌∙◌, arith}
use Rattle.sb_packet.proofs.ReplyAddresses.{span_of_transaction}
use Rattle.sb_check.proofs.answer_note.first_note.Goals as goal

pub returns-in-None-clause-short : goal.returns-in-None-clause-short
returns-in-None-clause-short c =
    let t = c.args.txn.now in
    let short = span_of_transaction t c.requires.txn in
    let count = c.from.ensures in
    let span : c.words_span.result ≡ t.count * 2 ^ t.size = c.words_span.ensures ∙ ap (λ n. n * 2 ^ t.size) count in
    let limit = c.unreached.ensures.limit in
    omega (arith, short, span, limit)

pub returns-in-Some-clause-short : goal.returns-in-Some-clause-short
returns-in-Some-clause-short c =
    let t = c.args.txn.now in
    let short = span_of_transaction t c.requires.txn in
    let count = c.from.ensures in
    let span : c.words_span.result ≡ t.count * 2 ^ t.size = c.words_span.ensures ∙ ap (λ n. n * 2 ^ t.size) count in
    omega (arith, short, span)
