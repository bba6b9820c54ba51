-- A part goes to a multiple of its word, is answered at one, and ends within 2 ^ 56.
use Rattle.std.proofs.Common.{◌≡◌, ◌≤◌, ◌+◌, ◌*◌, ◌^◌, ℕ, ap, arith, ◌∙◌}
use Rattle.sb_packet.specs.Spans.{span_of}
use Rattle.sb_packet.proofs.PacketsOfTransactions.{packet_ends}
use Rattle.sb_packet.proofs.Places.{words_aligned, reply_address_aligned, transaction_ends}
use Rattle.sb_packet.proofs.request.part.Goals as goal

pub request-requires-clause-dst_aligned : goal.request-requires-clause-dst_aligned
request-requires-clause-dst_aligned c =
    let t = c.args.txn.now in
    rw (c.command-cmd.ensures.size, c.from.ensures, c.words_span-start.ensures) (words_aligned t.addr c.args.from t.size c.requires.txn.aligned)

pub request-requires-clause-src_aligned : goal.request-requires-clause-src_aligned
request-requires-clause-src_aligned c = grind (arith, words_aligned, reply_address_aligned)

pub request-requires-clause-dst_in_range : goal.request-requires-clause-dst_in_range
request-requires-clause-dst_in_range c =
    let t = c.args.txn.now in
    let end : t.addr + t.count * 2 ^ t.size ≤ 2 ^ 56 = transaction_ends t c.requires.txn in
    let within : t.addr + c.args.from * 2 ^ t.size + c.args.count * 2 ^ t.size ≤ t.addr + t.count * 2 ^ t.size = packet_ends t.addr c.args.from c.args.count t.count t.size c.requires.inside in
    let span : span_of c.command-cmd.result ≡ c.args.count * 2 ^ t.size =
    ap (λ (n : ℕ). n * 2 ^ c.command-cmd.result.size) c.command-cmd.ensures.words ∙ ap (λ (n : ℕ). c.args.count * 2 ^ n) c.command-cmd.ensures.size in
    rw (span, c.from.ensures, c.words_span-start.ensures) (omega (arith, end, within))
