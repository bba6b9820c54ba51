-- Packet k begins within the transaction, is part k of its message, and ends no later than the transaction.
use Rattle.std.proofs.Common.{◌≡◌, ◌≤◌, ◌<◌, ◌+◌, ◌*◌, ◌-◌, ◌^◌, ℕ, ap, sym, arith, ◌∙◌, Some}
use Rattle.std.specs.Prelude.{min, nat_le}
use Rattle.sb_packet.specs.Messages.{Message, message_span}
use Rattle.sb_packet.specs.Spans.{span_of}
use Rattle.sb_packet.specs.Cuts.{part_of}
use Rattle.sb_packet.specs.Scripts.{request_message}
use Rattle.sb_packet.proofs.PacketsOfTransactions.{packet_begins, packet_at, packet_ends}
use Rattle.sb_packet.proofs.request.packet_of.Goals as goal

begins : (c : goal.After-part) → c.args.k * c.words_a_packet-words.result < c.args.txn.now.count
begins c =
    let asked = c.requires in
    packet_begins c.args.k c.args.id c.args.qos c.args.prot c.args.index c.args.limit c.words_a_packet-words.result c.args.txn.now asked.limit c.words_a_packet-words.ensures.exact asked.txn asked.k

pub returns-clause-packet : goal.returns-clause-packet
returns-clause-packet c =
    let t = c.args.txn.now in
    let words = c.words_a_packet-words.result in
    let m = request_message c.args.id c.args.qos c.args.prot c.args.index t in
    let before = c.args.k * words in
    packet_at c.args.k c.args.id c.args.qos c.args.prot c.args.index c.args.limit words t c.requires.limit c.words_a_packet-words.ensures.exact c.requires.txn (begins c)
    ∙ ap (λ (n : ℕ). Some (part_of m before (min (n - before) words) (nat_le (n - before) words))) (sym c.from.ensures)
    ∙ ap (λ (n : ℕ). Some (part_of m before n (nat_le (c.from.result - before) words))) (sym c.min.ensures)
    ∙ ap (λ (p : Message). Some p) (sym c.part.ensures)

pub returns-clause-last : goal.returns-clause-last
returns-clause-last c =
    let t = c.args.txn.now in
    let from = c.args.k * c.words_a_packet-words.result in
    let place : c.part.result.dst ≡ t.addr + from * 2 ^ t.size = ap (λ (m : Message). m.dst) c.part.ensures in
    let span : span_of c.part.result.cmd ≡ c.min.result * 2 ^ t.size = ap (λ (m : Message). message_span m) c.part.ensures in
    let below = begins c in
    let least = c.min.ensures in
    let count = c.from.ensures in
    let inside : from + c.min.result ≤ t.count = omega (arith, below, least, count) in
    rw (place, span) (packet_ends t.addr from c.min.result t.count t.size inside)
