-- sum: what both carry stands at the front of its body, and zeros behind it.
use Rattle.std.proofs.Common.{◌≡◌, ◌+◌, ◌*◌, ◌^◌, ◌++◌, refl, ◌∙◌, take}
use Rattle.sb_packet.specs.Messages.{message_of}
use Rattle.sb_packet.specs.Spans.{carried_by}
use Rattle.sb_cut.proofs.Sums.{as_many, in_order, both_in_front, zeros_after}
use Rattle.sb_cut.proofs.shapes.sum.Goals as goal

pub reshaped-requires-clause-padding : goal.reshaped-requires-clause-padding
reshaped-requires-clause-padding c =
    let a = c.args.first.now in
    let b = c.args.second.now in
    let both = (message_of a).bytes ++ (message_of b).bytes in
    zeros_after (carried_by a.cmd.op ((c.word_count.result + c.word_count-2.result) * 2 ^ a.cmd.size)) both c.extended.result
    (as_many a b c.word_count.result c.word_count-2.result c.requires.mergeable c.word_count.ensures.words c.word_count-2.ensures.words)
    (in_order a b c.carried.result.now c.extended.result c.carried.ensures c.extended.ensures.body)

pub returns : goal.returns
returns c =
    let a = c.args.first.now in
    let b = c.args.second.now in
    let n = carried_by a.cmd.op ((c.word_count.result + c.word_count-2.result) * 2 ^ a.cmd.size) in
    let both = (message_of a).bytes ++ (message_of b).bytes in
    let bytes : take n c.extended.result ≡ both = both_in_front n both c.extended.result
    (as_many a b c.word_count.result c.word_count-2.result c.requires.mergeable c.word_count.ensures.words c.word_count-2.ensures.words)
    (in_order a b c.carried.result.now c.extended.result c.carried.ensures c.extended.ensures.body) in
    record { sum = c.reshaped.ensures.message ∙ rw (bytes, c.word_count.ensures.words, c.word_count-2.ensures.words) refl }
