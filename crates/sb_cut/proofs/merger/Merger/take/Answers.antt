-- take: two packets that can be merged at the width can be merged at 32.
use Rattle.std.proofs.Common.{◌≤◌, ◌+◌, sym, ◌∙◌, arith}
use Rattle.sb_packet.specs.Messages.{message_of, message_span}
use Rattle.sb_cut.specs.Merges.{AreMergeable}
use Rattle.sb_cut.proofs.Mergeable.{mergeable_says}
use Rattle.sb_cut.proofs.Slices.{at_most_32}
use Rattle.sb_cut.proofs.merger.Merger.take.Goals as goal

pub sum-requires : goal.sum-requires
sum-requires c =
    let a = message_of c.in-Some.first in
    let b = message_of c.args.packet.now in
    let width = c.self.inside.width in
    let says : AreMergeable width a b = mergeable_says width a b (sym c.is_mergeable.ensures.mergeable ∙ c.if-is_mergeable.true) in
    let most : width ≤ 32 = at_most_32 width c.self.invariant in
    let fits : message_span a + message_span b ≤ width = says.fits in
    record {
      mergeable = record {
        op = says.op;
        size = says.size;
        host = says.host;
        qos = says.qos;
        prot = says.prot;
        eof = says.eof;
        tail = says.tail;
        plain = says.plain;
        first_shared = says.first_shared;
        second_shared = says.second_shared;
        unended = says.unended;
        dst = says.dst;
        src = says.src;
        fits = omega (arith, fits, most);
      };
    }
