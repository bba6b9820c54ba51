-- The bytes held at the address stand at the front of the body, so they answer the words of the read.
use Rattle.std.proofs.Common.{◌∙◌}
use Rattle.sb_packet.specs.Spans.{span_of}
use Rattle.sb_mem.proofs.Requests.{read_answers, padded_front}
use Rattle.sb_mem.proofs.memory.Memory.read.Goals as goal

pub returns-clause-answers : goal.returns-clause-answers
returns-clause-answers c =
    let p = c.args.p.now in
    let body = c.answer.ensures.body ∙ c.padded.ensures in
    let front = padded_front (span_of p.cmd) c.held.result.now _ c.answer.result.body c.held.ensures.count body in
    read_answers c.args.self.now p c.answer.result c.requires.op c.requires.within.low c.answer.ensures.fields c.answer.ensures.code (front ∙ c.held.ensures.bytes)
