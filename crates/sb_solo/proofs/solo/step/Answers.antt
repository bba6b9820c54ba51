-- The code and the body are those of the words' answers, which have at most 32 bytes; where none answers, they are 0 and empty.
use Rattle.std.proofs.Common.{◌≡◌, ◌∙◌, ap, sym, arith}
use Rattle.sb_packet.specs.Answers.{answer_code, answer_body}
use Rattle.sb_packet.specs.Messages.{message_of}
use Rattle.sb_solo.specs.Steps.{packet_answers}
use Rattle.sb_packet.proofs.PacketWords.{code_of_packet, body_of_packet, short_packet}
use Rattle.sb_solo.proofs.StepLemmas.{nothing_collected}
use Rattle.sb_solo.proofs.solo.step.Goals as goal

pub returns-in-None-clause-code : goal.returns-in-None-clause-code
returns-in-None-clause-code c = sym (ap answer_code c.in-None.ensures.no_answers)

pub returns-in-None-clause-body : goal.returns-in-None-clause-body
returns-in-None-clause-body c = rw c.in-None.ensures.no_answers (nothing_collected c.args.outcomes.now)

pub returns-in-None-clause-short : goal.returns-in-None-clause-short
returns-in-None-clause-short c = rw c.in-None.ensures.no_answers (omega arith)

pub returns-in-Some-clause-code : goal.returns-in-Some-clause-code
returns-in-Some-clause-code c =
    let a = c.in-Some.answer in
    sym (ap answer_code c.in-Some.ensures.answers ∙ code_of_packet a)

pub returns-in-Some-clause-body : goal.returns-in-Some-clause-body
returns-in-Some-clause-body c =
    let a = c.in-Some.answer in
    let body : answer_body (packet_answers c.args.memory.now c.args.packet.now) ≡ (message_of a).bytes = ap answer_body c.in-Some.ensures.answers ∙ body_of_packet a in
    rw (body, ← c.carried.ensures) c.add.ensures

pub returns-in-Some-clause-short : goal.returns-in-Some-clause-short
returns-in-Some-clause-short c =
    let a = c.in-Some.answer in
    let body : answer_body (packet_answers c.args.memory.now c.args.packet.now) ≡ (message_of a).bytes = ap answer_body c.in-Some.ensures.answers ∙ body_of_packet a in
    rw body (short_packet a)
