-- A read leaves the memory as it is, a write is answered by a refusal where the memory can't be written, and a posted write not at all.
use Rattle.std.proofs.Common.{◌∙◌, ap, sym, Bool}
use Rattle.std.specs.Prelude.{if◌then◌else◌}
use Rattle.sb_packet.specs.Memories.{code_number}
use Rattle.sb_packet.specs.declared.transaction.Code.TheVariants.{DevErr, Ok}
use Rattle.sb_mem.proofs.Requests.{read_memory, write_answers, posted_answers}
use Rattle.sb_mem.proofs.memory.Memory.step.Goals as goal

pub returns-in-ReqRd-clause-memory : goal.returns-in-ReqRd-clause-memory
returns-in-ReqRd-clause-memory c = sym (read_memory c.args.self.now c.args.p.now c.in-ReqRd.is)

pub returns-in-ReqWr-clause-answers : goal.returns-in-ReqWr-clause-answers
returns-in-ReqWr-clause-answers c =
    let code = c.answer.ensures.code ∙ ap code_number (c.write_code.ensures ∙ ap (λ (r : Bool). if r then DevErr else Ok) c.write.ensures.readonly) in
    write_answers c.args.self.now c.args.p.now c.answer.result c.in-ReqWr.is c.answer.ensures.fields code

pub returns-in-ReqWrPosted-clause-no_answers : goal.returns-in-ReqWrPosted-clause-no_answers
returns-in-ReqWrPosted-clause-no_answers c = posted_answers c.args.self.now c.args.p.now c.in-ReqWrPosted.is
