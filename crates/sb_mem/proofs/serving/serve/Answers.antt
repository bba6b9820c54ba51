-- What the memory answers is what the definition answers, word by word.
use Rattle.sb_packet.specs.Accesses.{accesses_of}
use Rattle.sb_mem.proofs.FoundAnswers.{found_answers, found_no_answers}
use Rattle.sb_mem.proofs.serving.serve.Goals as goal

pub returns-clause-answers : goal.returns-clause-answers
returns-clause-answers c = found_answers c.step-answer.result _ c.step-answer.ensures.answers

pub returns-clause-no_answers : goal.returns-clause-no_answers
returns-clause-no_answers c = found_no_answers c.step-answer.result (accesses_of c.args.entry.now.packet) _ c.step-answer.ensures.no_answers
