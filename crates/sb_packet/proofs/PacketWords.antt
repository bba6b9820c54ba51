-- The words of a packet have its code, and its bytes.
use Rattle.std.proofs.Common.{◌≡◌, ◌≤◌, ℕ, List, ◌∙◌, arith, take, length, inl, inr}
use Rattle.std.proofs.lemmas.List.{take-take, length-take}
use Rattle.std.proofs.Math.Seq.{take-nil}
use Rattle.sb_word.specs.declared.command.Op.{Op}
use Rattle.sb_packet.specs.Messages.{message_of}
use Rattle.sb_packet.specs.Spans.{carried_by, carried_of, span_of}
use Rattle.sb_packet.specs.Accesses.{accesses_of}
use Rattle.sb_packet.specs.Answers.{answer_code, answer_body}
use Rattle.sb_packet.specs.declared.packet.Packet.{Packet}
use Rattle.sb_packet.proofs.JoinedAnswers.{code_of_message, body_of_message}
use Rattle.sb_packet.proofs.Opcodes.{some_words, carries_none_or_all}

-- the code of a packet's words is its tail
pub code_of_packet : (a : Packet) → answer_code (accesses_of a) ≡ a.cmd.tail
code_of_packet a = code_of_message (message_of a) (some_words a.cmd.op a.cmd.len)

carried_front : (op : Op) (n : ℕ) (body : List ℕ) → take n (take (carried_by op n) body) ≡ take (carried_by op n) body
carried_front op n body = elim (carries_none_or_all op) [ inl none ↦ rw (none n) (take-nil n) | inr all ↦ rw (all n) (take-take n n body (omega arith)) ]

-- the bytes of a packet's words are those that it carries
pub body_of_packet : (a : Packet) → answer_body (accesses_of a) ≡ (message_of a).bytes
body_of_packet a = body_of_message (message_of a) ∙ carried_front a.cmd.op (span_of a.cmd) a.body

carries_at_most : (op : Op) (n : ℕ) → carried_by op n ≤ n
carries_at_most op n = elim (carries_none_or_all op) [ inl none ↦ rw (none n) (omega arith) | inr all ↦ rw (all n) (omega arith) ]

-- a packet carries at most 32 bytes
pub short_packet : (a : Packet) → length (message_of a).bytes ≤ 32
short_packet a =
    let few : carried_of a.cmd ≤ span_of a.cmd = carries_at_most a.cmd.op (span_of a.cmd) in
    rw length-take (omega (arith, few, a.fits))
