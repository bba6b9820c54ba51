-- A message's words have its code and its bytes; of joined answers the greater code counts, and the bodies are joined.
use Rattle.sb_packet.proofs.JoinedAnswers.{answer_body-append, answer_code-append, body_of_message, code_of_message}
use Rattle.sb_packet.proofs.laws.answers_are_joined.Goals as goal

pub returns-clause-code : goal.returns-clause-code
returns-clause-code c = λ m some. code_of_message m some

pub returns-clause-body : goal.returns-clause-body
returns-clause-body c = λ m. body_of_message m

pub returns-clause-codes : goal.returns-clause-codes
returns-clause-codes c = λ xs ys. answer_code-append xs ys

pub returns-clause-bodies : goal.returns-clause-bodies
returns-clause-bodies c = λ xs ys. answer_body-append xs ys
