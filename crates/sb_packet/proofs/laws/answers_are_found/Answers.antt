-- Where no two reply addresses are the same, each access finds its own answer; a run over joined lists is one and then the other.
use Rattle.sb_packet.proofs.FoundAnswers.{answers_found, apart_from_rising, answers_in-append, memory_after-append}
use Rattle.sb_packet.proofs.laws.answers_are_found.Goals as goal

pub returns-clause-found : goal.returns-clause-found
returns-clause-found c = λ m list apart. answers_found m list apart

pub returns-clause-rising : goal.returns-clause-rising
returns-clause-rising c = λ m list rise. answers_found m list (apart_from_rising list rise)

pub returns-clause-answers : goal.returns-clause-answers
returns-clause-answers c = λ m xs ys. answers_in-append m xs ys

pub returns-clause-memory : goal.returns-clause-memory
returns-clause-memory c = λ m xs ys. memory_after-append m xs ys
