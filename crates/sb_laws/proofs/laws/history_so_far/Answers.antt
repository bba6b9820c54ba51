-- At any moment a first part of all that is asked was taken, and a first part of all that is answered came back.
use Rattle.sb_laws.specs.Flows.{asked_words, given_to}
use Rattle.sb_laws.proofs.Courses.{ring_prefix_law}
use Rattle.sb_laws.proofs.Journals.{request_course, history_law}
use Rattle.sb_laws.proofs.WholeRuns.{answer_course}
use Rattle.sb_laws.proofs.laws.history_so_far.Goals as goal

pub returns-clause-history : goal.returns-clause-history
returns-clause-history c = λ network layout journal m laid now. history_law network layout journal m laid now

pub returns-clause-requests : goal.returns-clause-requests
returns-clause-requests c = λ network layout journal m laid now. ring_prefix_law network layout.requests m (asked_words network) (request_course network layout journal m laid now)

pub returns-clause-answers : goal.returns-clause-answers
returns-clause-answers c = λ network layout journal m laid now. ring_prefix_law network layout.answers m (given_to network journal) (answer_course network layout journal m laid now)
