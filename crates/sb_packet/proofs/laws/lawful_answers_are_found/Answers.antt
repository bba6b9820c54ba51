-- In a lawful journal no two words of a device are answered at one address, so each finds the answer that the device gave.
use Rattle.sb_packet.specs.Journals.{journal_accesses}
use Rattle.sb_packet.specs.Networks.{opening_memory}
use Rattle.sb_packet.proofs.FoundAnswers.{answers_found}
use Rattle.sb_packet.proofs.LawfulReplies.{lawful_replies_differ}
use Rattle.sb_packet.proofs.laws.lawful_answers_are_found.Goals as goal

pub returns-clause-differ : goal.returns-clause-differ
returns-clause-differ c = λ network journal transactions few lawful d. lawful_replies_differ network journal transactions few lawful d

pub returns-clause-found : goal.returns-clause-found
returns-clause-found c = λ network journal transactions few lawful d.
    answers_found (opening_memory network d) (journal_accesses journal d) (lawful_replies_differ network journal transactions few lawful d)
