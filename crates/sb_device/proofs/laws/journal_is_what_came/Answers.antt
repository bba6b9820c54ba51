-- By the packets, one after another.
use Rattle.sb_device.proofs.Orders.{words_that_came, words_of_device}
use Rattle.sb_device.proofs.laws.journal_is_what_came.Goals as goal

pub returns-clause-words : goal.returns-clause-words
returns-clause-words c = words_that_came

pub returns-clause-device : goal.returns-clause-device
returns-clause-device c = words_of_device
