-- A word has one command, and no fault.
use Rattle.sb_word.proofs.OneCommand.{one_command}
use Rattle.sb_word.proofs.WordLaws.{word_of-IsWordOf, word_fault-IsWordOf}
use Rattle.sb_word.proofs.laws.words_are_exact.Goals as goal

pub returns-clause-one_command : goal.returns-clause-one_command
returns-clause-one_command c = one_command

pub returns-clause-one_word : goal.returns-clause-one_word
returns-clause-one_word c = word_of-IsWordOf

pub returns-clause-faultless : goal.returns-clause-faultless
returns-clause-faultless c = word_fault-IsWordOf
