-- A word has one command.
use Rattle.std.proofs.Common.{ap, Ok, rules}
use Rattle.sb_word.proofs.OneCommand.{one_command}
use Rattle.sb_word.proofs.codec.decode.Goals as goal

pub returns-clause-whole : goal.returns-clause-whole
returns-clause-whole c = λ d h. ap Ok (one_command c.args.word _ d (search rules) h)
