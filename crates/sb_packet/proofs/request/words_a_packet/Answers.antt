-- The words of a packet fill its 32 bytes exactly, and there are at least 4.
use Rattle.sb_packet.proofs.PacketsOfTransactions.{words_fill, words_are_some}
use Rattle.sb_packet.proofs.request.words_a_packet.Goals as goal

pub returns-clause-full : goal.returns-clause-full
returns-clause-full c = rw (c.from.ensures, c.requires.limit) (words_fill c.args.size c.requires.size)

pub returns-clause-some : goal.returns-clause-some
returns-clause-some c = rw (c.from.ensures, c.requires.limit) (words_are_some c.args.size c.requires.size)
