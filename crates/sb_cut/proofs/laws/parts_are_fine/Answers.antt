-- The words of all parts are the message's own, and each part of a sound whole message may go over a link of the width.
use Rattle.sb_packet.proofs.CutWords.{words_of_cut}
use Rattle.sb_packet.proofs.FineParts.{fine_cut}
use Rattle.sb_cut.proofs.Slices.{at_least_8}
use Rattle.sb_cut.proofs.laws.parts_are_fine.Goals as goal

pub returns-clause-words : goal.returns-clause-words
returns-clause-words c = λ width m. words_of_cut width m

pub returns-clause-fine : goal.returns-clause-fine
returns-clause-fine c = λ width m wide sound whole. fine_cut width m (at_least_8 width wide) sound whole
