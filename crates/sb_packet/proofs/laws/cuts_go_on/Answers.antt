-- A message that is one part is its only one; any other is its first part and then the parts of what is left.
use Rattle.sb_packet.proofs.CutSteps.{cut_of_one, cut_of_more}
use Rattle.sb_packet.proofs.laws.cuts_go_on.Goals as goal

pub returns-clause-one : goal.returns-clause-one
returns-clause-one c = λ width m h. cut_of_one width m h

pub returns-clause-more : goal.returns-clause-more
returns-clause-more c = λ width m fits h. cut_of_more width m fits h
