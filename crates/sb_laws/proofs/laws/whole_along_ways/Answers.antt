-- Where all rings have given their Close, each has carried all of each of its flows.
use Rattle.sb_laws.proofs.Courses.{ring_whole_law}
use Rattle.sb_laws.proofs.laws.whole_along_ways.Goals as goal

pub returns : goal.returns
returns c = record { carries = λ network course m source keeps ended r. ring_whole_law network course m source keeps ended r }
