-- Whatever is dropped, what comes of a flow is its source with some left out.
use Rattle.sb_laws.proofs.Courses.{subsequence_law}
use Rattle.sb_laws.proofs.laws.subsequence_along_ways.Goals as goal

pub returns : goal.returns
returns c = record { picks = λ network course m source keeps r. subsequence_law network course m source keeps r }
