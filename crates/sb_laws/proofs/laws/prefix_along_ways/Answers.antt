-- What comes of a flow by each ring of its way begins its source.
use Rattle.sb_laws.proofs.Courses.{ring_prefix_law}
use Rattle.sb_laws.proofs.laws.prefix_along_ways.Goals as goal

pub returns : goal.returns
returns c = record { begins = λ network course m source keeps r. ring_prefix_law network course m source keeps r }
