-- What the two ends of a ring know of each other once they have met.
use Rattle.std.proofs.Common.{arith}
use Rattle.sb_laws.proofs.laws.learnt_counts_are_true.Goals as goal

pub returns-clause-full : goal.returns-clause-full
returns-clause-full c = λ capacity sent received taken known met full. let some = met.some in let behind = met.met_taken in omega arith

pub returns-clause-empty : goal.returns-clause-empty
returns-clause-empty c = λ capacity sent received taken known met empty. let ahead = met.met_known in omega arith
