-- Where all rings have given their Close, the run is whole.
use Rattle.sb_laws.proofs.WholeRuns.{whole_run_law}
use Rattle.sb_laws.proofs.laws.run_is_whole.Goals as goal

pub returns : goal.returns
returns c = record { whole = λ network layout journal m laid now ended. whole_run_law network layout journal m laid now ended.there ended.back }
