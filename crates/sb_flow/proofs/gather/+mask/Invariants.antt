-- The flows that are left.
use Rattle.std.proofs.Common.{length}
use Rattle.sb_flow.proofs.gather.+mask.Given as goal

abbrev pub decreases-mask : goal.decreases-mask
decreases-mask l = length l.flows.now
