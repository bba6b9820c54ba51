-- The ends that are left are still to be put.
use Rattle.std.proofs.Common.{◌≡◌, length, map}
use Rattle.sb_net.specs.Apart.{end_places, ring_behind}
use Rattle.sb_net.proofs.PutBy.{IsPutSoFar}
use Rattle.sb_net.proofs.settling.apart.put_inlets.Given as goal

abbrev pub invariant-loop-inlet : goal.invariant-loop-inlet
invariant-loop-inlet g l = IsPutSoFar ring_behind (map (λ inlet. inlet.ring) l.initial.more.items) (end_places g.U.RxEnd l.initial.ends.items) (map (λ inlet. inlet.ring) l.more.items) (end_places g.U.RxEnd l.ends.items)

abbrev pub decreases-loop-inlet : goal.decreases-loop-inlet
decreases-loop-inlet g l = length l.more.items
