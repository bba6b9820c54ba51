-- The ends of the legs that are not left were taken.
use Rattle.std.proofs.Common.{length}
use Rattle.sb_router.proofs.Legs.{TakenSoFar}
use Rattle.sb_router.proofs.ends.ends_out.Given as goal

abbrev pub invariant-loop-legs : goal.invariant-loop-legs
invariant-loop-legs g l = TakenSoFar g.F.Tx.TxEnd g.F.Rx.RxEnd (λ leg. leg.answers) (λ leg. leg.requests) l.fn.legs.items l.legs.items (l.ends.inlets.items) (l.ends.outlets.items)

abbrev pub decreases-loop-legs : goal.decreases-loop-legs
decreases-loop-legs g l = length l.legs.items
