-- The masks of the ids so far, in 32 places.
use Rattle.std.proofs.Common.{◌≡◌, ◌<◌, ℕ, get_or, length}
use Rattle.sb_flow.specs.Gathered.{flows_from, mask_of}
use Rattle.sb_flow.proofs.gather.through.Given as goal

abbrev pub invariant-loop-id : goal.invariant-loop-id
invariant-loop-id l = (length l.through ≡ 32) × ((k : ℕ) → k < l.id → get_or l.through k 0 ≡ mask_of l.link (flows_from l.hosts k))
