-- cut_and_join: no part is left between two packets, and each part fits the merger.
use Rattle.std.proofs.Common.{◌≡◌, ◌≤◌, []}
use Rattle.sb_cut.proofs.tests.cut_and_join.Given as goal

abbrev pub invariant-loop-k : goal.invariant-loop-k
invariant-loop-k l = (l.cutter.left ≡ []) × (l.cutter.width ≤ l.merger.width)
