-- hand_over: the widths stay, and fewer parts are left each time.
use Rattle.std.proofs.Common.{◌≡◌, length}
use Rattle.sb_cut.proofs.tests.hand_over.Given as goal

abbrev pub invariant-loop-part : goal.invariant-loop-part
invariant-loop-part l = (l.cutter.width ≡ l.initial.cutter.width) × (l.merger.width ≡ l.initial.merger.width)

abbrev pub decreases-loop-part : goal.decreases-loop-part
decreases-loop-part l = length l.cutter.left
