-- draw: what comes of the parts that are left is what comes of all that were there.
use Rattle.std.proofs.Common.{◌≡◌, length}
use Rattle.sb_cut.specs.Folds.{fold_all}
use Rattle.sb_port.proofs.outbox.draw.Given as goal

abbrev pub invariant-loop-part : goal.invariant-loop-part
invariant-loop-part l =
    (l.cutter.width ≡ l.initial.cutter.width) × (l.merger.width ≡ l.initial.merger.width)
    × (fold_all l.initial.merger.width l.initial.merger.held l.initial.cutter.left ≡ fold_all l.merger.width l.merger.held l.cutter.left)

abbrev pub decreases-loop-part : goal.decreases-loop-part
decreases-loop-part l = length l.cutter.left
