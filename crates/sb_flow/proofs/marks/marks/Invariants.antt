-- The links of the legs so far are marked.
use Rattle.std.proofs.Common.{◌≡◌, take}
use Rattle.sb_flow.proofs.LinkMarks.{marks_in}
use Rattle.sb_flow.proofs.marks.marks.Given as goal

abbrev pub invariant-loop-leg : goal.invariant-loop-leg
invariant-loop-leg l = l.on.items ≡ marks_in l.links (take l.leg-index l.legs)
