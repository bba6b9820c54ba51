-- Each leg marks its link.
use Rattle.std.proofs.Common.{sym, ◌∙◌}
use Rattle.sb_flow.proofs.LinkMarks.{marks_in-nil, marks_in-more, marks_in-all}
use Rattle.sb_flow.proofs.marks.marks.Goals as goal

pub loop-leg-init : goal.loop-leg-init
loop-leg-init c = c.in_ok-on.ensures.items_if_clones_equal (λ y e. e) ∙ sym (marks_in-nil c.args.links)

pub loop-leg-preserved : goal.loop-leg-preserved
loop-leg-preserved c = marks_in-more c.args.links c.loop-leg.leg-index c.from.result c.args.legs.now _ c.loop-leg.on.items _ c.loop-leg-test.true c.from.ensures c.loop-leg.invariant c.mark.ensures

pub returns : goal.returns
returns c = marks_in-all c.args.links c.loop-leg.leg-index c.args.legs.now c.loop-leg.on.items c.loop-leg-test.false c.loop-leg.invariant
