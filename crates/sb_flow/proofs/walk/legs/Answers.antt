-- Each turn takes one link more, until none is next.
use Rattle.std.proofs.Common.{◌+◌, ◌-◌, sym, ◌∙◌}
use Rattle.sb_flow.specs.NetworkOf.{network_of}
use Rattle.sb_flow.proofs.Walks.{legs_with-None, legs_with-more}
use Rattle.sb_flow.proofs.walk.legs.Goals as goal

pub returns-in_default : goal.returns-in_default
returns-in_default c = sym (legs_with-None c.loop.legs.items (c.len-end.result + 1 - c.loop.counter) (network_of c.args.bundle.now) c.args.device) ∙ (rw c.in_default.is at c.loop.invariant)

pub loop-preserved : goal.loop-preserved
loop-preserved c = legs_with-more (network_of c.args.bundle.now) c.args.device (c.len-end.result + 1) c.loop.counter c.in-Some.link _ c.loop.legs.items _ c.leg-leg.result c.loop.next _ c.loop-test.true c.in-Some.is c.leg-leg.ensures c.in_ok-push.ensures.items c.next_link-next.ensures c.loop.invariant
