-- flow: the flows are those of the ring's plan.
use Rattle.std.proofs.Common.{ap, ◌∙◌}
use Rattle.sb_packet.specs.Messages.{message_of}
use Rattle.sb_link.specs.RingPlans.{RingPlan, message_flow}
use Rattle.sb_router.specs.Lanes.{InletState}
use Rattle.sb_router.proofs.inlet.Inlet.flow.Goals as goal

pub returns : goal.returns
returns g c = let m = message_of c.args.packet.now in record {
  flow = c.flow.ensures.flow ∙ ap (λ (plan : RingPlan). message_flow plan.flows m) c.plan.ensures.plan ∙ ap (λ (x : InletState). message_flow x.ring.plan.flows m) c.self.view_is;
}
