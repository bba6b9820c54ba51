-- allows: the flow that was found has a place among the bits.
use Rattle.std.proofs.Common.{arith, ap, ◌∙◌, false}
use Rattle.std.specs.Prelude.{Option}
use Rattle.std.specs.Option.{option_map_or}
use Rattle.sb_packet.specs.Messages.{message_of}
use Rattle.sb_link.specs.RingPlans.{NetFlow, goes_through}
use Rattle.sb_link.specs.Plans.{flow_of}
use Rattle.sb_link.specs.PlanOf.{flows_of}
use Rattle.sb_link.proofs.MessageFlows.{device_count, flow_bit, flow_within}
use Rattle.sb_link.proofs.flows.Flows.allows.Goals as goal

pub overflow_shr-result : goal.overflow_shr-result
overflow_shr-result c = let self = c.args.self.now in let within = flow_within (flows_of self) (message_of c.args.p.now) (flow_of c.in-Some.flow) c.in-Some.ensures.flow in
    omega (arith, within.1, device_count self, self.counted)

pub returns-in-Some : goal.returns-in-Some
returns-in-Some c = let self = c.args.self.now in let flow = c.in-Some.flow in let within = flow_within (flows_of self) (message_of c.args.p.now) (flow_of flow) c.in-Some.ensures.flow in
    record {
      allowed = rw c.from.ensures (flow_bit self flow (omega (arith, within.0, c.args.p.now.cmd.host_fits)) (omega (arith, within.1, device_count self, self.counted)))
          ∙ ap (λ (f : Option NetFlow). option_map_or (goes_through (flows_of self)) f false) c.in-Some.ensures.flow;
    }
