-- passes: what was asked one after another is what the definition asks.
use Rattle.std.proofs.Common.{◌≡◌, ap, subst, ◌∙◌, arith}
use Rattle.sb_packet.specs.Messages.{message_of}
use Rattle.sb_link.specs.RingPlans.{RingPlan}
use Rattle.sb_link.specs.Traffic.{IsPlanned}
use Rattle.sb_link.specs.PlanOf.{plan_of}
use Rattle.sb_port.specs.Ports.{PortSide}
use Rattle.sb_port.proofs.port.OutPort.passes.Goals as goal

pub returns-clause-yes : goal.returns-clause-yes
returns-clause-yes g c =
    let port = c.args.self.now in
    let message = message_of c.args.packet.now in
    let here : plan_of c.plan-plan.result.now ≡ port.plan = c.plan-plan.ensures.plan ∙ ap (λ (p : PortSide). p.plan) c.self.view_is in
    let budget : c.plan-plan.result.now.budget ≡ port.plan.budget = ap (λ (p : RingPlan). p.budget) here in
    let words_offered : c.self.inside.words_offered ≡ port.state.words_offered = ap (λ (p : PortSide). p.state.words_offered) c.self.view_is in
    λ passed. record {
      sound = c.is_sound.ensures.yes c.if-not-is_sound.false;
      planned = subst (λ (p : RingPlan). IsPlanned p message) here (c.is_planned.ensures.yes c.if-not-is_planned.false);
      room = omega (arith, c.if-self-word_count.false, budget, words_offered, c.word_count.ensures.words, c.requires.fit.counted);
    }
