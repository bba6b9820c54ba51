-- A pop receives by what was learnt while it looked for an item.
use Rattle.std.proofs.Common.{List, [], ◌∷◌, ◌++◌, arith, ap, subst, ◌∙◌}
use Rattle.sb_link.specs.Traffic.{MayFollow}
use Rattle.sb_packet.specs.declared.item.Item.{Item}
use Rattle.sb_link.specs.PlanOf.{plan_of}
use Rattle.sb_link.specs.declared.plan.LinkPlan.{LinkPlan}
use Rattle.sb_ring.proofs.rx.RingRxRxEnd.try_pop.Goals as goal

pub returns-clause-popped : goal.returns-clause-popped
returns-clause-popped c = let self = c.args.self.now in let item = c.receive.result in let knew = c.has_item.new.self in record {
  waited = let waits = c.has_item.ensures.waits c.if-not-has_item.false in omega (arith, waits, c.receive.ensures.learnt);
  lawful = subst (λ (before : List Item). MayFollow (plan_of self.plan) before item) c.has_item.ensures.received
      (subst (λ (plan : LinkPlan). MayFollow (plan_of plan) knew.seat.me.0.items item) c.has_item.ensures.plan c.receive.ensures.lawful);
  received = c.receive.ensures.received ∙ ap (λ (before : List Item). before ++ item ∷ []) c.has_item.ensures.received;
}
