-- A push sends by what was learnt while it looked for room.
use Rattle.std.proofs.Common.{List, sym, subst, ◌∙◌}
use Rattle.sb_link.specs.Ends.{Pushed}
use Rattle.sb_link.specs.Prefixes.{IsPrefix}
use Rattle.sb_link.specs.Traffic.{MayFollow}
use Rattle.sb_packet.specs.declared.item.Item.{Item}
use Rattle.sb_link.specs.PlanOf.{plan_of}
use Rattle.sb_link.specs.declared.plan.LinkPlan.{LinkPlan}
use Rattle.sb_ring.specs.Rule.{sent_of}
use Rattle.sb_ring.proofs.Ends.{published_more}
use Rattle.sb_ring.proofs.tx.RingTxTxEnd.try_push.Goals as goal

pub returns-then-not-has_room-clause-pushed : goal.returns-then-not-has_room-clause-pushed
returns-then-not-has_room-clause-pushed c = let self = c.args.self.now in let item = c.args.item.now in let knew = c.has_room.new.self in let after = c.refuse.new.self.seat.me.0 in
    subst (λ (sent : List Item). Pushed self.plan.capacity sent item (sent_of after) after.learnt c.refuse.result) c.has_room.ensures.sent
    (subst (λ (plan : LinkPlan). Pushed plan.capacity (sent_of knew.seat.me.0) item (sent_of after) after.learnt c.refuse.result) c.has_room.ensures.plan (c.refuse.ensures.full item))

pub send-requires-clause-lawful : goal.send-requires-clause-lawful
send-requires-clause-lawful c = let self = c.args.self.now in let item = c.args.item.now in let knew = c.has_room.new.self in
    subst (λ (sent : List Item). MayFollow (plan_of knew.plan) sent item) (sym c.has_room.ensures.sent)
    (subst (λ (plan : LinkPlan). MayFollow (plan_of plan) (sent_of self.seat.me.0) item) (sym c.has_room.ensures.plan) c.requires.lawful)

-- a refusal publishes what stood ahead
pub returns-then-not-has_room-clause-published : goal.returns-then-not-has_room-clause-published
returns-then-not-has_room-clause-published c =
    published_more c.args.self.now.seat.me c.refuse.new.self.seat.me c.refuse.ensures.published (c.refuse.ensures.sent ∙ c.has_room.ensures.sent)

pub returns-clause-published : goal.returns-clause-published
returns-clause-published c =
    subst (λ (items : List Item). IsPrefix items c.send.new.self.seat.me.0.items) c.has_room.ensures.published c.send.ensures.published
