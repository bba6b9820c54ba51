-- An item that was sent keeps what the end says of itself, whether it was published or not.
use Rattle.std.proofs.Common.{◌≡◌, List, [], ◌∷◌, ◌++◌, arith, length, ap, sym, subst, ◌∙◌}
use Rattle.sb_link.specs.Prefixes.{IsPrefix, begins_itself}
use Rattle.sb_link.specs.Traffic.{AreInTurn, MayFollow}
use Rattle.sb_packet.specs.declared.item.Item.{Item}
use Rattle.sb_link.specs.PlanOf.{plan_of}
use Rattle.sb_link.specs.declared.plan.LinkPlan.{LinkPlan}
use Rattle.sb_link.proofs.InTurn.{appended_in_turn, few_before}
use Rattle.sb_ring.specs.Plays.{with_ahead, with_published}
use Rattle.sb_ring.specs.Rule.{sent_of}
use Rattle.sb_ring.proofs.Ends.{RingMe, one_more, sent_more, sent_same}
use Rattle.sb_ring.proofs.tx.RingTx.send.Goals as goal

pub store_item-requires-clause-lawful : goal.store_item-requires-clause-lawful
store_item-requires-clause-lawful c = let self = c.args.self.now in let here = c.deref-table.ensures in let ruled = self.ruled in
    let key : c.deref-table.result.now.shared.key ≡ self.plan = cc (here, ruled) in
    subst (λ (plan : LinkPlan). MayFollow (plan_of plan) (sent_of self.seat.me.0) c.args.item.now) (sym key) c.requires.lawful

-- the item is kept back
pub invariant_of-self : goal.invariant_of-self
invariant_of-self c = let self = c.args.self.now in let me = self.seat.me in let item = c.args.item.now in let e = c.store_item.ensures.sent in
    let items = sent_more me c.store_item.new.seat.me item e in
    let longer = ap length items ∙ one_more (sent_of me.0) item in
    record {
      of_table = c.store_item.ensures.table ∙ self.of_table;
      size = self.size;
      ruled = self.ruled;
      role = ap (λ (m : RingMe). m.0.role) e ∙ self.role;
      planned = ap (λ (m : RingMe). m.0.plan) e ∙ self.planned;
      between = ap (λ (m : RingMe). m.0.part) e;
      counted = omega (arith, self.counted, longer);
      counted_ahead = omega (arith, self.counted_ahead, ap (λ (m : RingMe). length m.0.ahead) e, one_more me.0.ahead item);
      learnt = self.learnt ∙ sym (ap (λ (m : RingMe). m.0.learnt) e);
      taken_were_sent = omega (arith, self.taken_were_sent);
      within = omega (arith, self.counted, self.learnt, c.requires.room);
      in_turn = subst (λ (list : List Item). AreInTurn (plan_of self.plan) list) (sym items) (appended_in_turn (sent_of me.0) item self.in_turn c.requires.lawful);
      few = omega (arith, self.counted, few_before (plan_of self.plan) (sent_of me.0) item c.requires.lawful);
      batch = c.is_due.ensures.batch c.if-not-is_due.true;
      batch_fits = c.is_due.ensures.batch_fits c.if-not-is_due.true;
    }

-- the item is published
pub invariant_of-self-2 : goal.invariant_of-self-2
invariant_of-self-2 c = let self = c.args.self.now in let me = self.seat.me in let item = c.args.item.now in let stored = c.store_item.new.seat.me in let after = c.store_tail.new.seat.me in
    let more = sent_more me stored item c.store_item.ensures.sent in
    let e : after ≡ (with_published (with_ahead me.0 item), me.1) = c.store_tail.ensures.published ∙ ap (λ (m : RingMe). (with_published m.0, m.1)) c.store_item.ensures.sent in
    let items = sent_same stored after c.store_tail.ensures.published ∙ more in
    let longer = ap length items ∙ one_more (sent_of me.0) item in
    record {
      of_table = c.store_tail.ensures.table ∙ c.store_item.ensures.table ∙ self.of_table;
      size = self.size;
      ruled = self.ruled;
      role = ap (λ (m : RingMe). m.0.role) e ∙ self.role;
      planned = ap (λ (m : RingMe). m.0.plan) e ∙ self.planned;
      between = ap (λ (m : RingMe). m.0.part) e;
      counted = omega (arith, self.counted, longer);
      counted_ahead = sym (ap (λ (m : RingMe). length m.0.ahead) e);
      learnt = self.learnt ∙ sym (ap (λ (m : RingMe). m.0.learnt) e);
      taken_were_sent = omega (arith, self.taken_were_sent);
      within = omega (arith, self.counted, self.learnt, c.requires.room);
      in_turn = subst (λ (list : List Item). AreInTurn (plan_of self.plan) list) (sym items) (appended_in_turn (sent_of me.0) item self.in_turn c.requires.lawful);
      few = omega (arith, self.counted, few_before (plan_of self.plan) (sent_of me.0) item c.requires.lawful);
      batch = omega arith;
      batch_fits = omega (arith, self.batch_fits);
    }

-- nothing more is published
pub returns-then-not-is_due-clause-published : goal.returns-then-not-is_due-clause-published
returns-then-not-is_due-clause-published c = let me = c.args.self.now.seat.me in
    subst (λ (items : List Item). IsPrefix me.0.items items) (sym (ap (λ (m : RingMe). m.0.items) c.store_item.ensures.sent)) (begins_itself me.0.items)

-- what stood ahead is published, and the item behind it
pub returns-clause-published : goal.returns-clause-published
returns-clause-published c = let me = c.args.self.now.seat.me in let item = c.args.item.now in
    let e : c.store_tail.new.seat.me ≡ (with_published (with_ahead me.0 item), me.1) =
    c.store_tail.ensures.published ∙ ap (λ (m : RingMe). (with_published m.0, m.1)) c.store_item.ensures.sent in
    record { rest = me.0.ahead ++ item ∷ []; joined = sym (ap (λ (m : RingMe). m.0.items) e) }
