-- An item that was received keeps what the end says of itself.
use Rattle.std.proofs.Common.{◌≡◌, List, [], ◌∷◌, ◌++◌, arith, length, ap, sym, subst, ◌∙◌}
use Rattle.sb_link.specs.Traffic.{AreInTurn, MayFollow}
use Rattle.sb_packet.specs.declared.item.Item.{Item}
use Rattle.sb_link.specs.PlanOf.{plan_of}
use Rattle.sb_link.proofs.InTurn.{appended_in_turn, few_before}
use Rattle.sb_ring.proofs.Ends.{RingMe, may_follow, one_more, seat_after}
use Rattle.sb_ring.proofs.rx.RingRx.receive.Goals as goal

pub invariant_of-self : goal.invariant_of-self
invariant_of-self c = let self = c.args.self.now in let me = self.seat.me in let item = c.store_head-item.result in let loaded = c.load_slot-slot.new.seat.me in
    let e = seat_after me loaded c.store_head-item.new.seat.me c.load_slot-slot.result item c.load_slot-slot.ensures.loaded c.store_head-item.ensures.received in
    let planned = ap (λ (m : RingMe). m.0.plan) c.load_slot-slot.ensures.loaded ∙ self.planned in
    let lawful : MayFollow (plan_of self.plan) me.0.items item =
    subst (λ (m : RingMe). MayFollow (plan_of self.plan) m.0.items item) c.load_slot-slot.ensures.loaded (may_follow loaded.0.plan self.plan loaded.0.items item planned c.store_head-item.ensures.lawful) in
    let items : c.store_head-item.new.seat.me.0.items ≡ me.0.items ++ item ∷ [] = ap (λ (m : RingMe). m.0.items) e in
    let longer = ap length items ∙ one_more me.0.items item in
    record {
      of_table = c.store_head-item.ensures.table ∙ c.load_slot-slot.ensures.table ∙ self.of_table;
      size = self.size;
      ruled = self.ruled;
      role = ap (λ (m : RingMe). m.0.role) e ∙ self.role;
      planned = ap (λ (m : RingMe). m.0.plan) e ∙ self.planned;
      between = ap (λ (m : RingMe). m.0.part) e;
      counted = omega (arith, self.counted, longer);
      learnt = self.learnt ∙ sym (ap (λ (m : RingMe). m.0.learnt) e);
      received_were_known = omega (arith, self.counted, self.learnt, c.requires.waits);
      in_turn = subst (λ (list : List Item). AreInTurn (plan_of self.plan) list) (sym items) (appended_in_turn me.0.items item self.in_turn lawful);
      few = omega (arith, self.counted, few_before (plan_of self.plan) me.0.items item lawful);
    }
