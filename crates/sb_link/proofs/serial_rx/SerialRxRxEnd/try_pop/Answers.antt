-- try_pop: the item that waited goes from the front of those that wait to the end of those that were received.
use Rattle.std.proofs.Common.{rules, sym, ap, subst, ◌≡◌, ◌≤◌, ◌+◌, List, [], ◌∷◌, ◌++◌, length, arith, length-append, append_assoc}
use Rattle.sb_link.specs.Traffic.{AreInTurn}
use Rattle.sb_packet.specs.declared.item.Item.{Item}
use Rattle.sb_link.specs.PlanOf.{plan_of}
use Rattle.sb_link.proofs.serial_rx.SerialRxRxEnd.try_pop.Goals as goal

pub overflow_add-self : goal.overflow_add-self
overflow_add-self c = let self = c.args.self.now in let item = c.in-Some.item in let rest = c.pop_front.new.self.items in
    let few : length (self.received ++ item ∷ rest) ≤ self.plan.budget + 1 = rw (← c.in-Some.ensures.items) self.few in
    omega (arith, self.counted, few, self.plan.budgeted, length-append self.received (item ∷ rest))

pub invariant_of-self : goal.invariant_of-self
invariant_of-self c = let self = c.args.self.now in let item = c.in-Some.item in let rest = c.pop_front.new.self.items in
    let same : c.add.new.self ++ rest ≡ self.received ++ self.waiting.items = rw (c.add.ensures.added, c.in-Some.ensures.items) (append_assoc self.received (item ∷ []) rest) in
    record {
      counted = rw c.add.ensures.added (omega (arith, self.counted, length-append self.received (item ∷ [])));
      known = omega (arith, self.known);
      room = search rules;
      in_turn = subst (λ (list : List Item). AreInTurn (plan_of self.plan) list) (sym same) self.in_turn;
      few = subst (λ (list : List Item). length list ≤ self.plan.budget + 1) (sym same) self.few;
    }

pub returns-in-Some-clause-popped : goal.returns-in-Some-clause-popped
returns-in-Some-clause-popped c = let self = c.args.self.now in let item = c.in-Some.item in let rest = c.pop_front.new.self.items in
    record {
      waited = rw c.add.ensures.added (omega (arith, length-append (self.received ++ item ∷ []) rest, length-append self.received (item ∷ [])));
      lawful = self.in_turn self.received rest item (ap (λ (list : List Item). self.received ++ list) c.in-Some.ensures.items);
      received = c.add.ensures.added;
    }
