-- try_push: there is a place for the item, and the end keeps what it says of itself.
use Rattle.std.proofs.Common.{rules, List, [], ◌∷◌, ◌++◌, arith, length-append, append_assoc, ap, sym, ◌∙◌}
use Rattle.sb_packet.specs.declared.item.Item.{Item}
use Rattle.sb_link.specs.PlanOf.{plan_of}
use Rattle.sb_link.proofs.InTurn.{appended_in_turn, few_before}
use Rattle.sb_link.proofs.serial_tx.SerialTxTxEnd.try_push.Goals as goal

pub push_back_reserved-requires : goal.push_back_reserved-requires
push_back_reserved-requires c = let self = c.args.self.now in omega (arith, self.counted, self.kept.ok.0, length-append self.handed self.kept.items)

pub overflow_add-self : goal.overflow_add-self
overflow_add-self c = let self = c.args.self.now in omega (arith, self.few, self.plan.budgeted)

pub invariant_of-self : goal.invariant_of-self
invariant_of-self c = let self = c.args.self.now in let before = self.handed ++ self.kept.items in record {
  counted = rw c.push_back_reserved.ensures.items (omega (arith, self.counted, length-append self.handed self.kept.items, length-append self.handed (self.kept.items ++ c.args.item.now ∷ []), length-append self.kept.items (c.args.item.now ∷ [])));
  known = self.known;
  within = search rules;
  room = search rules;
  in_turn = rw (c.push_back_reserved.ensures.items, ← append_assoc) (appended_in_turn before c.args.item.now self.in_turn c.requires.lawful);
  few = omega (arith, self.counted, few_before (plan_of self.plan) before c.args.item.now c.requires.lawful);
}

-- what is published has the item at its end
pub returns-clause-published : goal.returns-clause-published
returns-clause-published c = let self = c.args.self.now in let item = c.args.item.now in record {
  rest = item ∷ [];
  joined = append_assoc self.handed self.kept.items (item ∷ []) ∙ sym (ap (λ (kept : List Item). self.handed ++ kept) c.push_back_reserved.ensures.items);
}
