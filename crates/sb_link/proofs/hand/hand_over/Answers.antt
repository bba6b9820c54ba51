-- hand_over: while items are handed over, and when both ends are told, they keep what they say of themselves.
use Rattle.std.proofs.Common.{rules, refl, sym, ap, ◌∙◌, subst, ◌≡◌, ◌+◌, ◌≤◌, ◌++◌, length, List, [], ◌∷◌, arith, length-append, append_assoc}
use Rattle.sb_link.specs.RingPlans.{RingPlan}
use Rattle.sb_link.specs.Traffic.{AreInTurn, front_in_turn}
use Rattle.sb_packet.specs.declared.item.Item.{Item}
use Rattle.sb_link.specs.PlanOf.{plan_of}
use Rattle.sb_link.proofs.hand.hand_over.Goals as goal

pub invariant_of-tx : goal.invariant_of-tx
invariant_of-tx c = let tx = c.loop-item.tx in let item = c.in-Some.item in let rest = c.pop_front.new.self.items in
    let same : c.add.new.self ++ rest ≡ tx.handed ++ tx.kept.items = rw (c.add.ensures.added, c.in-Some.ensures.items) (append_assoc tx.handed (item ∷ []) rest) in
    record {
      counted = rw same tx.counted;
      known = rw c.add.ensures.added (omega (arith, tx.known, length-append tx.handed (item ∷ [])));
      within = tx.within;
      room = search rules;
      in_turn = subst (λ (list : List Item). AreInTurn (plan_of tx.plan) list) (sym same) tx.in_turn;
      few = tx.few;
    }

pub invariant_of-rx : goal.invariant_of-rx
invariant_of-rx c = let tx = c.loop-item.tx in let rx = c.loop-item.rx in let item = c.in-Some.item in let rest = c.pop_front.new.self.items in
    let plans : plan_of tx.plan ≡ plan_of rx.plan = ap plan_of c.loop-item.invariant.tx_plan ∙ c.requires.plan ∙ sym (ap plan_of c.loop-item.invariant.rx_plan) in
    let same : rx.received ++ c.push_back_reserved.new.self.items ≡ tx.handed ++ item ∷ [] =
    rw (c.push_back_reserved.ensures.items, c.loop-item.invariant.handed) (sym (append_assoc rx.received rx.waiting.items (item ∷ []))) in
    let whole : tx.handed ++ tx.kept.items ≡ (tx.handed ++ item ∷ []) ++ rest = rw c.in-Some.ensures.items (sym (append_assoc tx.handed (item ∷ []) rest)) in
    let front : AreInTurn (plan_of tx.plan) (tx.handed ++ item ∷ []) =
    front_in_turn (tx.handed ++ item ∷ []) rest (subst (λ (list : List Item). AreInTurn (plan_of tx.plan) list) whole tx.in_turn) in
    let budgets : tx.plan.budget ≡ rx.plan.budget = ap (λ (plan : RingPlan). plan.budget) plans in
    let many : length ((tx.handed ++ item ∷ []) ++ rest) ≤ tx.plan.budget + 1 = rw (← whole) (omega (arith, tx.counted, tx.few)) in
    record {
      counted = rx.counted;
      known = rx.known;
      room = search rules;
      in_turn = subst (λ (list : List Item). AreInTurn (plan_of rx.plan) list) (sym same) (subst (λ (plan : RingPlan). AreInTurn plan (tx.handed ++ item ∷ [])) plans front);
      few = rw same (omega (arith, many, budgets, length-append (tx.handed ++ item ∷ []) rest));
    }

pub invariant_of-tx-2 : goal.invariant_of-tx-2
invariant_of-tx-2 c = let tx = c.loop-item.tx in let rx = c.loop-item.rx in
    let same : tx.handed ++ c.pop_front.new.self.items ≡ tx.handed ++ tx.kept.items = rw c.in_default.ensures.items refl in
    let told : tx.taken ≤ rx.taken = omega (arith, rx.known, c.loop-item.invariant.tx_taken, c.loop-item.invariant.rx_told, c.requires.told) in
    record {
      counted = rw same tx.counted;
      known = rw c.loop-item.invariant.handed (omega (arith, rx.counted, length-append rx.received rx.waiting.items));
      within = omega (arith, tx.within, told);
      room = search rules;
      in_turn = subst (λ (list : List Item). AreInTurn (plan_of tx.plan) list) (sym same) tx.in_turn;
      few = tx.few;
    }
