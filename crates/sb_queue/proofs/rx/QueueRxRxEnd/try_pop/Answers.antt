-- The rule allows the pop, and the end keeps what it says of itself.
use Rattle.std.proofs.Common.{◌≡◌, List, [], ◌∷◌, ◌++◌, arith, ap, sym, subst}
use Rattle.crossbeam_queue.specs.Passes.{view}
use Rattle.sb_link.specs.Traffic.{AreInTurn}
use Rattle.sb_packet.specs.declared.item.Item.{Item}
use Rattle.sb_link.specs.PlanOf.{plan_of}
use Rattle.sb_link.proofs.InTurn.{appended_in_turn, few_before}
use Rattle.sb_queue.specs.declared.log.Log.{Log}
use Rattle.sb_queue.proofs.Relays.{may_follow, takes}
use Rattle.sb_queue.proofs.rx.QueueRxRxEnd.try_pop.Goals as goal

pub pop_as-requires-clause-rule : goal.pop_as-requires-clause-rule
pop_as-requires-clause-rule g c = let self = c.args.self.now in (takes _ _ self.pops, λ items views h at. tt)

pub invariant_of-self-clause-in_turn : goal.invariant_of-self-clause-in_turn
invariant_of-self-clause-in_turn g c = let self = c.args.self.now in let log = view self.pass in let item = c.in-Some.item in
    let may = may_follow log.plan self.plan log.received item self.planned c.in-Some.ensures.rule.0 in
    let received : (view c.pop_as.new.pass).received ≡ log.received ++ item ∷ [] = ap (λ (v : Log). v.received) c.in-Some.ensures.rule.1 in
    subst (λ (list : List Item). AreInTurn (plan_of self.plan) list) (sym received) (appended_in_turn log.received item self.in_turn may)

pub invariant_of-self-clause-few : goal.invariant_of-self-clause-few
invariant_of-self-clause-few g c = let self = c.args.self.now in let log = view self.pass in
    let may = may_follow log.plan self.plan log.received c.in-Some.item self.planned c.in-Some.ensures.rule.0 in
    omega (arith, self.counted, few_before (plan_of self.plan) log.received c.in-Some.item may)
