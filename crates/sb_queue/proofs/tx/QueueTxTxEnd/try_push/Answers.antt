-- The rule allows the push, and the end keeps what it says of itself.
use Rattle.std.proofs.Common.{◌≡◌, List, [], ◌∷◌, ◌++◌, arith, ap, sym, subst}
use Rattle.crossbeam_queue.specs.Passes.{view}
use Rattle.sb_link.specs.Prefixes.{IsPrefix, begins_itself}
use Rattle.sb_link.specs.Traffic.{AreInTurn}
use Rattle.sb_packet.specs.declared.item.Item.{Item}
use Rattle.sb_link.specs.PlanOf.{plan_of}
use Rattle.sb_link.proofs.InTurn.{appended_in_turn, few_before}
use Rattle.sb_queue.specs.declared.log.Log.{Log}
use Rattle.sb_queue.proofs.Relays.{few_held, follows_by, puts}
use Rattle.sb_queue.proofs.tx.QueueTxTxEnd.try_push.Goals as goal

pub push_as-requires-clause-rule : goal.push_as-requires-clause-rule
push_as-requires-clause-rule g c = let self = c.args.self.now in let log = view self.pass in
    (puts _ _ _ c.args.item.now self.pushes (follows_by log.plan self.plan log.sent c.args.item.now self.planned c.requires.lawful), few_held _ _ self.pushes)

pub invariant_of-self-clause-in_turn : goal.invariant_of-self-clause-in_turn
invariant_of-self-clause-in_turn g c = let self = c.args.self.now in let log = view self.pass in let item = c.args.item.now in
    let sent : (view c.push_as.new.pass).sent ≡ log.sent ++ item ∷ [] = ap (λ (v : Log). v.sent) c.in-Ok.ensures.rule in
    subst (λ (list : List Item). AreInTurn (plan_of self.plan) list) (sym sent) (appended_in_turn log.sent item self.in_turn c.requires.lawful)

pub invariant_of-self-clause-few : goal.invariant_of-self-clause-few
invariant_of-self-clause-few g c = let self = c.args.self.now in omega (arith, self.counted, few_before (plan_of self.plan) (view self.pass).sent c.args.item.now c.requires.lawful)

-- a queue that was full has what it had
pub returns-in-Err-clause-published : goal.returns-in-Err-clause-published
returns-in-Err-clause-published g c = let log = view c.args.self.now.pass in
    let same : (view c.push_as.new.pass).sent ≡ log.sent = ap (λ (v : Log). v.sent) c.in-Err.ensures.rule.1 in
    subst (λ (sent : List Item). IsPrefix log.sent sent) (sym same) (begins_itself log.sent)
