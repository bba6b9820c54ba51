-- The packet may follow, and what is counted stays counted.
use Rattle.std.proofs.Common.{◌≡◌, arith, subst, ap, refl}
use Rattle.sb_link.specs.RingPlans.{RingPlan}
use Rattle.sb_packet.specs.declared.item.Item.TheVariants as items
use Rattle.sb_packet.specs.Messages.{message_of}
use Rattle.sb_packet.specs.declared.packet.Packet.{Packet}
use Rattle.sb_link.specs.Traffic.{IsCarriable}
use Rattle.sb_link.proofs.Pushes.{open_after, words_after, packet_words}
use Rattle.sb_link_tests.proofs.sender.Sender.push.Goals as goal

pub try_push-requires : goal.try_push-requires
try_push-requires g c = record {
  lawful = record {
    unclosed = c.args.self.now.unclosed c.if-self.false;
    fit = λ p same. let is : c.args.packet.now ≡ p = cc in subst (λ (p : Packet). IsCarriable (g.T.TxEnd.planned c.args.self.now.tx) (message_of p)) is (subst (λ (plan : RingPlan). IsCarriable plan (message_of c.args.packet.now)) c.plan-plan.ensures.plan (c.if-not-carries.ensures.carriable refl));
    room = let budget : c.plan-plan.result.now.budget ≡ (g.T.TxEnd.planned c.args.self.now.tx).budget = ap (λ (plan : RingPlan). plan.budget) c.plan-plan.ensures.plan in omega (arith, budget, c.if-sum-from.false, c.from.ensures, c.from-2.ensures, c.from-else-self.ensures, c.word_count-words.ensures, packet_words c.args.packet.now, c.args.self.now.counted);
  };
}

pub invariant_of-self : goal.invariant_of-self
invariant_of-self g c = record {
  unclosed = λ e. open_after _ _ _ _ c.args.packet.now c.try_push.result c.try_push.ensures.pushed (c.args.self.now.unclosed e);
  counted = let more = words_after _ _ _ _ (items.Packet c.args.packet.now) c.try_push.result c.try_push.ensures.pushed in omega (arith, more, c.args.self.now.counted, packet_words c.args.packet.now, c.word_count-words.ensures);
}
