-- A table of zeros meets the rule: nothing went over the ring, and there is no consumer yet.
use Rattle.std.proofs.Common.{◌≡◌, ℕ, ◌+◌, ◌*◌, [], length, get_or, ◌∙◌, ap, sym, subst, List}
use Rattle.std.proofs.lemmas.List.{length-replicate}
use Rattle.std.proofs.Math.ListN.{replicate}
use Rattle.std.specs.Prelude.{Some}
use Rattle.sb_slot.specs.Slots.{slot_of}
use Rattle.sb_link.specs.Traffic.{AreInTurn}
use Rattle.sb_packet.specs.declared.item.Item.{Item}
use Rattle.sb_link.specs.PlanOf.{plan_of}
use Rattle.sb_link.proofs.InTurn.{nothing_in_turn}
use Rattle.sb_ring.specs.Layout.{slot_width, slots_word}
use Rattle.sb_ring.specs.Sending.{MaySend}
use Rattle.sb_ring.specs.Rule.{sent_of}
use Rattle.sb_ring.proofs.Ends.{RingMe}
use Rattle.sb_ring.proofs.Moves.{opens}
use Rattle.sb_ring.proofs.Slots.{slot_length}
use Rattle.sb_ring.proofs.Zeros.{zero_at}
use Rattle.sb_ring.proofs.fabric.new_ring.Goals as goal

pub of_words-requires : goal.of_words-requires
of_words-requires c = let plan = c.args.plan.now in let n : ℕ = slots_word + plan.capacity * slot_width in
    let zeros : c.as_slice.result.now ≡ replicate n 0 = c.as_slice.ensures.value ∙ c.in_ok-zeros.ensures.zeros ∙ ap (λ m. replicate {A = ℕ} (slots_word + m * slot_width) 0) c.from.ensures in
    opens slot_width slot_of slot_length MaySend plan.capacity (Some plan) c.as_slice.result.now
    (ap length zeros ∙ length-replicate n 0) (λ j. ap (λ (list : List ℕ). get_or list j 0) zeros ∙ zero_at n j)

pub invariant_of-tx-clause-in_turn : goal.invariant_of-tx-clause-in_turn
invariant_of-tx-clause-in_turn c =
    let sent : sent_of c.make_consumer-consumer.new.seat.me.0 ≡ [] =
    ap (λ (me : RingMe). sent_of me.0) c.make_consumer-consumer.ensures.paired
    ∙ ap (λ (me : RingMe). sent_of me.0) c.in_ok-table.ensures.4 in
    subst (λ (list : List Item). AreInTurn (plan_of c.args.plan.now) list) (sym sent) nothing_in_turn
