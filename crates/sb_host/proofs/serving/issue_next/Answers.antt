-- The next packet is offered, unless none is left, the port owes an item, or its transaction waits for a slot.
use Rattle.std.proofs.Common.{◌++◌, inl, sym, subst, ◌∙◌}
use Rattle.std.specs.Prelude.{◌⊎◌}
use Rattle.sb_packet.specs.Accesses.{message_accesses}
use Rattle.sb_link.specs.Prefixes.{IsPrefix}
use Rattle.sb_port.specs.Ports.{PortSide, offered_words}
use Rattle.sb_node.specs.Kept.{IsKeptPort, kept_port_same}
use Rattle.sb_host.specs.Progress.{TransactionsSide}
use Rattle.sb_host.specs.Steps.{IsNextOffered}
use Rattle.sb_host.specs.Windows.{IsHeldBack}
use Rattle.sb_host.proofs.Ordered.{not_offered}
use Rattle.sb_host.proofs.serving.issue_next.Goals.{then-offers, else-offers}
use Rattle.sb_host.proofs.serving.issue_next.Goals as goal

pub returns-then-not-close_requested-clause-next_offered : goal.returns-then-not-close_requested-clause-next_offered
returns-then-not-close_requested-clause-next_offered g c =
    elim c.if-offers.branch [
      | then-offers w ↦ inl (λ ready m rest here.
          let words = offered_words c.args.requests.now ++ message_accesses m in
          subst (λ (p : PortSide). IsPrefix words (offered_words p)) (sym c.close.ensures.told)
          (subst (λ (p : PortSide). IsPrefix words (offered_words p)) (sym w.requests-is) (w.offer_next.ensures.next_offered ready m rest (c.pass_over.ensures.left ∙ here))))
      | else-offers w ↦
          subst (λ (t : TransactionsSide). IsNextOffered c.args.transactions.now c.args.requests.now c.close.new.self ⊎ IsHeldBack c.args.transactions.now t) (sym w.transactions-is)
          (not_offered c.args.transactions.now c.pass_over.new.self c.args.requests.now c.close.new.self c.pass_over.ensures.come c.pass_over.ensures.left
          (c.may_offer-offers.ensures.none w.if-offers.false))
    ]

pub returns-else-not-any_left-clause-next_offered : goal.returns-else-not-any_left-clause-next_offered
returns-else-not-any_left-clause-next_offered g c =
    elim c.if-offers.branch [
      | then-offers w ↦ inl (λ ready m rest here.
          let words = offered_words c.args.requests.now ++ message_accesses m in
          subst (λ (p : PortSide). IsPrefix words (offered_words p)) (sym w.requests-is) (w.offer_next.ensures.next_offered ready m rest (c.pass_over.ensures.left ∙ here)))
      | else-offers w ↦
          subst (λ (t : TransactionsSide). IsNextOffered c.args.transactions.now c.args.requests.now c.if-offers.requests ⊎ IsHeldBack c.args.transactions.now t) (sym w.transactions-is)
          (not_offered c.args.transactions.now c.pass_over.new.self c.args.requests.now c.if-offers.requests c.pass_over.ensures.come c.pass_over.ensures.left
          (c.may_offer-offers.ensures.none w.if-offers.false))
    ]

pub returns-else-not-any_left-clause-kept : goal.returns-else-not-any_left-clause-kept
returns-else-not-any_left-clause-kept g c = elim c.if-offers.branch [
  | then-offers w ↦ subst (λ (p : PortSide). IsKeptPort c.args.requests.now p) (sym w.requests-is) w.offer_next.ensures.kept
  | else-offers w ↦ subst (λ (p : PortSide). IsKeptPort c.args.requests.now p) (sym w.requests-is) (kept_port_same c.args.requests.now)
]
