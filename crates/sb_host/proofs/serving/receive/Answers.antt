-- The host stays in order, whatever comes in.
use Rattle.std.proofs.Common.{◌∷◌, ◌++◌, [], ap, ◌∙◌, sym, subst}
use Rattle.sb_packet.specs.declared.item.Item.{Item}
use Rattle.sb_node.specs.Sides.{ring_side}
use Rattle.sb_host.specs.Hosts.{IsHostInOrder}
use Rattle.sb_host.specs.Progress.{TransactionsSide}
use Rattle.sb_host.proofs.Received.{after_close, after_packet}
use Rattle.sb_host.proofs.serving.receive.Goals as goal

pub returns-in-Some-Packet-clause-in_order : goal.returns-in-Some-Packet-clause-in_order
returns-in-Some-Packet-clause-in_order g c = λ port is.
    let ring = ring_side g.U.RxEnd c.args.answers.now in
    let ring_then = ring_side g.U.RxEnd c.pop_ring.new.ring in
    subst (λ (t : TransactionsSide). IsHostInOrder t port ring_then) (sym c.take.ensures.rest)
    (after_packet c.args.transactions.now port ring ring_then c.take.new.self.rows c.in-Some-Packet.answer
    (c.in-Some-Packet.ensures.popped.received ∙ ap (λ (i : Item). ring.received ++ i ∷ []) c.in-Some-Packet.field-0-is) c.take.ensures.taken is)

pub returns-in-Some-Close-clause-in_order : goal.returns-in-Some-Close-clause-in_order
returns-in-Some-Close-clause-in_order g c = λ port is.
    let ring = ring_side g.U.RxEnd c.args.answers.now in
    let ring_then = ring_side g.U.RxEnd c.pop_ring.new.ring in
    subst (λ (t : TransactionsSide). IsHostInOrder t port ring_then) (sym c.end.ensures.ended)
    (after_close c.args.transactions.now port ring ring_then
    (c.in-Some-Close.ensures.popped.received ∙ ap (λ (i : Item). ring.received ++ i ∷ []) c.in-Some-Close.field-0-is) is)
