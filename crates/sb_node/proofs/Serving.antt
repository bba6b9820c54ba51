-- When a turn serves a port.
use Rattle.std.proofs.Common.{◌≡◌, ◌+◌, Bool, List, [], ◌∷◌, ◌++◌, length, sym, ap, ◌∙◌, subst, inl, inr, arith}
use Rattle.std.proofs.lemmas.Bool.{eq-eqb}
use Rattle.std.proofs.lemmas.List.{length-append}
use Rattle.sb_link.specs.RingPlans.{RingPlan}
use Rattle.sb_packet.specs.declared.item.Item.{Item}
use Rattle.sb_packet.specs.declared.item.Item.TheVariants as items
use Rattle.sb_port.specs.Ports.{PortSide, PortState}
use Rattle.sb_port.specs.Turns.{Turned}
use Rattle.sb_port.specs.declared.port_turn.PortTurn.TheVariants as turns
use Rattle.sb_node.specs.Steps.{IsPortServed}

-- it counts from what was sent before the turn, where a port sends nothing until the last step of the turn
pub served_since : (port middle port_then : PortSide) → middle.state.sent ≡ port.state.sent → IsPortServed middle port_then → IsPortServed port port_then
served_since port middle port_then same served =
    subst (λ sent. IsPortServed (record port { state = record port.state { sent = sent } }) port_then) same (record { few = served.few; served = served.served })

-- one item more was sent
sent_one : (before after : PortSide) (item : Item) → after.state.sent ≡ before.state.sent ++ item ∷ [] → IsPortServed before after
sent_one before after item sent =
    let more : length after.state.sent ≡ length before.state.sent + 1 = ap (λ (list : List Item). length list) sent ∙ length-append before.state.sent (item ∷ []) in
    record { few = omega (arith, more); served = inl more }

-- nothing was sent, as the ring is full
sent_none : (before after : PortSide) → after.state.sent ≡ before.state.sent → length before.state.sent ≡ after.taken + after.plan.capacity → IsPortServed before after
sent_none before after sent full =
    let same : length after.state.sent ≡ length before.state.sent = ap (λ (list : List Item). length list) sent in
    record { few = omega (arith, same); served = inr (inr (eq-eqb (length after.state.sent) (after.taken + after.plan.capacity) (same ∙ full))) }

-- a turn that moves the port serves it
pub moved_is_served : (more : Bool) (before after : PortSide) → after.plan ≡ before.plan → Turned more before after turns.Moved → IsPortServed before after
moved_is_served more before after plan turned = elim turned [
  | inl sends ↦ sent_one before after (items.Packet sends.packet) (ap (λ (s : PortState). s.sent) sends.state)
  | inr (inl lets) ↦ elim lets.state [
    | inl held ↦ sent_none before after (ap (λ (s : PortState). s.sent) held.state) (held.full ∙ ap (λ (p : RingPlan). after.taken + p.capacity) (sym plan))
    | inr sends ↦ sent_one before after (items.Packet sends.packet) (ap (λ (s : PortState). s.sent) sends.state)
  ]
  | inr (inr closes) ↦ sent_one before after items.Close (ap (λ (s : PortState). s.sent) closes.state)
]
