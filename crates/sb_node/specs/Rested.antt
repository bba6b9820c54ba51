-- What stays where nothing moved: no item went over a ring, and nothing was offered or let go. A port may have been told to close, and ends may have learnt.
use Rattle.std.specs.Prelude.{◌≡◌, ◌≤◌, true}
use Rattle.std.proofs.Common.{refl, ◌∙◌, arith}
use Rattle.sb_port.specs.Ports.{PortSide}
use Rattle.sb_node.specs.Sides.{RingSide}

-- nothing moved at a port
pub record IsRestedPort (before after : PortSide) : Type 0 where
  pub plan : after.plan ≡ before.plan
  pub mark : after.mark ≡ before.mark
  pub sent : after.state.sent ≡ before.state.sent
  pub waiting : after.state.waiting ≡ before.state.waiting
  pub close_sent : after.state.close_sent ≡ before.state.close_sent
  pub words_offered : after.state.words_offered ≡ before.state.words_offered
  pub still_told : before.state.close_requested ≡ true → after.state.close_requested ≡ true
  pub learnt : before.taken ≤ after.taken

-- nothing moved at a ring
pub record IsRestedRing (before after : RingSide) : Type 0 where
  pub plan : after.plan ≡ before.plan
  pub mark : after.mark ≡ before.mark
  pub received : after.received ≡ before.received
  pub learnt : before.known ≤ after.known

-- nothing happened to a port
pub rested_port_same : (port : PortSide) → IsRestedPort port port
rested_port_same port = record { plan = refl; mark = refl; sent = refl; waiting = refl; close_sent = refl; words_offered = refl; still_told = λ told. told; learnt = omega arith }

-- one thing after another happened to a port
pub rested_port_then : {x y z : PortSide} → IsRestedPort x y → IsRestedPort y z → IsRestedPort x z
rested_port_then a b = record {
  plan = b.plan ∙ a.plan;
  mark = b.mark ∙ a.mark;
  sent = b.sent ∙ a.sent;
  waiting = b.waiting ∙ a.waiting;
  close_sent = b.close_sent ∙ a.close_sent;
  words_offered = b.words_offered ∙ a.words_offered;
  still_told = λ told. b.still_told (a.still_told told);
  learnt = let first = a.learnt in let second = b.learnt in omega (arith, first, second);
}

-- nothing happened to a ring
pub rested_ring_same : (ring : RingSide) → IsRestedRing ring ring
rested_ring_same ring = record { plan = refl; mark = refl; received = refl; learnt = omega arith }

-- one thing after another happened to a ring
pub rested_ring_then : {x y z : RingSide} → IsRestedRing x y → IsRestedRing y z → IsRestedRing x z
rested_ring_then a b = record {
  plan = b.plan ∙ a.plan;
  mark = b.mark ∙ a.mark;
  received = b.received ∙ a.received;
  learnt = let first = a.learnt in let second = b.learnt in omega (arith, first, second);
}
