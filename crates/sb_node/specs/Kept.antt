-- What stays of a node's ports and rings, whatever turns it takes: nothing is taken back.
use Rattle.std.specs.Prelude.{◌≡◌, ◌≤◌, true, List, [], ◌++◌}
use Rattle.std.proofs.Common.{refl, ◌∙◌, arith}
use Rattle.sb_link.specs.Prefixes.{IsPrefix, begins_further, begins_itself}
use Rattle.sb_port.specs.Ports.{PortSide, let_go, offered_words}
use Rattle.sb_node.specs.Sides.{RingSide}

-- a port is as it was, but for what it was offered, let go, sent and learnt since
pub record IsKeptPort (before after : PortSide) : Type 0 where
  pub plan : after.plan ≡ before.plan
  pub mark : after.mark ≡ before.mark
  pub offered_more : IsPrefix (offered_words before) (offered_words after)
  pub let_more_go : IsPrefix (let_go before.state) (let_go after.state)
  pub sent_more : IsPrefix before.state.sent after.state.sent
  pub learnt : before.taken ≤ after.taken
  pub still_told : before.state.close_requested ≡ true → after.state.close_requested ≡ true

-- a ring is as it was, but for what was received and learnt since
pub record IsKeptRing (before after : RingSide) : Type 0 where
  pub plan : after.plan ≡ before.plan
  pub mark : after.mark ≡ before.mark
  pub received_more : IsPrefix before.received after.received
  pub learnt : before.known ≤ after.known

-- The end of a port met the other end of its ring: nothing was offered or sent, and no less is known of what was taken.
pub record IsPortMet (before after : PortSide) : Type 0 where
  pub plan : after.plan ≡ before.plan
  pub state : after.state ≡ before.state
  pub learnt : before.taken ≤ after.taken

-- The end of a ring met the other one: nothing was received, and no less is known of what was sent.
pub record IsRingMet (before after : RingSide) : Type 0 where
  pub plan : after.plan ≡ before.plan
  pub received : after.received ≡ before.received
  pub learnt : before.known ≤ after.known

-- nothing happened to a port
pub kept_port_same : (port : PortSide) → IsKeptPort port port
kept_port_same port = record {
  plan = refl;
  mark = refl;
  offered_more = begins_itself (offered_words port);
  let_more_go = begins_itself (let_go port.state);
  sent_more = begins_itself port.state.sent;
  learnt = omega arith;
  still_told = λ told. told;
}

-- one thing after another happened to a port
pub kept_port_then : {x y z : PortSide} → IsKeptPort x y → IsKeptPort y z → IsKeptPort x z
kept_port_then {x} {y} {z} a b = record {
  plan = b.plan ∙ a.plan;
  mark = b.mark ∙ a.mark;
  offered_more = begins_further a.offered_more b.offered_more;
  let_more_go = begins_further a.let_more_go b.let_more_go;
  sent_more = begins_further a.sent_more b.sent_more;
  learnt = let first = a.learnt in let second = b.learnt in omega (arith, first, second);
  still_told = λ told. b.still_told (a.still_told told);
}

-- nothing happened to a ring
pub kept_ring_same : (ring : RingSide) → IsKeptRing ring ring
kept_ring_same ring = record { plan = refl; mark = refl; received_more = begins_itself ring.received; learnt = omega arith }

-- one thing after another happened to a ring
pub kept_ring_then : {x y z : RingSide} → IsKeptRing x y → IsKeptRing y z → IsKeptRing x z
kept_ring_then {x} {y} {z} a b = record {
  plan = b.plan ∙ a.plan;
  mark = b.mark ∙ a.mark;
  received_more = begins_further a.received_more b.received_more;
  learnt = let first = a.learnt in let second = b.learnt in omega (arith, first, second);
}
