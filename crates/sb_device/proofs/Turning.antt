-- What a turn answers, by what the ring and the port did in it.
use Rattle.std.proofs.Common.{◌≡◌, ◌≢◌, ◌⊎◌, inl, inr, ⊎_elim, ℕ, Bool, true, false, true≢false, List, [], ◌∷◌, length, refl, sym, ap, ◌∙◌, subst, arith}
use Rattle.std.specs.Prelude.{◌&&◌, Option, Some, None, if◌then◌else◌}
use Rattle.sb_link.specs.declared.answers.Turn.{Turn}
use Rattle.sb_link.specs.declared.answers.Turn.TheVariants.{Moved, Done, Idle}
use Rattle.sb_link.specs.declared.answers.Cause.{Cause}
use Rattle.sb_link.specs.declared.answers.Cause.TheVariants as causes
use Rattle.sb_packet.specs.declared.item.Item.{Item}
use Rattle.sb_port.specs.Waiting.{some_owed}
use Rattle.sb_port.specs.Ports.{PortSide, IsFit, owes}
use Rattle.sb_node.specs.Sides.{RingSide, has_rest, is_full, is_drained, has_ended, is_done}
use Rattle.sb_node.specs.Kept.{IsKeptPort, IsKeptRing}
use Rattle.sb_node.specs.Rested.{IsRestedPort, rested_port_same, rested_port_then}
use Rattle.sb_node.specs.Turns.{first_cause, empty_cause, idle_causes}
use Rattle.sb_node.specs.Idle.{IsIdleAt}
use Rattle.sb_node.specs.Found.{or_else, IsTurnOf}
use Rattle.sb_node.specs.Steps.{HasFewMore, IsPortServed, IsPortTurned, HasPortMoved, IsPortFull, IsPortClear, IsRingEmpty, IsRingServed, HasPopped, IsBlockedPort}
use Rattle.sb_node.specs.declared.findings.Findings.{Findings}
use Rattle.sb_node.proofs.Answering.{HasGone, HasStood, answered_by, moves_kept, untold, moves_of_two, no_findings, one_of, same_moves}
use Rattle.sb_device.specs.Sides.{DeviceSide}
use Rattle.sb_device.specs.Steps.{IsRingHandled}
use Rattle.sb_device.specs.Devices.{IsWholeDevice, IsDeviceTurn, device_moves}
use Rattle.sb_device.specs.Rested.{IsRestedDevice, rested_device_same}

-- a device is done where its port sent its Close, since it tells the port to where its ring gave Close
done_by_port : (port : PortSide) (ring : RingSide) → IsFit port.plan port.state → port.state.close_requested ≡ has_ended ring → is_done (port ∷ []) (ring ∷ []) ≡ port.state.close_sent
done_by_port port ring fit closes = by_shut port.state.close_sent (has_ended ring) (λ close_sent. sym closes ∙ fit.told close_sent) where
  by_shut : (close_sent ended : Bool) → (close_sent ≡ true → ended ≡ true) → ((close_sent && true) && (ended && true)) ≡ close_sent
  by_shut true true f = refl
  by_shut true false f = absurd (true≢false (sym (f refl)))
  by_shut false ended f = refl

-- A turn: x is the device before it, y what it is once it has served its ring, and then its port is turned.
module _ (x y : DeviceSide) (port_then : PortSide) where
  abbrev pub z : DeviceSide
  z = record y { answers = port_then }

  -- how much went through the device before the turn, and after it
  abbrev pub before : ℕ
  before = device_moves x

  abbrev pub after : ℕ
  after = device_moves z

  -- the causes that hold after the turn, and the device at rest
  abbrev pub causes_then : List (Option Cause)
  causes_then = idle_causes (port_then ∷ []) [] (y.requests ∷ [])

  abbrev pub done_then : Bool
  done_then = is_done (port_then ∷ []) (y.requests ∷ [])

  abbrev pub AtRest : Type 0
  AtRest = IsIdleAt (λ ring. IsBlockedPort port_then) (port_then ∷ []) (y.requests ∷ [])

  -- nothing went through
  nothing_went : port_then.state ≡ x.answers.state → y.requests.received ≡ x.requests.received → after ≡ before
  nothing_went state received =
      let ports = same_moves x.answers port_then state in
      let items = ap (λ (list : List Item). length list) received in
      let a = moves_of_two x.answers x.requests in
      let b = moves_of_two port_then y.requests in omega (arith, ports, items, a, b)

  -- an item was popped
  gone_by_pop : (found found_then : Findings) → HasPopped x.requests y.requests no_findings found → IsKeptPort x.answers y.answers → IsKeptPort y.answers port_then
      → IsPortTurned true y.answers port_then found found_then → HasGone found_then before after
  gone_by_pop found found_then popped kept kept_then turned = record {
    moved = ⊎_elim
        (λ (m : HasPortMoved y.answers port_then found found_then). ap (λ (f : Findings). f.moved) m.found_move)
        (λ (rest : IsPortFull y.answers port_then found found_then ⊎ IsPortClear true y.answers port_then found found_then). ⊎_elim
        (λ (f : IsPortFull y.answers port_then found found_then). ap (λ (f : Findings). f.moved) f.found_full ∙ ap (λ (f : Findings). f.moved) popped.found_move)
        (λ (c : IsPortClear true y.answers port_then found found_then). ap (λ (f : Findings). f.moved) c.found_nothing ∙ ap (λ (f : Findings). f.moved) popped.found_move)
        rest)
        turned;
    more =
        let first = moves_kept kept in
        let second = moves_kept kept_then in
        let one = popped.one in
        let a = moves_of_two x.answers x.requests in
        let b = moves_of_two port_then y.requests in omega (arith, first, second, one, a, b);
  }

  -- the port moved
  gone_by_port : (found found_then : Findings) → HasPortMoved x.answers port_then found found_then → y.requests.received ≡ x.requests.received → HasGone found_then before after
  gone_by_port found found_then moved received = record {
    moved = ap (λ (f : Findings). f.moved) moved.found_move;
    more =
        let more = moved.more in
        let items = ap (λ (list : List Item). length list) received in
        let a = moves_of_two x.answers x.requests in
        let b = moves_of_two port_then y.requests in omega (arith, more, items, a, b);
  }

  -- the port's ring was full
  stood_by_full : (found found_then : Findings) → IsPortFull x.answers port_then found found_then → found.moved ≡ false → found.full ≡ None → y.requests.received ≡ x.requests.received
      → (owes x.answers.state ≡ true) ⊎ (is_drained y.requests ≡ true) → HasStood found_then before after done_then causes_then AtRest
  stood_by_full found found_then full unmoved no_full received left =
      let cause = causes.Full port_then.plan.ring (length port_then.state.sent) port_then.taken in record {
        unmoved = ap (λ (f : Findings). f.moved) full.found_full ∙ unmoved;
        same = nothing_went full.same received;
        cause = λ undone. (
          cause,
          ap (λ (o : Option Cause). first_cause (o ∷ found_then.waits ∷ found_then.empty ∷ [])) (ap (λ (f : Findings). f.full) full.found_full ∙ ap (λ (o : Option Cause). or_else o cause) no_full),
          ap (λ b. first_cause ((if b then Some cause else None) ∷ empty_cause y.requests ∷ [])) full.rest,
        );
        at_rest = record {
          owing_ports_are_full = one_of (λ port. has_rest port ≡ true → is_full port ≡ true) port_then (λ rest. full.full);
          open_rings_are_drained = one_of (λ ring. has_ended ring ≡ false → (is_drained ring ≡ true) ⊎ IsBlockedPort port_then) y.requests
              (λ unended. ⊎_elim (λ (o : owes x.answers.state ≡ true). inr (record { owing = ap owes full.same ∙ o; full = full.full })) (λ (d : is_drained y.requests ≡ true). inl d) left);
        };
      }

  -- the port had nothing to send, and the ring was empty
  stood_by_empty : (found found_then : Findings) → IsWholeDevice z → IsPortClear false x.answers port_then found found_then
      → IsRingEmpty x.requests y.requests no_findings found → HasStood found_then before after done_then causes_then AtRest
  stood_by_empty found found_then whole clear empty =
      let cause = causes.Empty y.requests.plan.ring (length y.requests.received) y.requests.known in
      let found_is : found_then ≡ record no_findings { empty = Some cause } = clear.found_nothing ∙ empty.found_empty in
      let closes = whole.in_order.closes in record {
        unmoved = ap (λ (f : Findings). f.moved) found_is;
        same = nothing_went clear.same empty.same;
        cause = λ undone.
            let unshut : port_then.state.close_sent ≡ false = sym (done_by_port port_then y.requests whole.fit closes) ∙ undone in
            let unended : has_ended y.requests ≡ false = sym closes ∙ untold (some_owed port_then.state.waiting) port_then.state.close_requested port_then.state.close_sent clear.ready unshut in (
              cause,
              ap (λ (f : Findings). first_cause (f.full ∷ f.waits ∷ f.empty ∷ [])) found_is,
              ap (λ b. first_cause ((if b then Some (causes.Full port_then.plan.ring (length port_then.state.sent) port_then.taken) else None) ∷ empty_cause y.requests ∷ [])) (clear.rest refl)
                  ∙ ap (λ b. first_cause ((if b then None else Some cause) ∷ [])) unended,
            );
        at_rest = record {
          owing_ports_are_full = one_of (λ port. has_rest port ≡ true → is_full port ≡ true) port_then (λ rest. absurd (true≢false (sym rest ∙ clear.rest refl)));
          open_rings_are_drained = one_of (λ ring. has_ended ring ≡ false → (is_drained ring ≡ true) ⊎ IsBlockedPort port_then) y.requests (λ unended. inl empty.drained);
        };
      }

  -- what came of the ring and the port
  pub came_of : (popped : Bool) (found found_then : Findings) → IsRingHandled x y no_findings found popped
      → IsPortTurned popped y.answers port_then found found_then → IsKeptPort x.answers y.answers → IsKeptPort y.answers port_then → IsWholeDevice z
      → HasGone found_then before after ⊎ HasStood found_then before after done_then causes_then AtRest
  came_of true found found_then served turned kept kept_then whole = inl (gone_by_pop found found_then served kept kept_then turned)
  came_of false found found_then (inl waited) turned kept kept_then whole =
      let received = ap (λ (d : DeviceSide). d.requests.received) waited.same in ⊎_elim
      (λ (m : HasPortMoved x.answers port_then found found_then). inl (gone_by_port found found_then m received))
      (λ (rest : IsPortFull x.answers port_then found found_then ⊎ IsPortClear false x.answers port_then found found_then). ⊎_elim
      (λ (f : IsPortFull x.answers port_then found found_then). inr (stood_by_full found found_then f (ap (λ (f : Findings). f.moved) waited.found_nothing) (ap (λ (f : Findings). f.full) waited.found_nothing) received (inl waited.owing)))
      (λ (c : IsPortClear false x.answers port_then found found_then). absurd (true≢false (sym waited.owing ∙ sym (ap owes c.same) ∙ c.ready)))
      rest)
      (subst (λ (d : DeviceSide). IsPortTurned false d.answers port_then found found_then) waited.same turned)
  came_of false found found_then (inr none) turned kept kept_then whole = ⊎_elim
      (λ (m : HasPortMoved x.answers port_then found found_then). inl (gone_by_port found found_then m none.empty.same))
      (λ (rest : IsPortFull x.answers port_then found found_then ⊎ IsPortClear false x.answers port_then found found_then). ⊎_elim
      (λ (f : IsPortFull x.answers port_then found found_then). inr (stood_by_full found found_then f (ap (λ (f : Findings). f.moved) none.empty.found_empty) (ap (λ (f : Findings). f.full) none.empty.found_empty) none.empty.same (inr none.empty.drained)))
      (λ (c : IsPortClear false x.answers port_then found found_then). inr (stood_by_empty found found_then whole c none.empty))
      rest)
      (subst (λ (d : DeviceSide). IsPortTurned false d.answers port_then found found_then) none.same turned)

  -- few items were popped
  few_popped : (popped : Bool) (found : Findings) → IsRingHandled x y no_findings found popped → HasFewMore x.requests y.requests
  few_popped true found served = let one = served.one in omega (arith, one)
  few_popped false found (inl waited) = let same = ap (λ (d : DeviceSide). length d.requests.received) waited.same in omega (arith, same)
  few_popped false found (inr none) = let same = ap (λ (list : List Item). length list) none.empty.same in omega (arith, same)

  -- the ring was served where the port owed nothing
  served_when_ready : (popped : Bool) (found : Findings) → IsRingHandled x y no_findings found popped → owes x.answers.state ≡ false → IsRingServed x.requests y.requests
  served_when_ready true found handled ready = inl handled.one
  served_when_ready false found (inl waited) ready = absurd (true≢false (sym waited.owing ∙ ready))
  served_when_ready false found (inr none) ready = inr none.empty.drained

  -- the turn, as it is answered
  pub device_turned : (popped : Bool) (found found_then : Findings) (answer : Turn) → IsRingHandled x y no_findings found popped
      → IsPortTurned popped y.answers port_then found found_then → IsKeptPort x.answers y.answers → IsKeptPort y.answers port_then
      → IsWholeDevice z → IsTurnOf found_then port_then.state.close_sent answer → IsPortServed x.answers port_then → IsDeviceTurn x answer z
  device_turned popped found found_then answer served turned kept kept_then whole told port_served =
      let done = sym (done_by_port port_then y.requests whole.fit whole.in_order.closes) in
      let said = answered_by found_then before after done_then causes_then AtRest answer (came_of popped found found_then served turned kept kept_then whole)
      (subst (λ d. IsTurnOf found_then d answer) done told) in
      record { answered = said.0; idle = said.1; few_more = few_popped popped found served; port_served = port_served; ring_served = served_when_ready popped found served }

  -- nothing moved by a turn that doesn't say so
  unmoved : (found : Findings) (done : Bool) (answer : Turn) → IsTurnOf found done answer → answer ≢ Moved → found.moved ≡ false
  unmoved found done Moved told other = absurd (other refl)
  unmoved found done Done told other = told.0
  unmoved found done (Idle cause) told other = told.0

  -- a ring that was served without a pop rested, and so did the memory and the journal
  rested_so_far : (found : Findings) → IsRingHandled x y no_findings found false → IsKeptRing x.requests y.requests → IsRestedDevice x y
  rested_so_far found (inl waited) kept = subst (λ (d : DeviceSide). IsRestedDevice x d) (sym waited.same) (rested_device_same x)
  rested_so_far found (inr none) kept = record {
    number = ap (λ (d : DeviceSide). d.number) none.same;
    memory = ap (λ (d : DeviceSide). d.memory) none.same;
    journal = ap (λ (d : DeviceSide). d.journal) none.same;
    requests = record { plan = kept.plan; mark = kept.mark; received = none.empty.same; learnt = kept.learnt };
    answers = subst (λ (port : PortSide). IsRestedPort x.answers port) (sym (ap (λ (d : DeviceSide). d.answers) none.same)) (rested_port_same x.answers);
  }

  -- the turn rests, where it doesn't answer that it moved
  pub device_rests : (popped : Bool) (found found_then : Findings) (done : Bool) (answer : Turn) → IsRingHandled x y no_findings found popped
      → IsPortTurned popped y.answers port_then found found_then → IsKeptRing x.requests y.requests → IsKeptPort x.answers y.answers → IsKeptPort y.answers port_then
      → (found_then.moved ≡ false → IsRestedPort y.answers port_then) → IsTurnOf found_then done answer → answer ≢ Moved → IsRestedDevice x z
  device_rests true found found_then done answer handled turned ring kept kept_then still told other =
      absurd (true≢false (sym (gone_by_pop found found_then handled kept kept_then turned).moved ∙ unmoved found_then done answer told other))
  device_rests false found found_then done answer handled turned ring kept kept_then still told other =
      let before = rested_so_far found handled ring in record {
        number = before.number;
        memory = before.memory;
        journal = before.journal;
        requests = before.requests;
        answers = rested_port_then before.answers (still (unmoved found_then done answer told other));
      }
