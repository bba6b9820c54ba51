-- What a turn answers, by what the ring and the port did in it.
use Rattle.std.proofs.Common.{◌≡◌, ◌≢◌, ◌⊎◌, inl, inr, ⊎_elim, ℕ, ◌+◌, ◌≤◌, Bool, true, false, true≢false, List, [], ◌∷◌, ◌++◌, length, refl, sym, ap, ◌∙◌, subst, arith}
use Rattle.std.specs.Prelude.{◌&&◌, Option, Some, None, is_some, if◌then◌else◌}
use Rattle.sb_link.specs.declared.answers.Turn.{Turn}
use Rattle.sb_link.specs.declared.answers.Turn.TheVariants.{Moved, Idle, Done}
use Rattle.sb_link.specs.declared.answers.Cause.{Cause}
use Rattle.sb_link.specs.declared.answers.Cause.TheVariants as causes
use Rattle.sb_packet.specs.Accesses.{message_accesses}
use Rattle.sb_packet.specs.declared.item.Item.{Item}
use Rattle.sb_link.specs.Prefixes.{IsPrefix}
use Rattle.sb_port.specs.Waiting.{some_owed}
use Rattle.sb_port.specs.Ports.{PortSide, PortState, offered_words, owes}
use Rattle.sb_node.specs.Sides.{RingSide, has_rest, is_full, is_drained, has_ended, is_done, port_moves, node_moves}
use Rattle.sb_node.specs.Kept.{IsKeptPort, IsKeptRing, kept_port_then}
use Rattle.sb_node.specs.Rested.{IsRestedPort}
use Rattle.sb_node.specs.Turns.{IsAnswered, first_cause, empty_cause, idle_causes}
use Rattle.sb_node.specs.Found.{or_else, IsTurnOf}
use Rattle.sb_node.specs.Steps.{HasFewMore, IsPortTurned, HasPortMoved, IsPortFull, IsPortClear, IsPortServed, IsRingEmpty, IsRingServed}
use Rattle.sb_node.specs.declared.findings.Findings.{Findings}
use Rattle.sb_node.proofs.Answering.{HasGone, HasStood, answered_by, moves_kept, untold, moves_of_two, no_findings, one_of, same_moves}
use Rattle.sb_node.proofs.Serving.{served_since}
use Rattle.sb_host.specs.Hosts.{HostSide, IsHostTurn, IsKeptHost}
use Rattle.sb_host.specs.Progress.{IsNextAimed, TransactionsSide, left_of}
use Rattle.sb_host.specs.Steps.{HasOfferedNone, HasOfferedOne, IsIdleHost, IsIssued, IsNextOffered, IsReceiveStep, IsWaitFound}
use Rattle.sb_host.specs.Windows.{IsHeldBack, window_cause}

-- a host is done where its port sent its Close, and its ring gave one
pub done_by_both : (port : PortSide) (ring : RingSide) → is_done (port ∷ []) (ring ∷ []) ≡ (port.state.close_sent && has_ended ring)
done_by_both port ring = by_both port.state.close_sent (has_ended ring) where
  by_both : (close_sent ended : Bool) → ((close_sent && true) && (ended && true)) ≡ (close_sent && ended)
  by_both true true = refl
  by_both true false = refl
  by_both false ended = refl

-- both tests fail where one of them does and the other holds
other_fails : (a b : Bool) → (a && b) ≡ false → a ≡ true → b ≡ false
other_fails true b fails holds = fails
other_fails false b fails holds = absurd (true≢false (sym holds))

-- what moved before has moved
pub still_moved : (more : Bool) (port port_then : PortSide) (found found_then : Findings) → IsPortTurned more port port_then found found_then → found.moved ≡ true → found_then.moved ≡ true
still_moved more port port_then found found_then turned moved = ⊎_elim
    (λ (m : HasPortMoved port port_then found found_then). ap (λ (f : Findings). f.moved) m.found_move)
    (λ (rest : IsPortFull port port_then found found_then ⊎ IsPortClear more port port_then found found_then). ⊎_elim
    (λ (f : IsPortFull port port_then found found_then). ap (λ (f : Findings). f.moved) f.found_full ∙ moved)
    (λ (c : IsPortClear more port port_then found found_then). ap (λ (f : Findings). f.moved) c.found_nothing ∙ moved)
    rest)
    turned

-- what is found where a host waits, behind an empty ring
wait_behind : (wait : Option Cause) (found found_then : Findings) (empty : Cause) → IsWaitFound wait found found_then → found ≡ record no_findings { empty = Some empty }
    → found_then ≡ record no_findings { waits = wait; empty = Some empty }
wait_behind None found found_then empty same is = same ∙ is
wait_behind (Some wait) found found_then empty more is = more ∙ ap (λ (f : Findings). record f { waits = or_else f.waits wait }) is

-- to wait is no move
pub wait_unmoved : (wait : Option Cause) (found found_then : Findings) → IsWaitFound wait found found_then → found_then.moved ≡ found.moved
wait_unmoved None found found_then same = ap (λ (f : Findings). f.moved) same
wait_unmoved (Some wait) found found_then more = ap (λ (f : Findings). f.moved) more

module _ (t_then : TransactionsSide) (ring ring_then : RingSide) (port middle port_then : PortSide) where
  -- how much went through the host before the turn, and after it
  abbrev pub before : ℕ
  before = node_moves (port ∷ []) (ring ∷ [])

  abbrev pub after : ℕ
  after = node_moves (port_then ∷ []) (ring_then ∷ [])

  -- the causes that hold after the turn, and the host at rest
  abbrev pub causes_then : List (Option Cause)
  causes_then = idle_causes (port_then ∷ []) (window_cause t_then ∷ []) (ring_then ∷ [])

  abbrev pub done_then : Bool
  done_then = is_done (port_then ∷ []) (ring_then ∷ [])

  abbrev pub AtRest : Type 0
  AtRest = IsIdleHost t_then port_then ring_then

  -- an item was popped
  gone_by_pop : (found_then : Findings) → length ring_then.received ≡ length ring.received + 1 → found_then.moved ≡ true → IsKeptPort port middle → IsKeptPort middle port_then → HasGone found_then before after
  gone_by_pop found_then one moved kept kept_then = record {
    moved = moved;
    more =
        let first = moves_kept kept in
        let second = moves_kept kept_then in
        let a = moves_of_two port ring in
        let b = moves_of_two port_then ring_then in omega (arith, first, second, one, a, b);
  }

  -- a packet was offered
  gone_by_offer : (found found_then : Findings) → ring_then.received ≡ ring.received → HasOfferedOne port middle found found_then → (found_last : Findings) → found_last.moved ≡ true → IsKeptPort middle port_then
      → HasGone found_last before after
  gone_by_offer found found_then received offered found_last moved kept = record {
    moved = moved;
    more =
        let more = offered.more in
        let second = moves_kept kept in
        let items = ap (λ (list : List Item). length list) received in
        let a = moves_of_two port ring in
        let b = moves_of_two port_then ring_then in omega (arith, more, second, items, a, b);
  }

  -- neither: the port is as it was, but that it may be told to close
  as_before : (found found_then : Findings) → HasOfferedNone t_then port middle found found_then → port_moves middle ≡ port_moves port
  as_before found found_then none = ap port_moves none.same

  -- the port moved
  gone_by_port : (found found_then : Findings) → port_moves middle ≡ port_moves port → HasPortMoved middle port_then found found_then → ring_then.received ≡ ring.received → HasGone found_then before after
  gone_by_port found found_then same moved received = record {
    moved = ap (λ (f : Findings). f.moved) moved.found_move;
    more =
        let more = moved.more in
        let items = ap (λ (list : List Item). length list) received in
        let a = moves_of_two port ring in
        let b = moves_of_two port_then ring_then in omega (arith, more, same, items, a, b);
  }

  -- nothing went through
  nothing_went : port_moves middle ≡ port_moves port → port_then.state ≡ middle.state → ring_then.received ≡ ring.received → after ≡ before
  nothing_went same state received =
      let ports = same_moves middle port_then state in
      let items = ap (λ (list : List Item). length list) received in
      let a = moves_of_two port ring in
      let b = moves_of_two port_then ring_then in omega (arith, same, ports, items, a, b)

  -- the port's ring was full
  stood_by_full : (found found_waited found_then : Findings) → HasOfferedNone t_then port middle found found_waited → IsRingEmpty ring ring_then no_findings found
      → IsPortFull middle port_then found_waited found_then → HasStood found_then before after done_then causes_then AtRest
  stood_by_full found found_waited found_then none empty full =
      let cause = causes.Full port_then.plan.ring (length port_then.state.sent) port_then.taken in
      let waited = wait_behind (window_cause t_then) found found_waited (causes.Empty ring_then.plan.ring (length ring_then.received) ring_then.known) none.found_wait empty.found_empty in record {
        unmoved = ap (λ (f : Findings). f.moved) full.found_full ∙ ap (λ (f : Findings). f.moved) waited;
        same = nothing_went (as_before found found_waited none) full.same empty.same;
        cause = λ undone. (
          cause,
          ap (λ (o : Option Cause). first_cause (o ∷ found_then.waits ∷ found_then.empty ∷ []))
              (ap (λ (f : Findings). f.full) full.found_full ∙ ap (λ (o : Option Cause). or_else o cause) (ap (λ (f : Findings). f.full) waited)),
          ap (λ b. first_cause ((if b then Some cause else None) ∷ window_cause t_then ∷ empty_cause ring_then ∷ [])) full.rest,
        );
        at_rest = record {
          at_rest = record {
            owing_ports_are_full = one_of (λ port. has_rest port ≡ true → is_full port ≡ true) port_then (λ rest. full.full);
            open_rings_are_drained = one_of (λ ring. has_ended ring ≡ false → (is_drained ring ≡ true) ⊎ ⊥) ring_then (λ unended. inl empty.drained);
          };
          open_host_is_blocked = λ unclosed. ⊎_elim
              (λ (owing : owes middle.state ≡ true). inl (record { owing = ap owes full.same ∙ owing; full = full.full }))
              (λ (waits : is_some (window_cause t_then) ≡ true). inr waits)
              (none.waits (sym (ap (λ (s : PortState). s.close_requested) full.same) ∙ unclosed));
        };
      }

  -- the port had nothing to send, and the ring was empty
  stood_by_empty : (found found_waited found_then : Findings) → HasOfferedNone t_then port middle found found_waited → IsRingEmpty ring ring_then no_findings found
      → IsPortClear false middle port_then found_waited found_then → HasStood found_then before after done_then causes_then AtRest
  stood_by_empty found found_waited found_then none empty clear = record {
    unmoved = ap (λ (f : Findings). f.moved) found_is;
    same = nothing_went (as_before found found_waited none) clear.same empty.same;
    cause = λ undone. by_wait undone (window_cause t_then) refl;
    at_rest = record {
      at_rest = record {
        owing_ports_are_full = one_of (λ port. has_rest port ≡ true → is_full port ≡ true) port_then (λ rest. absurd (true≢false (sym rest ∙ clear.rest refl)));
        open_rings_are_drained = one_of (λ ring. has_ended ring ≡ false → (is_drained ring ≡ true) ⊎ ⊥) ring_then (λ unended. inl empty.drained);
      };
      open_host_is_blocked = λ unclosed. inr (waiting unclosed);
    };
  }
    where
      empty_is : Cause
      empty_is = causes.Empty ring_then.plan.ring (length ring_then.received) ring_then.known

      found_is : found_then ≡ record no_findings { waits = window_cause t_then; empty = Some empty_is }
      found_is = clear.found_nothing ∙ wait_behind (window_cause t_then) found found_waited empty_is none.found_wait empty.found_empty

      -- a port that wasn't told to close owes nothing, so the host waits
      waiting : port_then.state.close_requested ≡ false → is_some (window_cause t_then) ≡ true
      waiting unclosed = ⊎_elim
          (λ (owing : owes middle.state ≡ true). absurd (true≢false (sym owing ∙ sym (ap owes clear.same) ∙ clear.ready)))
          (λ (waits : is_some (window_cause t_then) ≡ true). waits)
          (none.waits (sym (ap (λ (s : PortState). s.close_requested) clear.same) ∙ unclosed))

      by_shut : (port_then.state.close_requested ≡ false → ⊥) → owes port_then.state ≡ false → port_then.state.close_sent ≡ true
      by_shut never ready = elim port_then.state.close_sent as (λ b. port_then.state.close_sent ≡ b → port_then.state.close_sent ≡ true) [
        | true ↦ λ close_sent. close_sent
        | false ↦ λ unshut. absurd (never (untold (some_owed port_then.state.waiting) port_then.state.close_requested port_then.state.close_sent ready unshut))
      ] refl

      -- the causes that are left where the port has none
      clear_causes : first_cause causes_then ≡ first_cause (window_cause t_then ∷ empty_cause ring_then ∷ [])
      clear_causes =
          ap (λ b. first_cause ((if b then Some (causes.Full port_then.plan.ring (length port_then.state.sent) port_then.taken) else None) ∷ window_cause t_then ∷ empty_cause ring_then ∷ []))
          (clear.rest refl)

      by_wait : done_then ≡ false → (o : Option Cause) → window_cause t_then ≡ o
          → (c : Cause) × (first_cause (found_then.full ∷ found_then.waits ∷ found_then.empty ∷ []) ≡ Some c) × (first_cause causes_then ≡ Some c)
      by_wait undone (Some wait) e = (
        wait,
        ap (λ (f : Findings). first_cause (f.full ∷ f.waits ∷ f.empty ∷ [])) found_is ∙ ap (λ (o : Option Cause). first_cause (None ∷ o ∷ Some empty_is ∷ [])) e,
        clear_causes ∙ ap (λ (o : Option Cause). first_cause (o ∷ empty_cause ring_then ∷ [])) e,
      )
      by_wait undone None e =
          let never : port_then.state.close_requested ≡ false → ⊥ = λ unclosed. true≢false (sym (waiting unclosed) ∙ ap is_some e) in
          let close_sent : port_then.state.close_sent ≡ true = by_shut never clear.ready in
          let unended : has_ended ring_then ≡ false = other_fails port_then.state.close_sent (has_ended ring_then) (sym (done_by_both port_then ring_then) ∙ undone) close_sent in (
            empty_is,
            ap (λ (f : Findings). first_cause (f.full ∷ f.waits ∷ f.empty ∷ [])) found_is ∙ ap (λ (o : Option Cause). first_cause (None ∷ o ∷ Some empty_is ∷ [])) e,
            clear_causes ∙ ap (λ (o : Option Cause). first_cause (o ∷ empty_cause ring_then ∷ [])) e ∙ ap (λ b. first_cause ((if b then None else Some empty_is) ∷ [])) unended,
          )

  -- what came of the ring and the port
  pub came_of : (popped offered : Bool) (found_1 found_2 found_then : Findings) → IsReceiveStep ring ring_then no_findings found_1 popped → IsIssued t_then port middle found_1 found_2 offered
      → IsPortTurned found_2.moved middle port_then found_2 found_then → IsKeptPort port middle → IsKeptPort middle port_then
      → HasGone found_then before after ⊎ HasStood found_then before after done_then causes_then AtRest
  came_of true true found_1 found_2 found_then received issued turned kept kept_then =
      inl (gone_by_pop found_then received.one (still_moved found_2.moved middle port_then found_2 found_then turned (ap (λ (f : Findings). f.moved) issued.found_move)) kept kept_then)
  came_of true false found_1 found_2 found_then received issued turned kept kept_then =
      inl (gone_by_pop found_then received.one (still_moved found_2.moved middle port_then found_2 found_then turned (wait_unmoved (window_cause t_then) found_1 found_2 issued.found_wait ∙ ap (λ (f : Findings). f.moved) received.found_move)) kept kept_then)
  came_of false true found_1 found_2 found_then received issued turned kept kept_then =
      inl (gone_by_offer found_1 found_2 received.same issued found_then (still_moved found_2.moved middle port_then found_2 found_then turned (ap (λ (f : Findings). f.moved) issued.found_move)) kept_then)
  came_of false false found_1 found_2 found_then received issued turned kept kept_then =
      let unmoved : found_2.moved ≡ false = wait_unmoved (window_cause t_then) found_1 found_2 issued.found_wait ∙ ap (λ (f : Findings). f.moved) received.found_empty in
      ⊎_elim
      (λ (m : HasPortMoved middle port_then found_2 found_then). inl (gone_by_port found_2 found_then (as_before found_1 found_2 issued) m received.same))
      (λ (rest : IsPortFull middle port_then found_2 found_then ⊎ IsPortClear false middle port_then found_2 found_then). ⊎_elim
      (λ (f : IsPortFull middle port_then found_2 found_then). inr (stood_by_full found_1 found_2 found_then issued received f))
      (λ (c : IsPortClear false middle port_then found_2 found_then). inr (stood_by_empty found_1 found_2 found_then issued received c))
      rest)
      (subst (λ (b : Bool). IsPortTurned b middle port_then found_2 found_then) unmoved turned)

  -- no more items were popped than a turn takes
  few_popped : (popped : Bool) (found : Findings) → IsReceiveStep ring ring_then no_findings found popped → HasFewMore ring ring_then
  few_popped true found received = let one = received.one in omega (arith, one)
  few_popped false found received = let same = ap (λ (list : List Item). length list) received.same in omega (arith, same)

  -- the ring was served
  ring_served : (popped : Bool) (found : Findings) → IsReceiveStep ring ring_then no_findings found popped → IsRingServed ring ring_then
  ring_served true found received = inl received.one
  ring_served false found received = inr received.drained

  -- the answer
  ends_turned : (popped offered : Bool) (found_1 found_2 found_then : Findings) (answer : Turn) → IsReceiveStep ring ring_then no_findings found_1 popped → IsIssued t_then port middle found_1 found_2 offered
      → IsPortTurned found_2.moved middle port_then found_2 found_then → IsKeptPort port middle → IsKeptPort middle port_then
      → IsTurnOf found_then (port_then.state.close_sent && has_ended ring_then) answer
      → IsAnswered before after done_then causes_then answer × (answer ≢ Moved → AtRest)
  ends_turned popped offered found_1 found_2 found_then answer received issued turned kept kept_then told =
      answered_by found_then before after done_then causes_then AtRest answer (came_of popped offered found_1 found_2 found_then received issued turned kept kept_then)
      (subst (λ d. IsTurnOf found_then d answer) (sym (done_by_both port_then ring_then)) told)

  -- The host before the turn had the transactions t, and what came made them t_now.
  module _ (t t_now : TransactionsSide) where
    abbrev pub host : HostSide
    host = record { transactions = t; requests = port; answers = ring }

    abbrev pub host_then : HostSide
    host_then = record { transactions = t_then; requests = port_then; answers = ring_then }

    -- what was next is offered still once the port took its turn
    next_offered : left_of t_now ≡ left_of t → offered_words port_then ≡ offered_words middle
        → IsNextOffered t_now port middle ⊎ IsHeldBack t_now t_then → IsNextOffered t port port_then ⊎ IsHeldBack t t_then
    next_offered left words (inl offered) =
        inl (λ ready m rest here. subst (λ words. IsPrefix (offered_words port ++ message_accesses m) words) (sym words) (offered ready m rest (left ∙ here)))
    next_offered left words (inr held) = inr (record { left = held.left ∙ left; waits = held.waits })

    -- what the turn keeps
    pub host_kept : (round : ℕ) → t_now ≡ record t { rows = t_now.rows; ended = t_now.ended } → t_then ≡ record t_now { next = t_then.next; part = t_then.part } → t_now.next ≤ t_then.next
        → IsKeptPort port middle → IsKeptPort middle port_then → IsKeptRing ring ring_then → IsKeptHost round host host_then
    host_kept round came went onward kept kept_then kept_ring = record {
      asked = ap (λ (t : TransactionsSide). t.asked) went ∙ ap (λ (t : TransactionsSide). t.asked) came;
      onward = let same = ap (λ (t : TransactionsSide). t.next) came in omega (arith, same, onward);
      requests = kept_port_then kept kept_then;
      answers = kept_ring;
    }

    -- the turn, as it is answered
    pub host_turned : (round : ℕ) (popped offered : Bool) (found_1 found_2 found_then : Findings) (answer : Turn) → IsReceiveStep ring ring_then no_findings found_1 popped → IsIssued t_then port middle found_1 found_2 offered
        → IsPortTurned found_2.moved middle port_then found_2 found_then → IsKeptPort port middle → IsKeptPort middle port_then
        → IsTurnOf found_then (port_then.state.close_sent && has_ended ring_then) answer
        → middle.state.sent ≡ port.state.sent → IsPortServed middle port_then
        → left_of t_now ≡ left_of t → offered_words port_then ≡ offered_words middle → IsNextOffered t_now port middle ⊎ IsHeldBack t_now t_then
        → IsNextAimed t_then → (t_then.next ≡ length t_then.asked.lines → middle.state.close_requested ≡ true) → port_then.state.close_requested ≡ middle.state.close_requested
        → IsHostTurn host round answer host_then
    host_turned round popped offered found_1 found_2 found_then answer received issued turned kept kept_then told sent served left words next aimed due requested =
        let said = ends_turned popped offered found_1 found_2 found_then answer received issued turned kept kept_then told in record {
          answered = said.0;
          idle = said.1;
          few = few_popped popped found_1 received;
          port_served = served_since port middle port_then sent served;
          ring_served = ring_served popped found_1 received;
          next_offered = next_offered left words next;
          aimed = aimed;
          closes_when_due = λ all. requested ∙ due all;
        }

-- a turn that didn't move found no move
pub found_unmoved : (found : Findings) (done : Bool) (answer : Turn) → IsTurnOf found done answer → answer ≢ Moved → found.moved ≡ false
found_unmoved found done Moved told ne = absurd (ne refl)
found_unmoved found done Done told ne = told.0
found_unmoved found done (Idle cause) told ne = told.0

-- where a turn didn't move, nothing was popped
pub none_popped : (ring ring_then : RingSide) (popped : Bool) (found found_then : Findings) → IsReceiveStep ring ring_then found found_then popped → found_then.moved ≡ false → popped ≡ false
none_popped ring ring_then true found found_then received unmoved = absurd (true≢false (sym (ap (λ (f : Findings). f.moved) received.found_move) ∙ unmoved))
none_popped ring ring_then false found found_then received unmoved = refl

-- nor offered
pub none_offered : (t_then : TransactionsSide) (port port_then : PortSide) (offered : Bool) (found found_then : Findings) → IsIssued t_then port port_then found found_then offered → found_then.moved ≡ false → offered ≡ false
none_offered t_then port port_then true found found_then issued unmoved = absurd (true≢false (sym (ap (λ (f : Findings). f.moved) issued.found_move) ∙ unmoved))
none_offered t_then port port_then false found found_then issued unmoved = refl

-- what hasn't moved behind a step hadn't before it
pub unmoved_before : (now later : Bool) → (now ≡ true → later ≡ true) → later ≡ false → now ≡ false
unmoved_before true later goes_on unmoved = absurd (true≢false (sym (goes_on refl) ∙ unmoved))
unmoved_before false later goes_on unmoved = refl

-- a port at which a host offered nothing rests
pub rested_by_none : (t_then : TransactionsSide) (port port_then : PortSide) (found found_then : Findings) → HasOfferedNone t_then port port_then found found_then → IsKeptPort port port_then → IsRestedPort port port_then
rested_by_none t_then port port_then found found_then none kept = record {
  plan = ap (λ (p : PortSide). p.plan) none.same;
  mark = ap (λ (p : PortSide). p.mark) none.same;
  sent = ap (λ (p : PortSide). p.state.sent) none.same;
  waiting = ap (λ (p : PortSide). p.state.waiting) none.same;
  close_sent = ap (λ (p : PortSide). p.state.close_sent) none.same;
  words_offered = ap (λ (p : PortSide). p.state.words_offered) none.same;
  still_told = kept.still_told;
  learnt = kept.learnt;
}
