-- Ports and rings as they stand in their nodes keep the promises of whole runs.
use Rattle.std.proofs.Common.{◌≡◌, ◌<◌, ℕ, ◌+◌, Bool, true, false, List, [], ◌∷◌, length, refl, sym, ap, ◌∙◌, arith, subst}
use Rattle.std.specs.Prelude.{◌==◌, ◌||◌, ◌&&◌, not, All, Option, Some, None, is_some}
use Rattle.std.proofs.lemmas.Bool.Decides.{nat_tests}
use Rattle.std.proofs.lemmas.Bool.{or_parts}
use Rattle.sb_link.specs.Ends.{HaveMet}
use Rattle.sb_packet.specs.Messages.{Message}
use Rattle.sb_link.specs.Prefixes.{IsPrefix}
use Rattle.sb_packet.specs.Cuts.{IsSound}
use Rattle.sb_link.specs.Traffic.{has_close, item_accesses, item_messages, AreInTurn}
use Rattle.sb_packet.specs.declared.item.Item.{Item}
use Rattle.sb_port.specs.Waiting.{some_owed}
use Rattle.sb_port.specs.Ports.{IsFit, PortSide, PortState, owes}
use Rattle.sb_node.specs.Sides.{RingSide, has_rest, is_full}
use Rattle.sb_laws.specs.Moments.{Moment, ClosesLast}
use Rattle.sb_laws.specs.Runs.{IsLink, IsPort}
use Rattle.sb_laws.specs.NodeSides.{HasPort, HasRing, ShowsPort, ShowsRing}
use Rattle.sb_laws.specs.Standstills.{IsIdlePort, IsTrueRing, RoundEnd}
use Rattle.sb_laws.proofs.InTurn.{turn_closes_last}
use Rattle.sb_laws.proofs.PortSides.{sent_in_order, all_sent, closed_all_sent}

pub port_promise : (m : Moment) (r : ℕ) (port : PortSide) → IsFit port.plan port.state → HasPort m r port → IsPort m r
port_promise m r port fit has = record {
  in_order = subst (λ (list : List Item). IsPrefix (item_accesses list) (m.offered r)) (sym has.sent) (rw has.offered (sent_in_order port.plan port.state fit));
  sound = subst (λ (list : List Item). All IsSound (item_messages list)) (sym has.sent) fit.sound;
  closed = λ close_sent. ap item_accesses has.sent ∙ closed_all_sent port.plan port.state fit (ap has_close (sym has.sent) ∙ close_sent) ∙ sym has.offered;
}

pub link_promise : (m : Moment) (r : ℕ) (port : PortSide) (ring : RingSide) → HasPort m r port → HasRing m r ring → AreInTurn port.plan port.state.sent → IsPrefix ring.received port.state.sent → IsLink m r
link_promise m r port ring has got turn prefix = record {
  in_order = rw (has.sent, got.received) prefix;
  closes_last = subst ClosesLast (sym has.sent) (turn_closes_last port.plan port.state.sent turn);
}

left_true : (a b : Bool) → a ≡ true → (a || b) ≡ true
left_true true b h = refl
left_true false b h = absurd (cc)

right_true : (a b : Bool) → b ≡ true → (a || b) ≡ true
right_true true b h = refl
right_true false b h = h

none_held : {A : Type 0} (o : Option A) → is_some o ≡ false → o ≡ None
none_held None e = refl
none_held (Some x) e = absurd (cc)

-- a message is owed, or none is
nothing_owed : (s : PortState) → some_owed s.waiting ≡ false → s.waiting.owed ≡ []
nothing_owed s e = by_list s.waiting.owed refl
  where
    by_list : (list : List Message) → s.waiting.owed ≡ list → s.waiting.owed ≡ []
    by_list [] is = is
    by_list (m ∷ rest) is = absurd (let never = rw is at e in cc)

told_and_shut : (told close_sent : Bool) → (told && not close_sent) ≡ false → told ≡ true → close_sent ≡ true
told_and_shut true true e t = refl
told_and_shut true false e t = absurd (cc)
told_and_shut false close_sent e t = absurd (cc)

pub idle_port : (s : RoundEnd) (r : ℕ) (port : PortSide) → IsFit port.plan port.state → ShowsPort s r port → (has_rest port ≡ true → is_full port ≡ true) → IsIdlePort s r
idle_port s r port fit shows full = record {
  owes = λ e. shows.full ∙ full (left_true (owes port.state) (is_some port.state.waiting.held) (sym shows.owes ∙ e));
  merges = λ e. shows.full ∙ full (right_true (owes port.state) (is_some port.state.waiting.held) (sym shows.merges ∙ e));
  settled = λ owes_none merges_none. ap item_accesses shows.lists.sent
      ∙ all_sent port.plan port.state fit (nothing_owed port.state (or_parts (some_owed port.state.waiting) (port.state.close_requested && not port.state.close_sent) (sym shows.owes ∙ owes_none)).0) (none_held port.state.waiting.held (sym shows.merges ∙ merges_none)) ∙ sym shows.lists.offered;
  closed = λ told owes_none merges_none. ap has_close shows.lists.sent ∙ sym fit.close
      ∙ told_and_shut port.state.close_requested port.state.close_sent (or_parts (some_owed port.state.waiting) (port.state.close_requested && not port.state.close_sent) (sym shows.owes ∙ owes_none)).1 (sym shows.told ∙ told);
}

pub true_ring : (s : RoundEnd) (r : ℕ) (port : PortSide) (ring : RingSide) → ShowsPort s r port → ShowsRing s r ring → AreInTurn port.plan port.state.sent → 0 < port.plan.capacity →
    HaveMet port.state.sent port.taken ring.received ring.known → IsTrueRing s r
true_ring s r port ring shows got turn room met = record {
  link = link_promise s.at r port ring shows.lists got.lists turn met.in_order;
  full = λ e. let test : (length port.state.sent == port.taken + port.plan.capacity) ≡ true = sym shows.full ∙ e in
      let same : length port.state.sent ≡ port.taken + port.plan.capacity = grind (arith, nat_tests) in
      let behind = met.told_producer in
      omega (arith, ap length shows.lists.sent, ap length got.lists.received);
  empty = λ e. let test : (length ring.received == ring.known) ≡ true = sym got.empty ∙ e in
      let same : length ring.received ≡ ring.known = grind (arith, nat_tests) in
      let ahead = met.told_consumer in
      omega (arith, ap length shows.lists.sent, ap length got.lists.received);
}
