-- Whatever could be handed on was: what is held still is for a port that was busy.
use Rattle.std.proofs.Common.{◌≡◌, ◌⊎◌, inl, inr, ℕ, ◌<◌, ◌≤◌, ◌+◌, true, List, [], ◌∷◌, ◌++◌, length, set, Option, Some, refl, sym, ap, ◌∙◌, subst, arith, append_assoc, length-append}
use Rattle.std.specs.Prelude.{flat_map}
use Rattle.std.proofs.lemmas.List.{append-nil, get_or-set_other, length-set}
use Rattle.sb_packet.specs.Accesses.{Access, accesses_of}
use Rattle.sb_packet.specs.Messages.{message_of}
use Rattle.sb_link.specs.RingPlans.{RingPlan}
use Rattle.sb_link.specs.Traffic.{MayPass}
use Rattle.sb_packet.specs.declared.packet.Packet.{Packet}
use Rattle.sb_port.specs.Ports.{PortSide, offered_words, owes}
use Rattle.sb_router.specs.Steps.{HeldAwaitsBusy, IsGiven, MayPassEach, WasOffered, emptied}
use Rattle.sb_router.specs.Popping.{Drops, IsWaiting, Offers}
use Rattle.sb_router.specs.Lanes.{InletState, LaneState, Route, inlet_at, next_place, no_inlet, no_port, outlet_at}
use Rattle.sb_router.specs.Forwarding.{IsWholeLane}
use Rattle.sb_router.proofs.Cases.{le_cases}
use Rattle.sb_router.proofs.NextPlaces.{next_within}
use Rattle.sb_router.proofs.Places.{at_each, so_far}

-- a port is as it was, or was offered some packets
abbrev pub OfferedSome : PortSide → PortSide → Type 0
OfferedSome before now = (now ≡ before) ⊎ (WasOffered before now × (now.plan ≡ before.plan))

-- a packet goes to a port that owes an item
pub record AwaitsOwingPort (now : LaneState) (next : Option ℕ) : Type 0 where
  pub place : ℕ
  pub within : place < length now.outlets
  pub is_next : next ≡ Some place
  pub owing : owes (outlet_at now place).state ≡ true

-- what is held of a ring is for such a port
abbrev pub WaitsAt : Route → LaneState → InletState → Type 0
WaitsAt route now x = (p : Packet) → x.held ≡ Some p → AwaitsOwingPort now (next_place route x.ring.plan p)

-- So it is with the rings before a place.
pub record BusySoFar (route : Route) (s now : LaneState) (place : ℕ) : Type 0 where
  pub ports : (o : ℕ) → OfferedSome (outlet_at s o) (outlet_at now o)
  pub held : (j : ℕ) → j < place → WaitsAt route now (inlet_at now j)

pub busy_none : (route : Route) (s : LaneState) → BusySoFar route s s 0
busy_none route s = record { ports = λ o. inl refl; held = λ j lt. absurd (omega arith) }

-- one more packet passes behind others that do
pass_then : (plan : RingPlan) (words : ℕ) (list : List Packet) (p : Packet) → MayPassEach plan words list → MayPass plan (words + length (flat_map accesses_of list)) (message_of p) → MayPassEach plan words (list ++ p ∷ [])
pass_then plan words [] p pass last = (subst (λ (n : ℕ). MayPass plan n (message_of p)) (omega arith) last, tt)
pass_then plan words (q ∷ list) p pass last =
    let both : length (flat_map accesses_of (q ∷ list)) ≡ length (accesses_of q) + length (flat_map accesses_of list) = length-append (accesses_of q) (flat_map accesses_of list) in
    let count : words + length (flat_map accesses_of (q ∷ list)) ≡ words + length (accesses_of q) + length (flat_map accesses_of list) = omega (arith, both) in
    (pass.0, pass_then plan (words + length (accesses_of q)) list p pass.1 (subst (λ (n : ℕ). MayPass plan n (message_of p)) count last))

-- the words of one more packet come behind theirs
words_then : (list : List Packet) (p : Packet) → flat_map accesses_of list ++ accesses_of p ≡ flat_map accesses_of (list ++ p ∷ [])
words_then [] p = sym (append-nil (accesses_of p))
words_then (q ∷ list) p = append_assoc (accesses_of q) (flat_map accesses_of list) (accesses_of p) ∙ ap (λ (l : List Access). accesses_of q ++ l) (words_then list p)

-- a port that was offered some packets is offered one more
offered_more : {before now then : PortSide} {p : Packet} → OfferedSome before now → IsGiven now then p → OfferedSome before then
offered_more {before} {now} {then} {p} (inl same) given = inr (subst (λ (port : PortSide). WasOffered port then) same first, given.kept.plan ∙ ap (λ (port : PortSide). port.plan) same)
  where
    first : WasOffered now then
    first = record { packet = p; others = []; pass = (given.passes, tt); words = given.words ∙ ap (λ (l : List Access). offered_words now ++ l) (sym (append-nil (accesses_of p))) }
offered_more {before} {now} {then} {p} (inr offered) given = inr (
  record {
    packet = so_far.packet;
    others = so_far.others ++ p ∷ [];
    pass = pass_then before.plan (length (offered_words before)) all p so_far.pass (subst (λ (plan : RingPlan). MayPass plan (length (offered_words before) + length (flat_map accesses_of all)) (message_of p)) offered.1 (subst (λ (n : ℕ). MayPass now.plan n (message_of p)) count given.passes));
    words = given.words ∙ ap (λ (l : List Access). l ++ accesses_of p) so_far.words ∙ append_assoc (offered_words before) (flat_map accesses_of all) (accesses_of p) ∙ ap (λ (l : List Access). offered_words before ++ l) (words_then all p);
  },
  given.kept.plan ∙ offered.1,
)
  where
    so_far : WasOffered before now
    so_far = offered.0

    all : List Packet
    all = so_far.packet ∷ so_far.others

    count : length (offered_words now) ≡ length (offered_words before) + length (flat_map accesses_of all)
    count = ap length so_far.words ∙ length-append (offered_words before) (flat_map accesses_of all)

module _ {route : Route} {s now : LaneState} {place : ℕ} (h : BusySoFar route s now place) (lt : place < length now.inlets) where
  -- a packet was offered
  pub busy_offer : {then : LaneState} → IsWholeLane route now → Offers route place now then → BusySoFar route s then (place + 1)
  busy_offer {then} w offer = subst (λ (u : LaneState). BusySoFar route s u (place + 1)) (sym offer.state) (record {
    ports = at_each now.outlets o y no_port within (λ q z. OfferedSome (outlet_at s q) z) (offered_more (h.ports o) offer.given) h.ports;
    held = so_far now.inlets place (emptied (inlet_at now place)) no_inlet lt (λ _ x. WaitsAt route t x) (λ p e. let no_way : ⊥ = cc in absurd no_way) (λ j earlier p e. owing_still (h.held j earlier p e));
  })
    where
      o : ℕ
      o = offer.place

      y : PortSide
      y = offer.port

      within : o < length now.outlets
      within = next_within route (inlet_at now place).ring.plan offer.packet o (length now.outlets) w.routed offer.next

      t : LaneState
      t = record { inlets = set now.inlets place (emptied (inlet_at now place)); outlets = set now.outlets o y }

      -- a port that owes isn't the one that was ready
      owing_still : {next : Option ℕ} → AwaitsOwingPort now next → AwaitsOwingPort t next
      owing_still a =
          let other : a.place ≡ o → ⊥ = λ same. (let owing = sym (ap (λ (q : ℕ). owes (outlet_at now q).state) same) ∙ a.owing in let ready = offer.given.ready in cc) in
          record {
            place = a.place;
            within = omega (arith, a.within, length-set now.outlets o y);
            is_next = a.is_next;
            owing = ap (λ (z : PortSide). owes z.state) (get_or-set_other now.outlets o a.place y no_port other) ∙ a.owing;
          }

  -- one was dropped
  pub busy_drop : {then : LaneState} → Drops route place now then → BusySoFar route s then (place + 1)
  busy_drop drop' = subst (λ (u : LaneState). BusySoFar route s u (place + 1)) (sym drop'.state) (record {
    ports = h.ports;
    held = so_far now.inlets place (emptied (inlet_at now place)) no_inlet lt (λ _ x. WaitsAt route (record now { inlets = set now.inlets place (emptied (inlet_at now place)) }) x) (λ p e. let no_way : ⊥ = cc in absurd no_way)
        (λ j earlier p e. let a = h.held j earlier p e in record { place = a.place; within = a.within; is_next = a.is_next; owing = a.owing });
  })

  -- what is held waits
  pub busy_wait : IsWholeLane route now → IsWaiting route place now → BusySoFar route s now (place + 1)
  busy_wait w waits = record {
    ports = h.ports;
    held = λ j below. elim (le_cases j place below) [
      | inl earlier ↦ h.held j earlier
      | inr same ↦ subst (λ (k : ℕ). WaitsAt route now (inlet_at now k)) (sym same) here
    ];
  }
    where
      here : WaitsAt route now (inlet_at now place)
      here p e = let a = waits.owing p e in record { place = a.0; within = next_within route (inlet_at now place).ring.plan p a.0 (length now.outlets) w.routed a.1; is_next = a.1; owing = a.2 }

-- what is held still is for a port that was busy
pub busy_all : {route : Route} {s now : LaneState} {place : ℕ} → BusySoFar route s now place → length now.inlets ≤ place → HeldAwaitsBusy route s now
busy_all {route} {s} {now} h over i p lt e =
    let a = h.held i (omega (arith, over, lt)) p e in
    record {
      place = a.place;
      within = a.within;
      is_next = a.is_next;
      busy = elim (h.ports a.place) [
        | inl same ↦ inl (ap (λ (port : PortSide). owes port.state) (sym same) ∙ a.owing)
        | inr offered ↦ inr offered.0
      ];
    }
