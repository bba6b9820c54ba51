-- The ends of a router by their places, once one of them met the other end of its ring, and after turns.
use Rattle.std.proofs.Common.{◌≡◌, ◌⊎◌, inl, inr, ℕ, ◌<◌, ◌≤◌, ◌-◌, ◌++◌, Bool, true, false, List, length, map, set, get_or, refl, sym, ap, ◌∙◌, subst, arith}
use Rattle.std.specs.Prelude.{nat_lt, if◌then◌else◌}
use Rattle.std.proofs.lemmas.Bool.Decides.{nat_tests}
use Rattle.std.proofs.lemmas.List.{get_or-append_right, get_or_append_left, length-append, length-map, map-set, set-append_left, set-append_right}
use Rattle.std.proofs.Math.ListN.{get_or-map}
use Rattle.sb_port.specs.Ports.{PortSide}
use Rattle.sb_node.specs.Kept.{IsKeptPort, IsKeptRing, IsPortMet, IsRingMet}
use Rattle.sb_node.specs.Sides.{RingSide}
use Rattle.sb_router.specs.Routers.{IsKeptRouter, IsWholeRouter, RouterSide, router_port, router_ports, router_ring, router_rings, router_with_port, router_with_ring, with_port, with_ring}
use Rattle.sb_router.specs.Lanes.{InletState, inlet_at, no_inlet, no_port, no_ring}
use Rattle.sb_router.proofs.Meetings as meetings

-- a place is before the others, or behind them
places : (k n : ℕ) → ((k < n) × (nat_lt k n ≡ true)) ⊎ ((n ≤ k) × (nat_lt k n ≡ false))
places k n = by_test (nat_lt k n) refl
  where
    by_test : (b : Bool) → nat_lt k n ≡ b → ((k < n) × (nat_lt k n ≡ true)) ⊎ ((n ≤ k) × (nat_lt k n ≡ false))
    by_test true e = inl (grind (arith, nat_tests), e)
    by_test false e = inr (grind (arith, nat_tests), e)

abbrev ring_in : InletState → RingSide
ring_in x = x.ring

module _ (r : RouterSide) (k : ℕ) where
  module _ (port : PortSide) where
    abbrev in_requests : RouterSide
    in_requests = record r { requests = with_port r.requests k port }

    abbrev in_answers : RouterSide
    in_answers = record r { answers = with_port r.answers (k - length r.requests.lane.outlets) port }

    pub port_ports : router_ports (router_with_port r k port) ≡ set (router_ports r) k port
    port_ports = let xs = r.requests.lane.outlets in let ys = r.answers.lane.outlets in elim (places k (length r.requests.lane.outlets)) [
      | inl w ↦ ap (λ (b : Bool). router_ports (if b then in_requests else in_answers)) w.1 ∙ sym (set-append_left xs ys k port w.0)
      | inr w ↦ ap (λ (b : Bool). router_ports (if b then in_requests else in_answers)) w.1 ∙ sym (set-append_right xs ys (length xs) k port refl w.0)
    ]

    pub port_rings : router_rings (router_with_port r k port) ≡ router_rings r
    port_rings = elim (places k (length r.requests.lane.outlets)) [
      | inl w ↦ ap (λ (b : Bool). router_rings (if b then in_requests else in_answers)) w.1
      | inr w ↦ ap (λ (b : Bool). router_rings (if b then in_requests else in_answers)) w.1
    ]

    pub port_whole : k < length (router_ports r) → IsPortMet (router_port r k) port → IsWholeRouter r → IsWholeRouter (router_with_port r k port)
    port_whole lt met whole = let xs = r.requests.lane.outlets in let ys = r.answers.lane.outlets in elim (places k (length r.requests.lane.outlets)) [
      | inl w ↦ subst (λ (b : Bool). IsWholeRouter (if b then in_requests else in_answers)) (sym w.1) (record {
        requests = meetings.port_whole r.requests k port w.0 (subst (λ (p : PortSide). IsPortMet p port) (get_or_append_left xs ys no_port k w.0) met) whole.requests;
        answers = whole.answers;
      })
      | inr w ↦ subst (λ (b : Bool). IsWholeRouter (if b then in_requests else in_answers)) (sym w.1) (record {
        requests = whole.requests;
        answers = meetings.port_whole r.answers (k - length xs) port (let le = w.0 in omega (arith, lt, le, length-append xs ys)) (subst (λ (p : PortSide). IsPortMet p port) (get_or-append_right xs ys (length xs) k no_port refl w.0) met) whole.answers;
      })
    ]

  module _ (ring : RingSide) where
    abbrev in_request_rings : RouterSide
    in_request_rings = record r { requests = with_ring r.requests k ring }

    abbrev in_answer_rings : RouterSide
    in_answer_rings = record r { answers = with_ring r.answers (k - length r.requests.lane.inlets) ring }

    pub ring_rings : router_rings (router_with_ring r k ring) ≡ set (router_rings r) k ring
    ring_rings = let xs = map ring_in r.requests.lane.inlets in let ys = map ring_in r.answers.lane.inlets in let n = length r.requests.lane.inlets in
        let long : length xs ≡ n = length-map r.requests.lane.inlets ring_in in
        elim (places k (length r.requests.lane.inlets)) [
          | inl w ↦ ap (λ (b : Bool). router_rings (if b then in_request_rings else in_answer_rings)) w.1
              ∙ ap (λ (l : List RingSide). l ++ ys) (map-set ring_in r.requests.lane.inlets k (record (inlet_at r.requests.lane k) { ring = ring }))
              ∙ sym (set-append_left xs ys k ring (let lt = w.0 in omega (arith, lt, long)))
          | inr w ↦ ap (λ (b : Bool). router_rings (if b then in_request_rings else in_answer_rings)) w.1
              ∙ ap (λ (l : List RingSide). xs ++ l) (map-set ring_in r.answers.lane.inlets (k - n) (record (inlet_at r.answers.lane (k - n)) { ring = ring }))
              ∙ sym (set-append_right xs ys n k ring long w.0)
        ]

    pub ring_ports : router_ports (router_with_ring r k ring) ≡ router_ports r
    ring_ports = elim (places k (length r.requests.lane.inlets)) [
      | inl w ↦ ap (λ (b : Bool). router_ports (if b then in_request_rings else in_answer_rings)) w.1
      | inr w ↦ ap (λ (b : Bool). router_ports (if b then in_request_rings else in_answer_rings)) w.1
    ]

    pub ring_whole : k < length (router_rings r) → IsRingMet (router_ring r k) ring → IsWholeRouter r → IsWholeRouter (router_with_ring r k ring)
    ring_whole lt met whole = let xs = map ring_in r.requests.lane.inlets in let ys = map ring_in r.answers.lane.inlets in let n = length r.requests.lane.inlets in
        let long : length xs ≡ n = length-map r.requests.lane.inlets ring_in in
        let other : length ys ≡ length r.answers.lane.inlets = length-map r.answers.lane.inlets ring_in in
        elim (places k (length r.requests.lane.inlets)) [
          | inl w ↦
              let at : router_ring r k ≡ (inlet_at r.requests.lane k).ring = get_or_append_left xs ys no_ring k (let lt = w.0 in omega (arith, lt, long)) ∙ get_or-map ring_in r.requests.lane.inlets k no_inlet in
              subst (λ (b : Bool). IsWholeRouter (if b then in_request_rings else in_answer_rings)) (sym w.1) (record {
                requests = meetings.ring_whole r.requests k ring w.0 (subst (λ (x : RingSide). IsRingMet x ring) at met) whole.requests;
                answers = whole.answers;
              })
          | inr w ↦
              let at : router_ring r k ≡ (inlet_at r.answers.lane (k - n)).ring = get_or-append_right xs ys n k no_ring long w.0 ∙ get_or-map ring_in r.answers.lane.inlets (k - n) no_inlet in
              subst (λ (b : Bool). IsWholeRouter (if b then in_request_rings else in_answer_rings)) (sym w.1) (record {
                requests = whole.requests;
                answers = meetings.ring_whole r.answers (k - n) ring (let le = w.0 in omega (arith, lt, le, long, other, length-append xs ys)) (subst (λ (x : RingSide). IsRingMet x ring) at met) whole.answers;
              })
        ]

-- what is kept at each place of two lists is kept at each place of both in a row
module _ {X : Type 0} (P : X → X → Type 0) (d : X) (xs ys us vs : List X) (long : length us ≡ length xs)
    (first : (k : ℕ) → P (get_or xs k d) (get_or us k d)) (second : (k : ℕ) → P (get_or ys k d) (get_or vs k d)) where
  both_kept : (k : ℕ) → P (get_or (xs ++ ys) k d) (get_or (us ++ vs) k d)
  both_kept k = elim (places k (length xs)) [
    | inl w ↦
        let lt : k < length us = (let lt = w.0 in omega (arith, lt, long)) in
        subst (λ (x : X). P x (get_or (us ++ vs) k d)) (sym (get_or_append_left xs ys d k w.0)) (subst (P (get_or xs k d)) (sym (get_or_append_left us vs d k lt)) (first k))
    | inr w ↦
        subst (λ (x : X). P x (get_or (us ++ vs) k d)) (sym (get_or-append_right xs ys (length xs) k d refl w.0))
        (subst (P (get_or ys (k - length xs) d)) (sym (get_or-append_right us vs (length xs) k d long w.0)) (second (k - length xs)))
  ]

module _ (r s : RouterSide) (kept : IsKeptRouter r s) where
  pub port_count : length (router_ports s) ≡ length (router_ports r)
  port_count = let a = kept.requests.lane.outlet_count in let b = kept.answers.lane.outlet_count in
      omega (arith, a, b, length-append r.requests.lane.outlets r.answers.lane.outlets, length-append s.requests.lane.outlets s.answers.lane.outlets)

  pub ports_kept : (k : ℕ) → IsKeptPort (router_port r k) (router_port s k)
  ports_kept = both_kept IsKeptPort no_port r.requests.lane.outlets r.answers.lane.outlets s.requests.lane.outlets s.answers.lane.outlets kept.requests.lane.outlet_count kept.requests.lane.outlets kept.answers.lane.outlets

  rings_long : length (map ring_in s.requests.lane.inlets) ≡ length (map ring_in r.requests.lane.inlets)
  rings_long = length-map s.requests.lane.inlets ring_in ∙ kept.requests.lane.inlet_count ∙ sym (length-map r.requests.lane.inlets ring_in)

  pub ring_count : length (router_rings s) ≡ length (router_rings r)
  ring_count = let a = rings_long in let b = kept.answers.lane.inlet_count in
      omega (arith, a, b, length-append (map ring_in r.requests.lane.inlets) (map ring_in r.answers.lane.inlets), length-append (map ring_in s.requests.lane.inlets) (map ring_in s.answers.lane.inlets), length-map r.answers.lane.inlets ring_in, length-map s.answers.lane.inlets ring_in)

  -- a ring is that of the inlet at its place
  ring_there : (xs us : List InletState) (k : ℕ) → IsKeptRing (get_or xs k no_inlet).ring (get_or us k no_inlet).ring → IsKeptRing (get_or (map ring_in xs) k no_ring) (get_or (map ring_in us) k no_ring)
  ring_there xs us k is = subst (λ (x : RingSide). IsKeptRing x (get_or (map ring_in us) k no_ring)) (sym (get_or-map ring_in xs k no_inlet)) (subst (IsKeptRing (get_or xs k no_inlet).ring) (sym (get_or-map ring_in us k no_inlet)) is)

  pub rings_kept : (k : ℕ) → IsKeptRing (router_ring r k) (router_ring s k)
  rings_kept = both_kept IsKeptRing no_ring (map ring_in r.requests.lane.inlets) (map ring_in r.answers.lane.inlets) (map ring_in s.requests.lane.inlets) (map ring_in s.answers.lane.inlets) rings_long
      (λ k. ring_there r.requests.lane.inlets s.requests.lane.inlets k (kept.requests.lane.inlets k).ring)
      (λ k. ring_there r.answers.lane.inlets s.answers.lane.inlets k (kept.answers.lane.inlets k).ring)
