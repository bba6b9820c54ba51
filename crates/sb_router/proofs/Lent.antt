-- The ends of a router, lent by their places.
use Rattle.std.proofs.Common.{◌≡◌, ℕ, ◌<◌, ◌≤◌, ◌-◌, Bool, true, false, length, map, sym, ap, ◌∙◌, arith}
use Rattle.std.specs.Prelude.{nat_lt, if◌then◌else◌}
use Rattle.std.proofs.lemmas.Bool.Decides.{nat_tests}
use Rattle.std.proofs.lemmas.List.{get_or-append_right, get_or_append_left, length-map}
use Rattle.std.proofs.Math.ListN.{get_or-map}
use Rattle.sb_port.specs.Ports.{PortSide}
use Rattle.sb_node.specs.Sides.{RingSide}
use Rattle.sb_router.specs.RouterOf.{core_with_port, core_with_ring, lane_of, lane_with_port, lane_with_ring, router_core_side}
use Rattle.sb_router.specs.Routers.{router_port, router_ring}
use Rattle.sb_router.specs.Lanes.{InletState, inlet_at, no_inlet, no_port, no_ring, outlet_at}
use Rattle.sb_router.specs.declared.router_core.RouterCore.{RouterCore}

before_them : (k n : ℕ) → k < n → nat_lt k n ≡ true
before_them k n lt = grind (arith, nat_tests)

behind_them : (k n : ℕ) → n ≤ k → nat_lt k n ≡ false
behind_them k n le = grind (arith, nat_tests)

module _ {T U : Type 0} (core : RouterCore T U) (k : ℕ) where
  -- the place is one of requests
  pub port_of_requests : k < length core.requests.outlets.items → outlet_at (lane_of core.requests) k ≡ router_port (router_core_side core) k
  port_of_requests lt = sym (get_or_append_left core.requests.outlets.items core.answers.outlets.items no_port k lt)

  pub with_port_of_requests : (port : PortSide) → k < length core.requests.outlets.items → record core { requests = lane_with_port core.requests k port } ≡ core_with_port core k port
  with_port_of_requests port lt = ap (λ (b : Bool). if b then record core { requests = lane_with_port core.requests k port } else record core { answers = lane_with_port core.answers (k - length core.requests.outlets.items) port }) (sym (before_them k (length core.requests.outlets.items) lt))

  pub ring_of_requests : k < length core.requests.inlets.items → (inlet_at (lane_of core.requests) k).ring ≡ router_ring (router_core_side core) k
  ring_of_requests lt =
      let xs = core.requests.inlets.items in
      let ys = core.answers.inlets.items in
      sym (get_or_append_left (map (λ (x : InletState). x.ring) xs) (map (λ (x : InletState). x.ring) ys) no_ring k (omega (arith, lt, length-map xs (λ (x : InletState). x.ring))) ∙ get_or-map (λ (x : InletState). x.ring) xs k no_inlet)

  pub with_ring_of_requests : (ring : RingSide) → k < length core.requests.inlets.items → record core { requests = lane_with_ring core.requests k ring } ≡ core_with_ring core k ring
  with_ring_of_requests ring lt = ap (λ (b : Bool). if b then record core { requests = lane_with_ring core.requests k ring } else record core { answers = lane_with_ring core.answers (k - length core.requests.inlets.items) ring }) (sym (before_them k (length core.requests.inlets.items) lt))

  -- or it is one of answers
  module _ (n : ℕ) where
    pub port_of_answers : length core.requests.outlets.items ≡ n → n ≤ k → outlet_at (lane_of core.answers) (k - n) ≡ router_port (router_core_side core) k
    port_of_answers long le = sym (get_or-append_right core.requests.outlets.items core.answers.outlets.items n k no_port long le)

    pub with_port_of_answers : (port : PortSide) → length core.requests.outlets.items ≡ n → n ≤ k → record core { answers = lane_with_port core.answers (k - n) port } ≡ core_with_port core k port
    with_port_of_answers port long le = ap (λ (m : ℕ). (let c : RouterCore T U = record core { answers = lane_with_port core.answers (k - m) port } in c)) (sym long)
        ∙ ap (λ (b : Bool). if b then record core { requests = lane_with_port core.requests k port } else record core { answers = lane_with_port core.answers (k - length core.requests.outlets.items) port }) (sym (behind_them k (length core.requests.outlets.items) (omega (arith, long, le))))

    pub ring_of_answers : length core.requests.inlets.items ≡ n → n ≤ k → (inlet_at (lane_of core.answers) (k - n)).ring ≡ router_ring (router_core_side core) k
    ring_of_answers long le =
        let xs = core.requests.inlets.items in
        let ys = core.answers.inlets.items in
        sym (get_or-append_right (map (λ (x : InletState). x.ring) xs) (map (λ (x : InletState). x.ring) ys) n k no_ring (length-map xs (λ (x : InletState). x.ring) ∙ long) le ∙ get_or-map (λ (x : InletState). x.ring) ys (k - n) no_inlet)

    pub with_ring_of_answers : (ring : RingSide) → length core.requests.inlets.items ≡ n → n ≤ k → record core { answers = lane_with_ring core.answers (k - n) ring } ≡ core_with_ring core k ring
    with_ring_of_answers ring long le = ap (λ (m : ℕ). (let c : RouterCore T U = record core { answers = lane_with_ring core.answers (k - m) ring } in c)) (sym long)
        ∙ ap (λ (b : Bool). if b then record core { requests = lane_with_ring core.requests k ring } else record core { answers = lane_with_ring core.answers (k - length core.requests.inlets.items) ring }) (sym (behind_them k (length core.requests.inlets.items) (omega (arith, long, le))))
