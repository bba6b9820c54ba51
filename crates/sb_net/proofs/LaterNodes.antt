-- A node that is later than it was: it took turns, or one of its ends met the other one. It is at its place in its network still.
use Rattle.std.proofs.Common.{◌≡◌, ◌⊎◌, inl, inr, ℕ, suc, ◌<◌, ◌≤◌, ◌-◌, Bool, true, false, List, [], ◌∷◌, length, map, set, get_or, refl, sym, ap, ◌∙◌, subst, arith}
use Rattle.std.specs.Prelude.{nat_lt, if◌then◌else◌, slice_index_or}
use Rattle.std.proofs.lemmas.Bool.Decides.{nat_tests}
use Rattle.std.proofs.lemmas.List.{get_or-append_right, get_or-map, get_or-set_other, get_or-set_same, get_or_append_left, length-append, length-map, length-set}
use Rattle.std.proofs.lemmas.List.Elements.{All-from_get_or}
use Rattle.sb_packet.specs.Memories.{MemoryState}
use Rattle.sb_packet.specs.Networks.{Network, opening_memory}
use Rattle.sb_link.specs.RingPlans.{NetFlow, RingPlan, goes_through}
use Rattle.sb_flow.specs.Rings.{ring_plan}
use Rattle.sb_port.specs.Ports.{PortSide}
use Rattle.sb_node.specs.Kept.{IsPortMet, IsRingMet}
use Rattle.sb_node.specs.Sides.{RingSide}
use Rattle.sb_host.specs.Hosts.{HostSide}
use Rattle.sb_router.specs.Routers.{DirectionSide, ForwardsAll, IsKeptDirection, IsWholeDirection, RouterSide, router_ports, router_rings, router_with_port, router_with_ring, with_port, with_ring}
use Rattle.sb_router.specs.Forwarding.{Words}
use Rattle.sb_router.specs.Lanes.{InletState, inlet_at, no_inlet, no_port, no_ring, outlet_at}
use Rattle.sb_router.specs.Ways.{route_of}
use Rattle.sb_router.proofs.Meetings as meetings
use Rattle.sb_device.specs.Served.{HasServed}
use Rattle.sb_device.specs.Sides.{DeviceSide}
use Rattle.sb_device.proofs.Meetings as devices
use Rattle.sb_laws.specs.NodeSides.{IsHostBuiltFor}
use Rattle.sb_laws.specs.RouterSides.{IsBuiltFor, LeadsByPlans}
use Rattle.sb_member.specs.Ends.{member_with_port, member_with_ring, port_at, ports_of, ring_at, rings_of}
use Rattle.sb_member.specs.Members.{ByKind, IsKeptMember, IsWholeMember, by_kind_same, by_kind_then}
use Rattle.sb_member.specs.declared.member.Member.{Member}
use Rattle.sb_member.specs.declared.member.Member.TheVariants.{Host, Router, Device}
use Rattle.sb_member.proofs.EndsChanged.{below_one, ports_with_port, ports_with_ring, rings_with_port, rings_with_ring}
use Rattle.sb_member.proofs.RingsJoined.{same_or_not}
use Rattle.sb_member.proofs.Turned.{ports_kept, rings_kept}
use Rattle.sb_net.specs.Standing.{IsDeviceBuilt, IsDeviceNode, IsHostNode, IsRouterBuilt, IsRouterNode}

-- a host asks for the same script, at the same rings
pub record IsLaterHost (x y : HostSide) : Type 0 where
  pub asked : y.transactions.asked ≡ x.transactions.asked
  pub requests : y.requests.plan ≡ x.requests.plan
  pub answers : y.answers.plan ≡ x.answers.plan

-- a direction has the same table at the same rings, and forwards on
pub record IsLaterDirection (x y : DirectionSide) : Type 0 where
  pub rows : y.rows ≡ x.rows
  pub inlet_count : length y.lane.inlets ≡ length x.lane.inlets
  pub outlet_count : length y.lane.outlets ≡ length x.lane.outlets
  pub inlets : (i : ℕ) → (inlet_at y.lane i).ring.plan ≡ (inlet_at x.lane i).ring.plan
  pub outlets : (o : ℕ) → (outlet_at y.lane o).plan ≡ (outlet_at x.lane o).plan
  pub forwards : (words : Words) → ForwardsAll words x → ForwardsAll words y

pub record IsLaterRouter (x y : RouterSide) : Type 0 where
  pub requests : IsLaterDirection x.requests y.requests
  pub answers : IsLaterDirection x.answers y.answers

-- a device has the same number, at the same rings, and goes on with what it served
pub record IsLaterDevice (x y : DeviceSide) : Type 0 where
  pub number : y.number ≡ x.number
  pub requests : y.requests.plan ≡ x.requests.plan
  pub answers : y.answers.plan ≡ x.answers.plan
  pub serves : (opening : MemoryState) → HasServed opening x → HasServed opening y

-- nothing happened
same_host : (x : HostSide) → IsLaterHost x x
same_host x = record { asked = refl; requests = refl; answers = refl }

same_direction : (x : DirectionSide) → IsLaterDirection x x
same_direction x = record { rows = refl; inlet_count = refl; outlet_count = refl; inlets = λ i. refl; outlets = λ o. refl; forwards = λ words h. h }

same_router : (x : RouterSide) → IsLaterRouter x x
same_router x = record { requests = same_direction x.requests; answers = same_direction x.answers }

same_device : (x : DeviceSide) → IsLaterDevice x x
same_device x = record { number = refl; requests = refl; answers = refl; serves = λ opening h. h }

-- one thing after another
host_then : (x y z : HostSide) → IsLaterHost x y → IsLaterHost y z → IsLaterHost x z
host_then x y z a b = record { asked = b.asked ∙ a.asked; requests = b.requests ∙ a.requests; answers = b.answers ∙ a.answers }

direction_then : (x y z : DirectionSide) → IsLaterDirection x y → IsLaterDirection y z → IsLaterDirection x z
direction_then x y z a b = record {
  rows = b.rows ∙ a.rows;
  inlet_count = b.inlet_count ∙ a.inlet_count;
  outlet_count = b.outlet_count ∙ a.outlet_count;
  inlets = λ i. b.inlets i ∙ a.inlets i;
  outlets = λ o. b.outlets o ∙ a.outlets o;
  forwards = λ words h. b.forwards words (a.forwards words h);
}

router_then : (x y z : RouterSide) → IsLaterRouter x y → IsLaterRouter y z → IsLaterRouter x z
router_then x y z a b = record {
  requests = direction_then x.requests y.requests z.requests a.requests b.requests;
  answers = direction_then x.answers y.answers z.answers a.answers b.answers;
}

device_then : (x y z : DeviceSide) → IsLaterDevice x y → IsLaterDevice y z → IsLaterDevice x z
device_then x y z a b = record {
  number = b.number ∙ a.number;
  requests = b.requests ∙ a.requests;
  answers = b.answers ∙ a.answers;
  serves = λ opening h. b.serves opening (a.serves opening h);
}

-- what a host is built for it is built for later
pub host_stays : (network : Network) (place : ℕ) (x y : HostSide) → IsLaterHost x y → IsHostBuiltFor network place x → IsHostBuiltFor network place y
host_stays network place x y l built = record {
  asked = λ host at. l.asked ∙ built.asked host at;
  asks_by = λ k first. ap (λ (p : RingPlan). p.ring) l.requests ∙ built.asks_by k first;
  answered_by = λ k first. ap (λ (p : RingPlan). p.ring) l.answers ∙ built.answered_by k first;
}

-- lists of the same numbers
same_map : {A : Type 0} (f : A → ℕ) (xs ys : List A) (d : A) → length ys ≡ length xs → ((k : ℕ) → f (get_or ys k d) ≡ f (get_or xs k d)) → map f ys ≡ map f xs
same_map f [] [] d long same = refl
same_map f [] (y ∷ ys) d long same = absurd (omega arith)
same_map f (x ∷ xs) [] d long same = absurd (omega arith)
same_map f (x ∷ xs) (y ∷ ys) d long same = let here : f y ≡ f x = same 0 in
    ap (λ (n : ℕ). n ∷ map f ys) here ∙ ap (λ (list : List ℕ). f x ∷ list) (same_map f xs ys d (omega (arith, long)) (λ k. same (suc k)))

module _ (x y : DirectionSide) (l : IsLaterDirection x y) where
  table_stays : LeadsByPlans x → LeadsByPlans y
  table_stays t =
      let routes : (f : NetFlow) → route_of y.rows f ≡ route_of x.rows f = λ f. ap (λ rows. route_of rows f) l.rows in
      let through : (f : NetFlow) (o : ℕ) → goes_through (outlet_at y.lane o).plan.flows f ≡ goes_through (outlet_at x.lane o).plan.flows f = λ f o. ap (λ (p : RingPlan). goes_through p.flows f) (l.outlets o) in
      record {
        within = λ f o e. let inside = t.within f o (sym (routes f) ∙ e) in let long = l.outlet_count in omega (arith, inside, long);
        leads = λ f o host device e. through f o ∙ t.leads f o host device (sym (routes f) ∙ e);
        led = λ f o below e. routes f ∙ t.led f o (let long = l.outlet_count in omega (arith, below, long)) (sym (through f o) ∙ e);
      }

  pub direction_stays : (network : Network) (ins outs : List ℕ) → IsBuiltFor network ins outs x → IsBuiltFor network ins outs y
  direction_stays network ins outs built = record {
    comes_by = same_map (λ (i : InletState). i.ring.plan.ring) x.lane.inlets y.lane.inlets no_inlet l.inlet_count (λ i. ap (λ (p : RingPlan). p.ring) (l.inlets i)) ∙ built.comes_by;
    sends_by = same_map (λ (o : PortSide). o.plan.ring) x.lane.outlets y.lane.outlets no_port l.outlet_count (λ o. ap (λ (p : RingPlan). p.ring) (l.outlets o)) ∙ built.sends_by;
    in_plans = All-from_get_or (λ (i : InletState). i.ring.plan ≡ ring_plan network i.ring.plan.ring) y.lane.inlets no_inlet
        (λ i lt. let long = l.inlet_count in subst (λ (p : RingPlan). p ≡ ring_plan network p.ring) (sym (l.inlets i)) (built.in_plans i no_inlet (omega (arith, lt, long))));
    out_plans = All-from_get_or (λ (o : PortSide). o.plan ≡ ring_plan network o.plan.ring) y.lane.outlets no_port
        (λ o lt. let long = l.outlet_count in subst (λ (p : RingPlan). p ≡ ring_plan network p.ring) (sym (l.outlets o)) (built.out_plans o no_port (omega (arith, lt, long))));
    table = table_stays built.table;
  }

pub router_stays : (network : Network) (place : ℕ) (x y : RouterSide) → IsLaterRouter x y → IsRouterBuilt network place x → IsRouterBuilt network place y
router_stays network place x y l built = record {
  requests = direction_stays x.requests y.requests l.requests network _ _ built.requests;
  answers = direction_stays x.answers y.answers l.answers network _ _ built.answers;
  forwards_requests = l.requests.forwards _ built.forwards_requests;
  forwards_answers = l.answers.forwards _ built.forwards_answers;
}

pub device_stays : (network : Network) (place : ℕ) (x y : DeviceSide) → IsLaterDevice x y → IsDeviceBuilt network place x → IsDeviceBuilt network place y
device_stays network place x y l built = record {
  number = l.number ∙ built.number;
  into = ap (λ (p : RingPlan). p.ring) l.requests ∙ built.into;
  back = ap (λ (p : RingPlan). p.ring) l.answers ∙ built.back;
  serves = l.serves (opening_memory network place) built.serves;
}

-- a turn leads to later
kept_direction : (x y : DirectionSide) → IsWholeDirection x → IsKeptDirection x y → IsLaterDirection x y
kept_direction x y whole k = record {
  rows = k.rows;
  inlet_count = k.lane.inlet_count;
  outlet_count = k.lane.outlet_count;
  inlets = λ i. (k.lane.inlets i).ring.plan;
  outlets = λ o. (k.lane.outlets o).plan;
  forwards = λ words h. k.forwards words whole h;
}

-- and so does a meeting
module _ (d : DirectionSide) (k : ℕ) where
  met_port : (port : PortSide) → k < length d.lane.outlets → IsPortMet (outlet_at d.lane k) port → IsLaterDirection d (with_port d k port)
  met_port port lt met = record {
    rows = refl;
    inlet_count = refl;
    outlet_count = length-set d.lane.outlets k port;
    inlets = λ i. refl;
    outlets = λ o. same_or_not o k
        (λ e. ap (λ (n : ℕ). (get_or (set d.lane.outlets k port) n no_port).plan) e ∙ ap (λ (p : PortSide). p.plan) (get_or-set_same d.lane.outlets k port no_port lt) ∙ met.plan ∙ sym (ap (λ (n : ℕ). (outlet_at d.lane n).plan) e))
        (λ n. ap (λ (p : PortSide). p.plan) (get_or-set_other d.lane.outlets k o port no_port n));
    forwards = meetings.port_forwards d k port lt met;
  }

  met_ring : (ring : RingSide) → k < length d.lane.inlets → IsRingMet (inlet_at d.lane k).ring ring → IsLaterDirection d (with_ring d k ring)
  met_ring ring lt met = let x : InletState = record (inlet_at d.lane k) { ring = ring } in record {
    rows = refl;
    inlet_count = length-set d.lane.inlets k x;
    outlet_count = refl;
    inlets = λ i. same_or_not i k
        (λ e. ap (λ (n : ℕ). (get_or (set d.lane.inlets k x) n no_inlet).ring.plan) e ∙ ap (λ (z : InletState). z.ring.plan) (get_or-set_same d.lane.inlets k x no_inlet lt) ∙ met.plan ∙ sym (ap (λ (n : ℕ). (inlet_at d.lane n).ring.plan) e))
        (λ n. ap (λ (z : InletState). z.ring.plan) (get_or-set_other d.lane.inlets k i x no_inlet n));
    outlets = λ o. refl;
    forwards = meetings.ring_forwards d k ring lt met;
  }

-- a place is before the others, or behind them
places : (k n : ℕ) → ((k < n) × (nat_lt k n ≡ true)) ⊎ ((n ≤ k) × (nat_lt k n ≡ false))
places k n = by_test (nat_lt k n) refl
  where
    by_test : (b : Bool) → nat_lt k n ≡ b → ((k < n) × (nat_lt k n ≡ true)) ⊎ ((n ≤ k) × (nat_lt k n ≡ false))
    by_test true e = inl (grind (arith, nat_tests), e)
    by_test false e = inr (grind (arith, nat_tests), e)

abbrev ring_in : InletState → RingSide
ring_in x = x.ring

module _ (r : RouterSide) (k : ℕ) where
  router_met_port : (port : PortSide) → k < length (router_ports r) → IsPortMet (slice_index_or (router_ports r) k no_port) port → IsLaterRouter r (router_with_port r k port)
  router_met_port port lt met = let xs = r.requests.lane.outlets in let ys = r.answers.lane.outlets in
      let one : RouterSide = record r { requests = with_port r.requests k port } in
      let other : RouterSide = record r { answers = with_port r.answers (k - length xs) port } in
      elim (places k (length r.requests.lane.outlets)) [
        | inl w ↦ subst (λ (b : Bool). IsLaterRouter r (if b then one else other)) (sym w.1) (record {
          requests = met_port r.requests k port w.0 (subst (λ (p : PortSide). IsPortMet p port) (get_or_append_left xs ys no_port k w.0) met);
          answers = same_direction r.answers;
        })
        | inr w ↦ subst (λ (b : Bool). IsLaterRouter r (if b then one else other)) (sym w.1) (record {
          requests = same_direction r.requests;
          answers = met_port r.answers (k - length xs) port (let le = w.0 in omega (arith, lt, le, length-append xs ys)) (subst (λ (p : PortSide). IsPortMet p port) (get_or-append_right xs ys (length xs) k no_port refl w.0) met);
        })
      ]

  router_met_ring : (ring : RingSide) → k < length (router_rings r) → IsRingMet (slice_index_or (router_rings r) k no_ring) ring → IsLaterRouter r (router_with_ring r k ring)
  router_met_ring ring lt met = let xs = map ring_in r.requests.lane.inlets in let ys = map ring_in r.answers.lane.inlets in let n = length r.requests.lane.inlets in
      let long : length xs ≡ n = length-map r.requests.lane.inlets ring_in in
      let rest : length ys ≡ length r.answers.lane.inlets = length-map r.answers.lane.inlets ring_in in
      let one : RouterSide = record r { requests = with_ring r.requests k ring } in
      let other : RouterSide = record r { answers = with_ring r.answers (k - n) ring } in
      elim (places k (length r.requests.lane.inlets)) [
        | inl w ↦
            let at : slice_index_or (router_rings r) k no_ring ≡ (inlet_at r.requests.lane k).ring = get_or_append_left xs ys no_ring k (let lt = w.0 in omega (arith, lt, long)) ∙ get_or-map ring_in r.requests.lane.inlets k no_inlet no_ring w.0 in
            subst (λ (b : Bool). IsLaterRouter r (if b then one else other)) (sym w.1) (record {
              requests = met_ring r.requests k ring w.0 (subst (λ (x : RingSide). IsRingMet x ring) at met);
              answers = same_direction r.answers;
            })
        | inr w ↦
            let there : k - n < length r.answers.lane.inlets = (let le = w.0 in omega (arith, lt, le, long, rest, length-append xs ys)) in
            let at : slice_index_or (router_rings r) k no_ring ≡ (inlet_at r.answers.lane (k - n)).ring = get_or-append_right xs ys n k no_ring long w.0 ∙ get_or-map ring_in r.answers.lane.inlets (k - n) no_inlet no_ring there in
            subst (λ (b : Bool). IsLaterRouter r (if b then one else other)) (sym w.1) (record {
              requests = same_direction r.requests;
              answers = met_ring r.answers (k - n) ring there (subst (λ (x : RingSide). IsRingMet x ring) at met);
            })
      ]

module _ {F T U : Type 0} where
  -- a node is later than it was, by its kind
  abbrev pub IsLaterMember : Member F T U → Member F T U → Type 0
  IsLaterMember x y = ByKind IsLaterHost IsLaterRouter IsLaterDevice x y

  -- A node is later than it was, and has the same ends.
  pub record IsLaterNode (x y : Member F T U) : Type 0 where
    pub member : IsLaterMember x y
    pub port_count : length (ports_of y) ≡ length (ports_of x)
    pub ring_count : length (rings_of y) ≡ length (rings_of x)
    pub ports : (o : ℕ) → o < length (ports_of x) → (port_at y o).plan ≡ (port_at x o).plan
    pub rings : (i : ℕ) → i < length (rings_of x) → (ring_at y i).plan ≡ (ring_at x i).plan

  pub same_node : (x : Member F T U) → IsLaterNode x x
  same_node x = record { member = by_kind_same IsLaterHost IsLaterRouter IsLaterDevice same_host same_router same_device x; port_count = refl; ring_count = refl; ports = λ o lt. refl; rings = λ i lt. refl }

  pub node_then : (x y z : Member F T U) → IsLaterNode x y → IsLaterNode y z → IsLaterNode x z
  node_then x y z a b = record {
    member = by_kind_then IsLaterHost IsLaterRouter IsLaterDevice host_then router_then device_then x y z a.member b.member;
    port_count = b.port_count ∙ a.port_count;
    ring_count = b.ring_count ∙ a.ring_count;
    ports = λ o lt. b.ports o (let long = a.port_count in omega (arith, lt, long)) ∙ a.ports o lt;
    rings = λ i lt. b.rings i (let long = a.ring_count in omega (arith, lt, long)) ∙ a.rings i lt;
  }

  -- a turn leads to later
  turned_member : (round : ℕ) (x y : Member F T U) → IsWholeMember x → IsKeptMember round x y → IsLaterMember x y
  turned_member round (Host x) (Host y) w k = record { asked = k.asked; requests = k.requests.plan; answers = k.answers.plan }
  turned_member round (Router x) (Router y) w k = record { requests = kept_direction x.requests y.requests w.requests k.requests; answers = kept_direction x.answers y.answers w.answers k.answers }
  turned_member round (Device x) (Device y) w k = record { number = k.number; requests = k.requests.plan; answers = k.answers.plan; serves = k.serves }
  turned_member round (Host x) (Router y) w k = absurd k
  turned_member round (Host x) (Device y) w k = absurd k
  turned_member round (Router x) (Host y) w k = absurd k
  turned_member round (Router x) (Device y) w k = absurd k
  turned_member round (Device x) (Host y) w k = absurd k
  turned_member round (Device x) (Router y) w k = absurd k

  pub turned_node : (round : ℕ) (x y : Member F T U) → IsWholeMember x → IsKeptMember round x y → IsLaterNode x y
  turned_node round x y w k = let ports = ports_kept round x y k in let rings = rings_kept round x y k in record {
    member = turned_member round x y w k;
    port_count = ports.count;
    ring_count = rings.count;
    ports = λ o lt. (ports.each o lt).plan;
    rings = λ i lt. (rings.each i lt).plan;
  }

  -- and so does a meeting
  member_met_port : (m : Member F T U) (k : ℕ) (port : PortSide) → k < length (ports_of m) → IsPortMet (port_at m k) port → IsLaterMember m (member_with_port m k port)
  member_met_port (Host h) k port lt met = record { asked = refl; requests = (subst (λ i. IsPortMet (slice_index_or (h.requests ∷ []) i no_port) port) (below_one k lt) met).plan; answers = refl }
  member_met_port (Router r) k port lt met = router_met_port r k port lt met
  member_met_port (Device d) k port lt met = let here = subst (λ i. IsPortMet (slice_index_or (d.answers ∷ []) i no_port) port) (below_one k lt) met in
      record { number = refl; requests = refl; answers = here.plan; serves = λ opening h. devices.serves_with_port opening d port h here }

  member_met_ring : (m : Member F T U) (k : ℕ) (ring : RingSide) → k < length (rings_of m) → IsRingMet (ring_at m k) ring → IsLaterMember m (member_with_ring m k ring)
  member_met_ring (Host h) k ring lt met = record { asked = refl; requests = refl; answers = (subst (λ i. IsRingMet (slice_index_or (h.answers ∷ []) i no_ring) ring) (below_one k lt) met).plan }
  member_met_ring (Router r) k ring lt met = router_met_ring r k ring lt met
  member_met_ring (Device d) k ring lt met = let here = subst (λ i. IsRingMet (slice_index_or (d.requests ∷ []) i no_ring) ring) (below_one k lt) met in
      record { number = refl; requests = here.plan; answers = refl; serves = λ opening h. devices.serves_with_ring opening d ring h here }

  pub node_met_port : (m : Member F T U) (k : ℕ) (port : PortSide) → k < length (ports_of m) → IsPortMet (port_at m k) port → IsLaterNode m (member_with_port m k port)
  node_met_port m k port lt met = let now = ports_with_port m k port lt in record {
    member = member_met_port m k port lt met;
    port_count = ap (λ (list : List PortSide). length list) now ∙ length-set (ports_of m) k port;
    ring_count = ap (λ (list : List RingSide). length list) (rings_with_port m k port);
    ports = λ o within. ap (λ (list : List PortSide). (slice_index_or list o no_port).plan) now ∙ same_or_not o k
        (λ e. ap (λ (n : ℕ). (slice_index_or (set (ports_of m) k port) n no_port).plan) e ∙ ap (λ (p : PortSide). p.plan) (get_or-set_same (ports_of m) k port no_port lt) ∙ met.plan ∙ sym (ap (λ (n : ℕ). (port_at m n).plan) e))
        (λ n. ap (λ (p : PortSide). p.plan) (get_or-set_other (ports_of m) k o port no_port n));
    rings = λ i within. ap (λ (list : List RingSide). (slice_index_or list i no_ring).plan) (rings_with_port m k port);
  }

  pub node_met_ring : (m : Member F T U) (k : ℕ) (ring : RingSide) → k < length (rings_of m) → IsRingMet (ring_at m k) ring → IsLaterNode m (member_with_ring m k ring)
  node_met_ring m k ring lt met = let now = rings_with_ring m k ring lt in record {
    member = member_met_ring m k ring lt met;
    port_count = ap (λ (list : List PortSide). length list) (ports_with_ring m k ring);
    ring_count = ap (λ (list : List RingSide). length list) now ∙ length-set (rings_of m) k ring;
    ports = λ o within. ap (λ (list : List PortSide). (slice_index_or list o no_port).plan) (ports_with_ring m k ring);
    rings = λ i within. ap (λ (list : List RingSide). (slice_index_or list i no_ring).plan) now ∙ same_or_not i k
        (λ e. ap (λ (n : ℕ). (slice_index_or (set (rings_of m) k ring) n no_ring).plan) e ∙ ap (λ (p : RingSide). p.plan) (get_or-set_same (rings_of m) k ring no_ring lt) ∙ met.plan ∙ sym (ap (λ (n : ℕ). (ring_at m n).plan) e))
        (λ n. ap (λ (p : RingSide). p.plan) (get_or-set_other (rings_of m) k i ring no_ring n));
  }

  -- a node is the host, the router or the device at its place still
  pub host_node_stays : (network : Network) (place : ℕ) (x y : Member F T U) → IsLaterMember x y → IsHostNode network place x → IsHostNode network place y
  host_node_stays network place (Host x) (Host y) l is = host_stays network place x y l is
  host_node_stays network place (Host x) (Router y) l is = absurd l
  host_node_stays network place (Host x) (Device y) l is = absurd l
  host_node_stays network place (Router x) y l is = absurd is
  host_node_stays network place (Device x) y l is = absurd is

  pub router_node_stays : (network : Network) (place : ℕ) (x y : Member F T U) → IsLaterMember x y → IsRouterNode network place x → IsRouterNode network place y
  router_node_stays network place (Router x) (Router y) l is = router_stays network place x y l is
  router_node_stays network place (Router x) (Host y) l is = absurd l
  router_node_stays network place (Router x) (Device y) l is = absurd l
  router_node_stays network place (Host x) y l is = absurd is
  router_node_stays network place (Device x) y l is = absurd is

  pub device_node_stays : (network : Network) (place : ℕ) (x y : Member F T U) → IsLaterMember x y → IsDeviceNode network place x → IsDeviceNode network place y
  device_node_stays network place (Device x) (Device y) l is = device_stays network place x y l is
  device_node_stays network place (Device x) (Host y) l is = absurd l
  device_node_stays network place (Device x) (Router y) l is = absurd l
  device_node_stays network place (Host x) y l is = absurd is
  device_node_stays network place (Router x) y l is = absurd is
