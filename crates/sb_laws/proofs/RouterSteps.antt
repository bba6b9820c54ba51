-- One router on the way of a flow keeps its promise.
use Rattle.std.proofs.Common.{◌≡◌, ◌<◌, ℕ, suc, Bool, true, false, List, [], ◌∷◌, length, refl, sym, ap, ◌∙◌, arith, subst}
use Rattle.std.specs.Prelude.{◌==◌, ◌&&◌, filter, map, get_or, slice_index_or}
use Rattle.std.specs.List.{list_any, range_with_len}
use Rattle.std.proofs.lemmas.Bool.Decides.{nat_tests}
use Rattle.std.proofs.lemmas.List.{get_or-map, length-map}
use Rattle.std.proofs.lemmas.List.FromFn.{get_or-range_with_len, length-range_with_len}
use Rattle.std.proofs.lemmas.Bool.{and_parts}
use Rattle.sb_packet.specs.Networks.{Network}
use Rattle.sb_link.specs.RingPlans.{NetFlow, RingPlan, goes_through}
use Rattle.sb_flow.specs.Rings.{flow_table, ring_flows, ring_plan, ring_ways}
use Rattle.sb_flow.specs.Ways.{NetWay}
use Rattle.sb_flow.proofs.LinkMarks.{list_any-map}
use Rattle.sb_router.specs.Forwarding.{HasForwarded, Passes, Words}
use Rattle.sb_port.specs.Ports.{PortSide}
use Rattle.sb_router.specs.Lanes.{InletState, inlet_at, no_inlet, no_port, outlet_at}
use Rattle.sb_router.specs.Ways.{route_of}
use Rattle.sb_router.specs.Routers.{DirectionSide, ForwardsAll}
use Rattle.sb_laws.specs.Flows.{Course, is_among_flows, is_same_flow}
use Rattle.sb_laws.specs.Moments.{Moment}
use Rattle.sb_laws.specs.NetworkLayouts.{way_flow}
use Rattle.sb_laws.specs.Runs.{ForwardsFlow}
use Rattle.sb_laws.specs.RouterSides.{IsRouterAt, IsRouterOf}
use Rattle.sb_laws.proofs.FlowMembers.{same_flow_from}
use Rattle.sb_laws.proofs.LinksOfWays.{in_cases, is_in}
use Rattle.sb_laws.proofs.ListPlaces.{any_passing}
use Rattle.sb_laws.proofs.PlannedWords.{any_weaker, table_at}
use Rattle.sb_laws.proofs.RouterSides.{router_promise}

-- the place of a number that is among others
pub place_in : (k : ℕ) (list : List ℕ) → is_in k list ≡ true → (i : ℕ) × (i < length list) × (get_or list i 0 ≡ k)
place_in k [] e = absurd (cc)
place_in k (x ∷ list) e = in_cases ((i : ℕ) × (i < length (x ∷ list)) × (get_or (x ∷ list) i 0 ≡ k)) k x list e
    (λ same. (0, omega arith, same)) (λ later. let rest = place_in k list later in (suc rest.0, (let below = rest.1 in omega arith), rest.2))

-- a number below n that passes a test is among those that do
pub passing_number : (test : ℕ → Bool) (n k : ℕ) → k < n → test k ≡ true → is_in k (filter test (range_with_len 0 n)) ≡ true
passing_number test n k below t =
    let at : get_or (range_with_len 0 n) k 0 ≡ k = omega (arith, get_or-range_with_len 0 n k 0 below) in
    let same : (k == k) ≡ true = grind (arith, nat_tests) in
    any_passing (λ i. i == k) test (range_with_len 0 n) k 0 (omega (arith, below, length-range_with_len 0 n)) (ap test at ∙ t) (ap (λ (i : ℕ). i == k) at ∙ same)

-- a flow that passes a test is among those of its list that do
pub among_kept : (test : NetFlow → Bool) (fs : List NetFlow) (i : ℕ) (d : NetFlow) → i < length fs → test (get_or fs i d) ≡ true → is_among_flows (get_or fs i d) (filter test fs) ≡ true
among_kept test fs i d below t =
    let f = get_or fs i d in
    any_passing (is_same_flow f) test fs i d below t (same_flow_from f f refl (grind (arith, nat_tests)))

-- a flow of one of a ring's ways goes over it by its plan
pub through_way : (network : Network) (ring : ℕ) (ws : List NetWay) (f : NetFlow) → ring_ways network ring ≡ ws → f.host < 32 → f.device < 32 → list_any (λ way. (way.host.id == f.host) && (way.device == f.device)) ws ≡ true → goes_through (ring_flows network ring) f ≡ true
through_way network ring ws f same host device some =
    let ways = ring_ways network ring in
    let row : List Bool = map (λ d. list_any (λ way. (way.host.id == f.host) && (way.device == d)) ways) (range_with_len 0 32) in
    let at_host : slice_index_or (flow_table ways) f.host [] ≡ row = table_at (λ id. map (λ d. list_any (λ way. (way.host.id == id) && (way.device == d)) ways) (range_with_len 0 32)) 32 f.host [] host in
    ap (λ (r : List Bool). slice_index_or r f.device false) at_host
    ∙ table_at (λ d. list_any (λ way. (way.host.id == f.host) && (way.device == d)) ways) 32 f.device false device
    ∙ ap (list_any (λ way. (way.host.id == f.host) && (way.device == f.device))) same ∙ some

pub through_flow : (network : Network) (ring : ℕ) (ws : List NetWay) (fs : List NetFlow) (f : NetFlow) → ring_ways network ring ≡ ws → fs ≡ map way_flow ws → f.host < 32 → f.device < 32 → is_among_flows f fs ≡ true → goes_through (ring_flows network ring) f ≡ true
through_flow network ring ws fs f same flows host device among =
    let there : list_any (λ way. is_same_flow f (way_flow way)) ws ≡ true = sym (list_any-map (is_same_flow f) way_flow ws) ∙ ap (is_among_flows f) (sym flows) ∙ among in
    through_way network ring ws f same host device
    (any_weaker (λ way. is_same_flow f (way_flow way)) (λ way. (way.host.id == f.host) && (way.device == f.device))
    (λ way e. let parts = and_parts (f.host == way.host.id) (f.device == way.device) e in
    let host_test = parts.0 in
    let device_test = parts.1 in
    let host : (way.host.id == f.host) ≡ true = grind (arith, nat_tests) in
    let device : (way.device == f.device) ≡ true = grind (arith, nat_tests) in
    rw (host, device) refl) ws there)

-- what the law of routers says of each flow that passes a direction
abbrev pub RoutersHandOn : Type 0
RoutersHandOn = (words : Words) (d : DirectionSide) (f : NetFlow) (i o : ℕ) → ForwardsAll words d → Passes (route_of d.rows) d.lane f i o → HasForwarded words d.lane f i o

-- A router keeps its promise for a flow that goes over one of its rings that come in and over one of those that go out.
pub one_step : RoutersHandOn → (network : Network) (c : Course) (m : Moment) (ins outs : List ℕ) (d : DirectionSide) → IsRouterAt network c m ins outs d → IsRouterOf c outs d.lane → (f : NetFlow) (a b : ℕ) →
    is_in a ins ≡ true → is_in b outs ≡ true → goes_through (ring_flows network a) f ≡ true → goes_through (ring_flows network b) f ≡ true → ForwardsFlow network c m f a b
one_step hand_on network c m ins outs d at of f a b comes goes by_in by_out =
    subst (λ (n : ℕ). ForwardsFlow network c m f n b) in_number (subst (ForwardsFlow network c m f (inlet_at d.lane i).ring.plan.ring) out_number
    (router_promise network c m outs (route_of d.rows) d.lane at.has of at.whole f i o passes (hand_on _ d f i o at.forwards passes)))
  where
    in_place : (i : ℕ) × (i < length ins) × (get_or ins i 0 ≡ a)
    in_place = place_in a ins comes

    out_place : (o : ℕ) × (o < length outs) × (get_or outs o 0 ≡ b)
    out_place = place_in b outs goes

    i : ℕ
    i = in_place.0

    o : ℕ
    o = out_place.0

    i_within : i < length d.lane.inlets
    i_within = let below = in_place.1 in omega (arith, below, ap length at.built.comes_by, length-map d.lane.inlets (λ (x : InletState). x.ring.plan.ring))

    o_within : o < length d.lane.outlets
    o_within = let below = out_place.1 in omega (arith, below, ap length at.built.sends_by, length-map d.lane.outlets (λ (y : PortSide). y.plan.ring))

    in_number : (inlet_at d.lane i).ring.plan.ring ≡ a
    in_number = sym (get_or-map (λ (x : InletState). x.ring.plan.ring) d.lane.inlets i no_inlet 0 i_within) ∙ ap (λ (l : List ℕ). get_or l i 0) at.built.comes_by ∙ in_place.2

    out_number : (outlet_at d.lane o).plan.ring ≡ b
    out_number = sym (get_or-map (λ (y : PortSide). y.plan.ring) d.lane.outlets o no_port 0 o_within) ∙ ap (λ (l : List ℕ). get_or l o 0) at.built.sends_by ∙ out_place.2

    in_plan : (inlet_at d.lane i).ring.plan ≡ ring_plan network a
    in_plan = at.built.in_plans i no_inlet i_within ∙ ap (ring_plan network) in_number

    out_plan : (outlet_at d.lane o).plan ≡ ring_plan network b
    out_plan = at.built.out_plans o no_port o_within ∙ ap (ring_plan network) out_number

    passes : Passes (route_of d.rows) d.lane f i o
    passes = record {
      inlet = i_within;
      outlet = o_within;
      through = ap (λ (plan : RingPlan). goes_through plan.flows f) in_plan ∙ by_in;
      route_to = at.built.table.led f o o_within (ap (λ (plan : RingPlan). goes_through plan.flows f) out_plan ∙ by_out);
    }
