-- The table of a router leads a flow to a ring just where that ring carries it.
use Rattle.std.proofs.Common.{◌≡◌, ◌≤◌, ◌<◌, ℕ, Bool, true, false, cond, List, [], ◌∷◌, length, All, refl, sym, ap, ◌∙◌, arith, subst, inl, inr}
use Rattle.std.specs.Prelude.{◌⊎◌, ◌==◌, ◌||◌, filter, map, AllPairs, Contains, Option, Some, None, get_or, slice_get}
use Rattle.std.specs.List.{find, list_any, position_from, range_with_len}
use Rattle.std.specs.Option.{option_and_then, option_map_or}
use Rattle.std.proofs.lemmas.Bool.{cases_lt}
use Rattle.std.proofs.lemmas.Bool.Decides.{nat_tests}
use Rattle.std.proofs.lemmas.List.{get_or-map, length-map}
use Rattle.std.proofs.lemmas.List.Elements.{All-contains, All-contains_itself, All-filter, All-head, All-tail, filter_passes}
use Rattle.std.proofs.lemmas.List.Kept.{AllPairs-filter}
use Rattle.std.proofs.lemmas.Option.{slice_get-get_or}
use Rattle.sb_packet.specs.Networks.{NetHost, Network}
use Rattle.sb_link.specs.RingPlans.{NetFlow, RingPlan, goes_through}
use Rattle.sb_flow.specs.Rings.{has_link, link_ways, ring_plan, ring_ways}
use Rattle.sb_flow.specs.Ways.{NetWay, flow_links, is_some_number, is_way_of, network_ways, router_after, router_before}
use Rattle.sb_port.specs.Ports.{PortSide}
use Rattle.sb_flow.proofs.WayCourses.{some_number-is}
use Rattle.sb_router.specs.Lanes.{no_port, outlet_at}
use Rattle.sb_router.specs.Ways.{place_of_link, route_of}
use Rattle.sb_router.specs.Routers.{DirectionSide}
use Rattle.sb_laws.specs.NetworkLayouts.{HasWays, IsRouted, answer_ring, links_into, links_out_of, request_ring, way_flow}
use Rattle.sb_laws.specs.RouterSides.{HasTable, LeadsByPlans, answer_outs, request_outs, ring_outs}
use Rattle.sb_laws.proofs.CarriedRings.{answer_ways, request_ways}
use Rattle.sb_laws.proofs.FlowMembers.{same_flow}
use Rattle.sb_laws.proofs.LinksOfWays.{in_cases, is_in, one_into, one_out_of}
use Rattle.sb_laws.proofs.LinksToDevices.{found_place, none_found}
use Rattle.sb_laws.proofs.ListPlaces.{any_at, any_passing, range_rises}
use Rattle.sb_laws.proofs.NetworkLaidOut.{FlowWay, counted, way_flows}
use Rattle.sb_laws.proofs.PlannedWords.{in_table}
use Rattle.sb_laws.proofs.RouterSteps.{through_way}
use Rattle.sb_laws.proofs.ScriptFacts.{found_fact}
use Rattle.sb_laws.proofs.WaysOfRouted.{ways_of_routed}

-- one of those that pass a test, with what is known of it
any_fact : {A : Type 0} (P : A → Type 0) (p : A → Bool) (xs : List A) → All P xs → list_any p xs ≡ true → (x : A) × (p x ≡ true) × P x
any_fact P p [] h e = absurd (cc)
any_fact {A} P p (x ∷ xs) h e = by_test (p x) refl e (any_fact P p xs (All-tail P x xs h))
  where
    by_test : (b : Bool) → p x ≡ b → (b || list_any p xs) ≡ true → (list_any p xs ≡ true → (y : A) × (p y ≡ true) × P y) → (y : A) × (p y ≡ true) × P y
    by_test true t k later = (x, t, All-head P x xs h)
    by_test false t k later = later k

-- each number of a list is in it
all_in : (list : List ℕ) → All (λ k. is_in k list ≡ true) list
all_in list i d below = let k = get_or list i d in let self : (k == k) ≡ true = grind (arith, nat_tests) in any_at (λ j. j == k) list i d below self

-- where a number passes, one is found
not_none : (test : ℕ → Bool) (k : ℕ) (list : List ℕ) → is_in k list ≡ true → test k ≡ true → find test list ≡ None → ⊥
not_none test k [] e t none = cc
not_none test k (x ∷ list) e t none = by_test (test x) refl none (λ inside later. not_none test k list inside t later)
  where
    by_test : (b : Bool) → test x ≡ b → cond b (Some x) (find test list) ≡ None → (is_in k list ≡ true → find test list ≡ None → ⊥) → ⊥
    by_test true u none later = cc
    by_test false u none later = in_cases ⊥ k x list e (λ same. let never : true ≡ false = sym t ∙ ap test (sym same) ∙ u in cc) (λ inside. later inside none)

-- what is known of a way
record WayFact (network : Network) (test : ℕ → Bool) (way : NetWay) : Type 0 where
  host : way.host.id < 32
  device : way.device < 32
  found : flow_links network (way_flow way) ≡ way.links
  unique : (a b : ℕ) → is_in a way.links ≡ true → is_in b way.links ≡ true → test a ≡ true → test b ≡ true → a ≡ b

module _ (network : Network) (test : ℕ → Bool) (ring : ℕ → ℕ) (ways_are : (k : ℕ) → k < length network.links → ring_ways network (ring k) ≡ link_ways network k) (facts : All (WayFact network test) (network_ways network)) (d : DirectionSide)
    (sends_by : ring_outs d.lane ≡ map ring (filter test (range_with_len 0 (length network.links)))) (out_plans : All (λ y. y.plan ≡ ring_plan network y.plan.ring) d.lane.outlets)
    (table : (f : NetFlow) → f.host < 32 → f.device < 32 → route_of d.rows f ≡ option_and_then (place_of_link (filter test (range_with_len 0 (length network.links)))) (find test (flow_links network f)))
    (within_links : (f : NetFlow) (o : ℕ) → route_of d.rows f ≡ Some o → o < length (filter test (range_with_len 0 (length network.links)))) where
  abbrev all : List ℕ
  all = range_with_len 0 (length network.links)

  abbrev links : List ℕ
  links = filter test all

  link_facts : All (λ k. (k < length network.links) × (test k ≡ true)) links
  link_facts i e below = (All-filter test (λ k. k < length network.links) all (counted network) i e below, filter_passes test all i e below)

  count : length d.lane.outlets ≡ length links
  count = sym (length-map d.lane.outlets (λ (y : PortSide). y.plan.ring)) ∙ ap length sends_by ∙ length-map links ring

  plan_at : (o : ℕ) → o < length d.lane.outlets → (outlet_at d.lane o).plan ≡ ring_plan network (ring (get_or links o 0))
  plan_at o lt = out_plans o no_port lt ∙ ap (ring_plan network) (sym (get_or-map (λ (y : PortSide). y.plan.ring) d.lane.outlets o no_port 0 lt) ∙ ap (λ (l : List ℕ). get_or l o 0) sends_by ∙ get_or-map ring links o 0 0 (omega (arith, lt, count)))

  -- the place of a link
  place_at : (k o : ℕ) → position_from (λ link. link == k) 0 links ≡ Some o → (o < length links) × (get_or links o 0 ≡ k)
  place_at k o e =
      let p = found_place (λ link. link == k) 0 o links e in
      let same : p.0 ≡ o = omega (arith, p.1) in
      let inside : o < length links = subst (λ (n : ℕ). n < length links) same p.2.inside in
      let test_at : (get_or links o 0 == k) ≡ true = ap (λ (x : Option ℕ). option_map_or (λ link. link == k) x false) (sym (slice_get-get_or links o 0 inside))
      ∙ ap (λ (n : ℕ). option_map_or (λ link. link == k) (slice_get links n) false) (sym same) ∙ p.2.passes in
      (inside, (let link_test = test_at in grind (arith, nat_tests)))

  rises : AllPairs (λ x y. x < y) links
  rises = AllPairs-filter (λ x y. x < y) test all (range_rises 0 (length network.links))

  one_place : (o p : ℕ) → o < length links → p < length links → get_or links o 0 ≡ get_or links p 0 → p ≡ o
  one_place o p o_in p_in same = by_order (cases_lt o p) (cases_lt p o)
    where
      by_order : (o < p) ⊎ (p ≤ o) → (p < o) ⊎ (o ≤ p) → p ≡ o
      by_order (inl below) other = absurd (let more = rises o p 0 below p_in in omega (arith, same, more))
      by_order (inr above) (inl below) = absurd (let more = rises p o 0 below o_in in omega (arith, same, more))
      by_order (inr above) (inr beneath) = omega arith

  place_of : (o : ℕ) → o < length links → position_from (λ link. link == get_or links o 0) 0 links ≡ Some o
  place_of o lt = by_place (position_from (λ link. link == get_or links o 0) 0 links) refl
    where
      k : ℕ
      k = get_or links o 0

      self : (k == k) ≡ true
      self = grind (arith, nat_tests)

      by_place : (x : Option ℕ) → position_from (λ link. link == k) 0 links ≡ x → position_from (λ link. link == k) 0 links ≡ Some o
      by_place None e = absurd (none_found (λ link. link == k) 0 o links e (ap (λ (x : Option ℕ). option_map_or (λ link. link == k) x false) (slice_get-get_or links o 0 lt) ∙ self))
      by_place (Some p) e = let at = place_at k p e in e ∙ ap Some (one_place o p lt at.0 (sym at.1))

  within : (f : NetFlow) (o : ℕ) → route_of d.rows f ≡ Some o → o < length d.lane.outlets
  within f o e = let inside = within_links f o e in omega (arith, inside, count)

  leads : (f : NetFlow) (o : ℕ) → f.host < 32 → f.device < 32 → route_of d.rows f ≡ Some o → goes_through (outlet_at d.lane o).plan.flows f ≡ true
  leads f o host device e = by_link (find test (flow_links network f)) refl (sym (table f host device) ∙ e)
    where
      by_way : (k : ℕ) → (x : Option NetWay) → find (is_way_of f) (network_ways network) ≡ x → is_in k (option_map_or (λ way. way.links) x []) ≡ true → list_any (is_way_of f) (link_ways network k) ≡ true
      by_way k None is on = absurd (cc)
      by_way k (Some way) is on =
          let found = found_fact (Contains (network_ways network)) (is_way_of f) (network_ways network) way is (All-contains_itself (network_ways network)) in
          let place = found.1 in
          any_passing (is_way_of f) (has_link k) (network_ways network) place.0 way place.1 (ap (has_link k) place.2 ∙ on) (ap (is_way_of f) place.2 ∙ found.0)

      by_link : (x : Option ℕ) → find test (flow_links network f) ≡ x → option_and_then (place_of_link links) x ≡ Some o → goes_through (outlet_at d.lane o).plan.flows f ≡ true
      by_link None is e = absurd (cc)
      by_link (Some k) is e =
          let at = place_at k o e in
          let on = (found_fact (λ j. is_in j (flow_links network f) ≡ true) test (flow_links network f) k is (all_in (flow_links network f))).1 in
          let there : k < length network.links = subst (λ (n : ℕ). n < length network.links) at.1 (link_facts o 0 at.0).0 in
          let through = through_way network (ring k) (link_ways network k) f (ways_are k there) host device (by_way k (find (is_way_of f) (network_ways network)) refl on) in
          let inside = at.0 in
          ap (λ (plan : RingPlan). goes_through plan.flows f) (plan_at o (omega (arith, inside, count)) ∙ ap (λ (n : ℕ). ring_plan network (ring n)) at.1) ∙ through

  led : (f : NetFlow) (o : ℕ) → o < length d.lane.outlets → goes_through (outlet_at d.lane o).plan.flows f ≡ true → route_of d.rows f ≡ Some o
  led f o lt e = by_way (any_fact (λ way. WayFact network test way × (has_link k way ≡ true)) (is_way_of f) (link_ways network k) known some)
    where
      k : ℕ
      k = get_or links o 0

      inside : o < length links
      inside = omega (arith, lt, count)

      known : All (λ way. WayFact network test way × (has_link k way ≡ true)) (link_ways network k)
      known i w below = (All-filter (has_link k) (WayFact network test) (network_ways network) facts i w below, filter_passes (has_link k) (network_ways network) i w below)

      some : list_any (is_way_of f) (link_ways network k) ≡ true
      some = subst (λ (ws : List NetWay). list_any (is_way_of f) ws ≡ true) (ways_are k (link_facts o 0 inside).0)
          (in_table (ring_ways network (ring k)) f (sym (ap (λ (plan : RingPlan). goes_through plan.flows f) (plan_at o lt)) ∙ e))

      by_way : (x : NetWay) × (is_way_of f x ≡ true) × (WayFact network test x × (has_link k x ≡ true)) → route_of d.rows f ≡ Some o
      by_way w =
          let way = w.0 in
          let fact : WayFact network test way = w.2.0 in
          let same : f ≡ way_flow way = same_flow (way_flow way) f w.1 in
          let list_is : flow_links network f ≡ way.links = ap (flow_links network) same ∙ fact.found in
          table f (subst (λ (g : NetFlow). g.host < 32) (sym same) fact.host) (subst (λ (g : NetFlow). g.device < 32) (sym same) fact.device)
          ∙ ap (λ (l : List ℕ). option_and_then (place_of_link links) (find test l)) list_is
          ∙ by_find way fact w.2.1 (find test way.links) refl
        where
          by_find : (way : NetWay) → WayFact network test way → has_link k way ≡ true → (x : Option ℕ) → find test way.links ≡ x → option_and_then (place_of_link links) x ≡ Some o
          by_find way fact has None is = absurd (not_none test k way.links has (link_facts o 0 inside).1 is)
          by_find way fact has (Some j) is =
              let found = found_fact (λ i. is_in i way.links ≡ true) test way.links j is (all_in way.links) in
              let one : j ≡ k = fact.unique j k found.1 has found.0 (link_facts o 0 inside).1 in
              ap (place_of_link links) one ∙ place_of o inside

  leads_by_plans : LeadsByPlans d
  leads_by_plans = record { within = within; leads = leads; led = led }

module _ (network : Network) (r : ℕ) (d : DirectionSide) (routed : IsRouted network) (ids : All (λ host. host.id < 32) network.hosts) where
  ways : HasWays network
  ways = ways_of_routed network routed

  way_facts : (test : ℕ → Bool) → All (λ way. (a b : ℕ) → is_in a way.links ≡ true → is_in b way.links ≡ true → test a ≡ true → test b ≡ true → a ≡ b) (network_ways network) → All (WayFact network test) (network_ways network)
  way_facts test unique i w below = record {
    host = All-contains (λ (host : NetHost). host.id < 32) network.hosts (get_or (network_ways network) i w).host ids (ways.hosts i w below);
    device = let inside = ways.devices i w below in let few = routed.few in omega arith;
    found = ways.found i w below;
    unique = unique i w below;
  }

  same_links : (i : ℕ) (w : NetWay) → (below : i < length (network_ways network)) → (let way = get_or (network_ways network) i w in let flow : FlowWay network (way_flow way) = way_flows network ways i w below in way.links ≡ flow.head ∷ flow.tail)
  same_links i w below = let flow : FlowWay network (way_flow (get_or (network_ways network) i w)) = way_flows network ways i w below in sym (ways.found i w below) ∙ flow.links

  pub request_tables : ring_outs d.lane ≡ request_outs network r → All (λ y. y.plan ≡ ring_plan network y.plan.ring) d.lane.outlets → HasTable network false r (links_out_of network (Some r)) d → LeadsByPlans d
  request_tables sends plans has = leads_by_plans network (λ k. is_some_number r (router_before network k)) request_ring (request_ways network ways) (way_facts (λ k. is_some_number r (router_before network k)) unique) d sends plans (λ f host device. has.table f host device) has.within
    where
      unique : All (λ way. (a b : ℕ) → is_in a way.links ≡ true → is_in b way.links ≡ true → is_some_number r (router_before network a) ≡ true → is_some_number r (router_before network b) ≡ true → a ≡ b) (network_ways network)
      unique i w below a b x y s t =
          let way = get_or (network_ways network) i w in
          let flow : FlowWay network (way_flow way) = way_flows network ways i w below in
          let links = same_links i w below in
          one_out_of network way.device r a b flow.head flow.tail flow.way flow.start (ap (is_in a) (sym links) ∙ x) (ap (is_in b) (sym links) ∙ y) (some_number-is r (router_before network a) s) (some_number-is r (router_before network b) t)

  pub answer_tables : ring_outs d.lane ≡ answer_outs network r → All (λ y. y.plan ≡ ring_plan network y.plan.ring) d.lane.outlets → HasTable network true r (links_into network (Some r)) d → LeadsByPlans d
  answer_tables sends plans has = leads_by_plans network (λ k. is_some_number r (router_after network k)) answer_ring (answer_ways network ways) (way_facts (λ k. is_some_number r (router_after network k)) unique) d sends plans (λ f host device. has.table f host device) has.within
    where
      unique : All (λ way. (a b : ℕ) → is_in a way.links ≡ true → is_in b way.links ≡ true → is_some_number r (router_after network a) ≡ true → is_some_number r (router_after network b) ≡ true → a ≡ b) (network_ways network)
      unique i w below a b x y s t =
          let way = get_or (network_ways network) i w in
          let flow : FlowWay network (way_flow way) = way_flows network ways i w below in
          let links = same_links i w below in
          one_into network way.device r a b (flow.head ∷ flow.tail) flow.way (ap (is_in a) (sym links) ∙ x) (ap (is_in b) (sym links) ∙ y) (some_number-is r (router_after network a) s) (some_number-is r (router_after network b) t)
