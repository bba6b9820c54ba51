-- The example's network is routed: so its layout and its stages are those that its links give.
use Rattle.std.proofs.Common.{◌≡◌, ◌<◌, lit<, lit≤, ℕ, zero, suc, ◌%◌, true, Some, refl, arith, [], ◌∷◌, inl}
use Rattle.std.specs.Prelude.{map, All, false, slice_get}
use Rattle.std.specs.Option.{option_map_or}
use Rattle.std.proofs.lemmas.List.Elements.{All-from_recursion}
use Rattle.sb_packet.specs.Networks.{NetHost, has_address}
use Rattle.sb_flow.specs.Ways.{aims_at, route_at, router_before, router_after, way_links}
use Rattle.sb_node.proofs.Answering.{one_of}
use Rattle.sb_laws.specs.NetworkLayouts.{IsFirstLink, IsRoute, IsRouted, is_link_to, network_answers, network_flows, network_layout, network_requests, network_stages}
use Rattle.sb_laws.specs.Flows.{way_rings}
use Rattle.sb_laws.specs.RouterSides.{request_ins, request_outs, answer_ins, answer_outs}
use Rattle.sb_laws.proofs.ExampleNetwork.{small}
use Rattle.sb_laws.proofs.ExampleLayout.{the_flow, scripts_of_small}

first_of_small : (h : ℕ) → h < 1 → (k : ℕ) × IsFirstLink small h k
first_of_small zero inside = (0, record { there = lit< tt; first = refl; leaves = refl; router = 0; leads = refl })
first_of_small (suc h) inside = absurd (omega arith)

linked_in_small : (d : ℕ) → d < 1 → (k : ℕ) × (k < 2) × (is_link_to small d k ≡ true)
linked_in_small zero there = (1, lit< tt, refl)
linked_in_small (suc d) there = absurd (omega arith)

-- only link 1 leads to a device
the_link : (d k : ℕ) → is_link_to small d k ≡ true → k ≡ 1
the_link d zero e = absurd (cc)
the_link d (suc zero) e = refl
the_link d (suc (suc k)) e = absurd (cc)

apart_in_small : (address d e : ℕ) → option_map_or (has_address address) (slice_get small.devices d) false ≡ true → option_map_or (has_address address) (slice_get small.devices e) false ≡ true → d ≡ e
apart_in_small address zero zero p q = refl
apart_in_small address zero (suc e) p q = absurd (cc)
apart_in_small address (suc d) e p q = absurd (cc)

there_in_small : (k q : ℕ) → router_after small k ≡ Some q → q < 1
there_in_small zero q e = let same : 0 ≡ q = cc in omega arith
there_in_small (suc zero) q e = absurd (cc)
there_in_small (suc (suc k)) q e = absurd (cc)

before_in_small : (k r : ℕ) → router_before small k ≡ Some r → r < 1
before_in_small zero r e = absurd (cc)
before_in_small (suc zero) r e = let same : 0 ≡ r = cc in omega arith
before_in_small (suc (suc k)) r e = absurd (cc)

forward_in_small : (k r q : ℕ) → router_before small k ≡ Some r → router_after small k ≡ Some q → r < q
forward_in_small zero r q e f = absurd (cc)
forward_in_small (suc zero) r q e f = absurd (cc)
forward_in_small (suc (suc k)) r q e f = absurd (cc)

routes_of_small : (d r k : ℕ) → d < 1 → r < 1 → route_at small d r ≡ Some k → IsRoute small d r k
routes_of_small zero zero k there inside e = let same : k ≡ 1 = cc in rw same (record { there = lit< tt; leaves = refl; leads = inl refl })
routes_of_small (suc d) r k there inside e = absurd (omega arith)
routes_of_small zero (suc r) k there inside e = absurd (omega arith)

unbroken_in_small : (h d : ℕ) (host : NetHost) → slice_get small.hosts h ≡ Some host → d < 1 → aims_at small host d ≡ true → All (λ k. (r : ℕ) → router_after small k ≡ Some r → (j : ℕ) × (route_at small d r ≡ Some j)) (way_links small h d)
unbroken_in_small zero zero host inside there aims = All-from_recursion (λ k. (r : ℕ) → router_after small k ≡ Some r → (j : ℕ) × (route_at small 0 r ≡ Some j)) (0 ∷ 1 ∷ [])
    (λ r e. (let same : r ≡ 0 = cc in rw same (1, refl)), (λ r e. absurd (cc), tt))
unbroken_in_small (suc h) d host inside there aims = absurd (cc)
unbroken_in_small zero (suc d) host inside there aims = absurd (omega arith)

pub small_is_routed : IsRouted small
small_is_routed = record {
  scripts = scripts_of_small;
  few = lit≤ tt;
  apart = apart_in_small;
  pages = one_of (λ d. d.base % 4096 ≡ 0) _ refl;
  first = first_of_small;
  linked = linked_in_small;
  one_link = λ d j k e f. let one = the_link d j e in let other = the_link d k f in omega arith;
  there = there_in_small;
  there_before = before_in_small;
  forward = forward_in_small;
  routes = routes_of_small;
  unbroken = unbroken_in_small;
}

-- Its flow goes over rings 0 and 2, and back over rings 3 and 1; along them the stages are 0, 1 and 2, and 2, 3 and 4.
pub flow_of_small : network_flows small ≡ the_flow ∷ []
flow_of_small = refl

pub way_of_small : way_rings (network_requests small) the_flow ≡ 0 ∷ 2 ∷ []
way_of_small = refl

pub way_back_of_small : way_rings (network_answers small) the_flow ≡ 3 ∷ 1 ∷ []
way_back_of_small = refl

-- To its router requests come by ring 0, and go on by ring 2 to the device; answers come by ring 3, and go on by ring 1.
pub request_rings_of_router : (request_ins small 0 ≡ 0 ∷ []) × (request_outs small 0 ≡ 2 ∷ [])
request_rings_of_router = (refl, refl)

pub answer_rings_of_router : (answer_ins small 0 ≡ 3 ∷ []) × (answer_outs small 0 ≡ 1 ∷ [])
answer_rings_of_router = (refl, refl)

pub into_device_of_small : (network_layout small).into 0 ≡ 2
into_device_of_small = refl

pub stages_of_small : map (network_stages small).from (0 ∷ 2 ∷ 3 ∷ 1 ∷ []) ≡ 0 ∷ 1 ∷ 2 ∷ 3 ∷ []
stages_of_small = refl

pub later_stages_of_small : map (network_stages small).to (0 ∷ 2 ∷ 3 ∷ 1 ∷ []) ≡ 1 ∷ 2 ∷ 3 ∷ 4 ∷ []
later_stages_of_small = refl
