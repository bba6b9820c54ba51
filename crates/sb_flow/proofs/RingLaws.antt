-- The budgets of rings, and the ways of flows, as laws.
use Rattle.std.proofs.Common.{◌≡◌, ◌≤◌, ◌<◌, ℕ, zero, suc, Bool, true, false, cond, List, [], ◌∷◌, length, get_or, refl, ap, sym, ◌∙◌, arith, Option, Some, None, eq-eqb}
use Rattle.std.specs.Prelude.{◌==◌, All, filter, slice_get, sum_by, if◌then◌else◌}
use Rattle.std.specs.List.{find, enumerate_from}
use Rattle.std.specs.Option.{option_map_or}
use Rattle.sb_packet.specs.Accesses.{Access}
use Rattle.sb_packet.specs.Networks.{NetHost, Network}
use Rattle.sb_link.specs.RingPlans.{NetFlow}
use Rattle.sb_flow.specs.Ways.{NetWay, aims_at, flow_links, is_way_of, network_ways, way_links}
use Rattle.sb_flow.specs.Rings.{counted_accesses, is_answered, is_upward, link_ways, ring_budget, ring_link, way_accesses}
use Rattle.sb_flow.specs.Accepted.{IsAccepted}
use Rattle.sb_flow.proofs.FlowWays.{find-filter, found_way, one_way}
use Rattle.sb_flow.proofs.RingLinks.{ring_link-there}
use Rattle.sb_flow.proofs.RingPlans.{budget_of, table_bounded}

-- a ring has no more words than all scripts together
pub budget_bounded : (network : Network) (ring : ℕ) → IsAccepted network → ring_budget network ring ≤ 262144
budget_bounded network ring good = by (ring_link network ring) refl
  where
    by : (found : Option ℕ) → ring_link network ring ≡ found → sum_by (λ way. length (counted_accesses network ring way)) (option_map_or (link_ways network) found []) ≤ 262144
    by None e = omega arith
    by (Some k) e = rw (budget_of network (is_upward ring) (link_ways network k)) (table_bounded network k (is_upward ring) good (ring_link-there network ring k good (sym e)))

-- what counts on a ring depends on its direction alone
pub counted_same : (network : Network) (ring other : ℕ) (way : NetWay) → is_upward ring ≡ is_upward other → counted_accesses network ring way ≡ counted_accesses network other way
counted_same network ring other way same = ap (λ (up : Bool). if up then filter (λ (a : Access). is_answered a.op) (way_accesses network way) else way_accesses network way) same

-- an item that passes is the one that is left, where at most one is
left_alone : {A : Type 0} (p : A → Bool) (xs : List A) (i : ℕ) (d : A) → i < length xs → p (get_or xs i d) ≡ true → (k : ℕ) × ((k < length (filter p xs)) × (get_or (filter p xs) k d ≡ get_or xs i d))
left_alone p [] i d h is = absurd (omega arith)
left_alone {A} p (x ∷ xs) zero d h is = by (p x) is
  where
    by : (b : Bool) → b ≡ true → (k : ℕ) × ((k < length (cond b (x ∷ filter p xs) (filter p xs))) × (get_or (cond b (x ∷ filter p xs) (filter p xs)) k d ≡ x))
    by true e = (0, (omega arith, refl))
    by false e = cc
left_alone {A} p (x ∷ xs) (suc i) d h is = by (p x) (left_alone p xs i d (omega arith) is)
  where
    by : (b : Bool) → (k : ℕ) × ((k < length (filter p xs)) × (get_or (filter p xs) k d ≡ get_or xs i d)) → (k : ℕ) × ((k < length (cond b (x ∷ filter p xs) (filter p xs))) × (get_or (cond b (x ∷ filter p xs) (filter p xs)) k d ≡ get_or xs i d))
    by true rest = (suc rest.0, (omega (arith, rest.1.0), rest.1.1))
    by false rest = rest

-- where at most one way is left, it is the first
only_one : (ways : List NetWay) (k : ℕ) (d : NetWay) → length ways ≤ 1 → k < length ways → option_map_or (λ (w : NetWay). w.links) (slice_get ways 0) [] ≡ (get_or ways k d).links
only_one [] k d most h = absurd (omega arith)
only_one (w ∷ ways) zero d most h = refl
only_one (w ∷ ways) (suc k) d most h = absurd (omega arith)

-- a flow has one way at most
found_once : (network : Network) (f : NetFlow) → length (found_way network 0 network.hosts f) ≤ 1
found_once network f = by (find (λ (p : ℕ × NetHost). p.1.id == f.host) (enumerate_from 0 network.hosts))
  where
    one : (b : Bool) (w : NetWay) → length (if b then w ∷ [] else []) ≤ 1
    one true w = omega arith
    one false w = omega arith

    by : (found : Option (ℕ × NetHost)) → length {A = NetWay} (option_map_or {U = List NetWay} (λ (p : ℕ × NetHost). if aims_at network p.1 f.device then record { host = p.1; device = f.device; links = way_links network p.0 f.device } ∷ [] else []) found []) ≤ 1
    by None = omega arith
    by (Some p) = one (aims_at network p.1 f.device) (record { host = p.1; device = f.device; links = way_links network p.0 f.device })

-- the links of a flow are those of its way
pub links_of_ways : (network : Network) → IsAccepted network → All (λ way. flow_links network (record { host = way.host.id; device = way.device }) ≡ way.links) (network_ways network)
links_of_ways network good i d h =
    let way = get_or (network_ways network) i d in
    let f : NetFlow = record { host = way.host.id; device = way.device } in
    let is : is_way_of f way ≡ true = rw (eq-eqb way.host.id way.host.id refl, eq-eqb way.device way.device refl) refl in
    let left = left_alone (is_way_of f) (network_ways network) i d h is in
    let once : length (filter (is_way_of f) (network_ways network)) ≤ 1 = rw (one_way network f good.ids) (found_once network f) in
    ap (λ (way : Option NetWay). option_map_or (λ (w : NetWay). w.links) way []) (find-filter (is_way_of f) (network_ways network))
    ∙ only_one (filter (is_way_of f) (network_ways network)) left.0 d once left.1.0 ∙ ap (λ (w : NetWay). w.links) left.1.1
