-- The ways of a host begin with its own link, so that link's rings have all its flows.
use Rattle.std.proofs.Common.{◌≡◌, ◌≤◌, ◌<◌, ◌+◌, ◌*◌, ◌/◌, ℕ, zero, suc, arith, refl, ap, ◌∙◌, length, List, [], ◌∷◌, ◌++◌, Bool, true, false, cond, Option, Some, None}
use Rattle.std.specs.Prelude.{map, filter, flat_map, nat_lt, ◌&&◌, ◌||◌, ◌==◌, slice_index_or, if◌then◌else◌}
use Rattle.std.specs.List.{enumerate_from, list_any, range_with_len}
use Rattle.std.specs.Option.{option_map_or}
use Rattle.std.proofs.Math.ListN.{get_or}
use Rattle.std.proofs.lemmas.Bool.Decides.{nat_tests}
use Rattle.std.proofs.lemmas.List.FromFn.{get_or-enumerate_from, get_or-map-range_with_len, get_or-range_with_len, length-enumerate_from, length-range_with_len}
use Rattle.sb_packet.specs.Networks.{NetHost, Network}
use Rattle.sb_link.specs.RingPlans.{NetFlow, goes_through}
use Rattle.sb_flow.specs.Rings.{flow_table, has_link, link_ways, ring_flows, ring_link, ring_ways}
use Rattle.sb_flow.specs.Ways.{NetWay, aims_at, first_link, host_ways, links_from, network_ways, next_link, way_links}
use Rattle.sb_link.proofs.Truths.{same_number}
use Rattle.sb_flow.proofs.LinkMarks.{list_any-map}

-- one of a list passes
pub any_at : {X : Type 0} (p : X → Bool) (xs : List X) (i : ℕ) (d : X) → i < length xs → p (get_or xs i d) ≡ true → list_any p xs ≡ true
any_at p [] i d below holds = absurd (omega arith)
any_at p (x ∷ xs) zero d below holds = ap (λ b. b || list_any p xs) holds
any_at p (x ∷ xs) (suc i) d below holds = ap (λ b. p x || b) (any_at p xs i d (omega arith) holds) ∙ either_true (p x) where
  either_true : (b : Bool) → (b || true) ≡ true
  either_true true = refl
  either_true false = refl

any-append : {X : Type 0} (p : X → Bool) (xs ys : List X) → list_any p (xs ++ ys) ≡ (list_any p xs || list_any p ys)
any-append p [] ys = refl
any-append p (x ∷ xs) ys = ap (λ b. p x || b) (any-append p xs ys) ∙ regroup (p x) (list_any p xs) (list_any p ys) where
  regroup : (a b c : Bool) → (a || (b || c)) ≡ ((a || b) || c)
  regroup true b c = refl
  regroup false b c = refl

-- one of one piece passes
any_piece : {X Y : Type 0} (p : Y → Bool) (f : X → List Y) (xs : List X) (i : ℕ) (d : X) → i < length xs → list_any p (f (get_or xs i d)) ≡ true → list_any p (flat_map f xs) ≡ true
any_piece p f [] i d below holds = absurd (omega arith)
any_piece p f (x ∷ xs) zero d below holds = any-append p (f x) (flat_map f xs) ∙ ap (λ b. b || list_any p (flat_map f xs)) holds
any_piece p f (x ∷ xs) (suc i) d below holds = any-append p (f x) (flat_map f xs) ∙ ap (λ b. list_any p (f x) || b) (any_piece p f xs i d (omega arith) holds) ∙ either_true (list_any p (f x)) where
  either_true : (b : Bool) → (b || true) ≡ true
  either_true true = refl
  either_true false = refl

-- one of those that are kept passes
pub any_kept : {X : Type 0} (p q : X → Bool) (xs : List X) → list_any q (filter p xs) ≡ list_any (λ x. p x && q x) xs
any_kept p q [] = refl
any_kept p q (x ∷ xs) = by_test (p x) (any_kept p q xs) where
  by_test : (b : Bool) → list_any q (filter p xs) ≡ list_any (λ x. p x && q x) xs → list_any q (cond b (x ∷ filter p xs) (filter p xs)) ≡ ((b && q x) || list_any (λ x. p x && q x) xs)
  by_test true same = ap (λ b. q x || b) same
  by_test false same = same

-- a way that begins with a link has it
pub begins_with : (network : Network) (h d k : ℕ) → first_link network h ≡ Some k → list_any (λ j. j == k) (way_links network h d) ≡ true
begins_with network h d k first =
    ap (λ (o : Option ℕ). list_any (λ j. j == k) (links_from (suc (length network.routers)) network d o)) first
    ∙ ap (λ (b : Bool). b || list_any (λ j. j == k) (links_from (length network.routers) network d (next_link network d k))) (same_number k)

module _ (network : Network) (h k : ℕ) (host : NetHost) (there : h < length network.hosts) (at : get_or network.hosts h host ≡ host) (first : first_link network h ≡ Some k) where
  -- the way to a device
  abbrev way_to : ℕ → NetWay
  way_to d = record { host = host; device = d; links = way_links network h d }

  abbrev is_flow : ℕ → NetWay → Bool
  is_flow d way = (way.host.id == host.id) && (way.device == d)

  -- the host's flow to a device that it aims at is among those of its link
  own_flow : (d : ℕ) → d < length network.devices → aims_at network host d ≡ true → list_any (is_flow d) (link_ways network k) ≡ true
  own_flow d below aims =
      let q : NetWay → Bool = λ way. has_link k way && is_flow d way in
      let passes : q (way_to d) ≡ true = rw (begins_with network h d k first, same_number host.id, same_number d) refl in
      let pair : ℕ × NetHost = (h, host) in
      let element : get_or (enumerate_from 0 network.hosts) h pair ≡ (h, host) =
      get_or-enumerate_from 0 network.hosts h pair there ∙ ap {B = ℕ × NetHost} (λ (x : NetHost). (0 + h, x)) at ∙ (let none : 0 + h ≡ h = omega arith in ap {B = ℕ × NetHost} (λ (n : ℕ). (n, host)) none) in
      let own : list_any q (host_ways network h host) ≡ true =
      list_any-map q way_to (filter (aims_at network host) (range_with_len 0 (length network.devices)))
      ∙ any_kept (aims_at network host) (λ e. q (way_to e)) (range_with_len 0 (length network.devices))
      ∙ any_at (λ e. aims_at network host e && q (way_to e)) (range_with_len 0 (length network.devices)) d d (omega (arith, below, length-range_with_len 0 (length network.devices)))
      (let here : get_or (range_with_len 0 (length network.devices)) d d ≡ d = get_or-range_with_len 0 (length network.devices) d d below ∙ omega arith in
      ap (λ (e : ℕ). aims_at network host e && q (way_to e)) here ∙ rw (aims, passes) refl) in
      any_kept (has_link k) (is_flow d) (network_ways network)
      ∙ any_piece q (λ p. host_ways network p.0 p.1) (enumerate_from 0 network.hosts) h pair (omega (arith, there, length-enumerate_from 0 network.hosts))
      (ap (λ (p : ℕ × NetHost). list_any q (host_ways network p.0 p.1)) element ∙ own)

-- the ring of requests of a link has the link's ways
pub request_ways : (network : Network) (k : ℕ) → k < length network.links → ring_ways network (2 * k) ≡ link_ways network k
request_ways network k there =
    let half : 2 * k / 2 ≡ k = omega arith in
    let inside : nat_lt (2 * k / 2) (length network.links) ≡ true = rw half (let t : nat_lt k (length network.links) ≡ true = grind (arith, nat_tests) in t) in
    let link : ring_link network (2 * k) ≡ Some k =
    ap (λ (b : Bool). if b then Some (2 * k / 2) else (if 2 * k / 2 == length network.links then network.wire else None)) inside ∙ ap (λ (n : ℕ). Some n) half in
    ap (λ (o : Option ℕ). option_map_or (link_ways network) o []) link

-- a flow in a ring's table
in_table : (ws : List NetWay) (f : NetFlow) → f.host < 32 → f.device < 32 → list_any (λ way. (way.host.id == f.host) && (way.device == f.device)) ws ≡ true
    → slice_index_or (slice_index_or (flow_table ws) f.host []) f.device false ≡ true
in_table ws f host device holds =
    let row : ℕ → List Bool = λ id. map (λ d. list_any (λ way. (way.host.id == id) && (way.device == d)) ws) (range_with_len 0 32) in
    ap (λ (r : List Bool). slice_index_or r f.device false) (get_or-map-range_with_len row 0 32 f.host f.host [] host (omega arith))
    ∙ get_or-map-range_with_len (λ d. list_any (λ way. (way.host.id == f.host) && (way.device == d)) ws) 0 32 f.device f.device false device (omega arith)
    ∙ holds

-- a host's flow to a device that it aims at goes over its own ring
pub own_flow_through : (network : Network) (h k : ℕ) (host : NetHost) → h < length network.hosts → get_or network.hosts h host ≡ host → first_link network h ≡ Some k → k < length network.links
    → host.id < 32 → length network.devices ≤ 32 → (d : ℕ) → d < length network.devices → aims_at network host d ≡ true
    → goes_through (ring_flows network (2 * k)) (record { host = host.id; device = d }) ≡ true
own_flow_through network h k host there at first link id few d below aims =
    let ways = request_ways network k link in
    in_table (ring_ways network (2 * k)) (record { host = host.id; device = d }) id (omega (arith, below, few))
    (ap (list_any (λ way. (way.host.id == host.id) && (way.device == d))) ways ∙ own_flow network h k host there at first d below aims)
