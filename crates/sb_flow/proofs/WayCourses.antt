-- The ways of an accepted network lead to their devices, in the order of routers.
use Rattle.std.proofs.Common.{◌≡◌, ◌≤◌, ◌<◌, ℕ, zero, suc, ◌+◌, Bool, true, false, ◌||◌, not, cond, List, [], ◌∷◌, length, get_or, refl, ap, sym, ◌∙◌, arith, Option, Some, None, subst, leb-false}
use Rattle.std.specs.Prelude.{◌==◌, All, AllPairs, filter, flat_map, map, option_and_then, option_map, slice_get, slice_index_or}
use Rattle.std.specs.List.{AllByRecursion, enumerate_from, find, list_any, position_from, range_with_len}
use Rattle.std.specs.Option.{option_map_or}
use Rattle.std.proofs.lemmas.Bool.{and_parts, eqb-true, not-false}
use Rattle.std.proofs.lemmas.List.Elements.{All-append, All-from_recursion}
use Rattle.sb_packet.specs.Networks.{NetHost, NetLink, NetPlace, NetRouter, Network, at_device, at_host, at_router, leads_to, leaves_from}
use Rattle.sb_flow.specs.Ways.{AreJoined, IsCourse, aims_at, ends_at, first_link, host_ways, is_some_number, link_rank, links_from, network_ways, next_link, route_at, router_after, router_at_end, router_before, way_links}
use Rattle.sb_flow.specs.Accepted.{IsAccepted, RouteAt, is_other_device, lost_behind, lost_flow, lost_of_host, lost_on_way, stray_route}
use Rattle.sb_flow.specs.Ends.{goes_back, joins}
use Rattle.sb_flow.proofs.Clashes.{cond-None, first_told-None, option_map-None, option_or-None}
use Rattle.sb_flow.proofs.AcceptedLinks.{at_range, got_below, link_forward, link_joins, route_leads_on}
use Rattle.sb_flow.proofs.Walks.{links_from-None}

-- the links rise by rank, from one on
abbrev RisesFrom : Network → ℕ → List ℕ → Type 0
RisesFrom network low [] = Unit {0}
RisesFrom network low (k ∷ links) = (low ≤ link_rank network k) × RisesFrom network (suc (link_rank network k)) links

-- what is known of a way from one link on
record IsTail (network : Network) (d low : ℕ) (links : List ℕ) : Type 0 where
  ends : ends_at network d links ≡ true
  joined : AreJoined network links
  rising : RisesFrom network low links

-- a link that may be on a way to device d: it is there, and leads to no other device
record IsOn (network : Network) (d k : ℕ) (l : NetLink) : Type 0 where
  got : slice_get network.links k ≡ Some l
  straight : is_other_device d l.to ≡ false

-- the routers that a link joins, by its ends
after-is : (network : Network) (k : ℕ) (l : NetLink) (to : NetPlace) → slice_get network.links k ≡ Some l → l.to ≡ to → router_after network k ≡ router_at_end to
after-is network k l to got at = ap (λ (found : Option NetLink). option_and_then (λ link. router_at_end link.to) found) got ∙ ap router_at_end at

before-is : (network : Network) (k : ℕ) (l : NetLink) (from : NetPlace) → slice_get network.links k ≡ Some l → l.from ≡ from → router_before network k ≡ router_at_end from
before-is network k l from got at = ap (λ (found : Option NetLink). option_and_then (λ link. router_at_end link.from) found) got ∙ ap router_at_end at

-- a number that is told
pub some_number-is : (n : ℕ) (found : Option ℕ) → is_some_number n found ≡ true → found ≡ Some n
some_number-is n None h = cc
some_number-is n (Some k) h = ap Some (eqb-true k n h)

-- a link that leaves a router is there
leaves_router : (found : Option NetLink) (r : ℕ) → option_and_then (λ link. router_at_end link.from) found ≡ Some r → (l : NetLink) × ((found ≡ Some l) × (router_at_end l.from ≡ Some r))
leaves_router None r h = cc
leaves_router (Some l) r h = (l, (refl, h))

pub place-is : (from : NetPlace) (r : ℕ) → router_at_end from ≡ Some r → from ≡ at_router r
place-is (at_host h) r e = cc
place-is (at_device d) r e = cc
place-is (at_router q) r e = let same : q ≡ r = cc in ap at_router same

-- a link that leads to a router has a lower rank than those that leave it
rank_below : (network : Network) (k r : ℕ) (l : NetLink) → IsAccepted network → slice_get network.links k ≡ Some l → l.to ≡ at_router r → link_rank network k ≤ r
rank_below network k r l good got at = by l.from refl (subst (λ (to : NetPlace). goes_back l.from to ≡ false) at (link_forward network k l good got)) (subst (λ (to : NetPlace). joins l.from to ≡ true) at (link_joins network k l good got))
  where
    by : (from : NetPlace) → l.from ≡ from → goes_back from (at_router r) ≡ false → joins from (at_router r) ≡ true → link_rank network k ≤ r
    by (at_host h) e f j = rw (before-is network k l (at_host h) got e) (omega arith)
    by (at_router p) e f j = rw (before-is network k l (at_router p) got e) (omega (arith, leb-false r p f))
    by (at_device d) e f j = cc

-- no link leads to a host
no_host : (from : NetPlace) (h : ℕ) → joins from (at_host h) ≡ true → ⊥
no_host (at_host k) h e = cc
no_host (at_router r) h e = cc
no_host (at_device d) h e = cc

-- the way ends behind a link that leads to the device
tail_at_end : (network : Network) (d n k e : ℕ) (l : NetLink) → IsOn network d k l → l.to ≡ at_device e → IsTail network d (link_rank network k) (k ∷ links_from n network d (next_link network d k))
tail_at_end network d n k e l on at =
    let over : next_link network d k ≡ None = ap (option_and_then (route_at network d)) (after-is network k l (at_device e) on.got at) in
    let other : is_other_device d (at_device e) ≡ false = subst (λ (to : NetPlace). is_other_device d to ≡ false) at on.straight in
    let leads : leads_to d l ≡ true = subst (λ (to : NetPlace). leads_to d (record l { to = to }) ≡ true) (sym at) (not-false (e == d) other) in
    subst (λ (links : List ℕ). IsTail network d (link_rank network k) (k ∷ links)) (sym (ap (links_from n network d) over ∙ links_from-None n network d)) (record { ends = rw on.got leads; joined = tt; rising = (omega arith, tt) })

-- a router on the way that isn't lost has a route
route_there : (network : Network) (d k r : ℕ) → router_after network k ≡ Some r → lost_behind network d k ≡ None → (j : ℕ) × (route_at network d r ≡ Some j)
route_there network d k r after found = by (route_at network d r) refl (rw after at found)
  where
    by : (route : Option ℕ) → route_at network d r ≡ route → option_map_or {U = Option RouteAt} (λ next. None) route (Some (record { router = r; device = d })) ≡ None → (j : ℕ) × (route_at network d r ≡ Some j)
    by None e h = cc
    by (Some j) e h = (j, e)

-- a router that has a route is there
router_there : (network : Network) (d r j : ℕ) → route_at network d r ≡ Some j → r < length network.routers
router_there network d r j e = by (slice_get network.routers r) refl e
  where
    by : (found : Option NetRouter) → slice_get network.routers r ≡ found → option_and_then (λ router. slice_index_or router.routes d None) found ≡ Some j → r < length network.routers
    by None got h = cc
    by (Some router) got h = got_below network.routers r router got

-- what is known of the link that a route gives
record IsRoute (network : Network) (d r j : ℕ) (l : NetLink) : Type 0 where
  on : IsOn network d j l
  from : l.from ≡ at_router r

route_link : (network : Network) (d r j : ℕ) → IsAccepted network → d < length network.devices → route_at network d r ≡ Some j → (l : NetLink) × IsRoute network d r j l
route_link network d r j good device route =
    let parts = and_parts (is_some_number r (router_before network j)) (not (option_map_or (λ l. is_other_device d l.to) (slice_get network.links j) false)) (route_leads_on network r d j good (router_there network d r j route) device route) in
    let link = leaves_router (slice_get network.links j) r (some_number-is r (router_before network j) parts.0) in
    let straight : is_other_device d link.0.to ≡ false = not-true' (is_other_device d link.0.to) (rw link.1.0 at parts.1) in
    (link.0, record { on = record { got = link.1.0; straight = straight }; from = place-is link.0.from r link.1.1 })
  where
    not-true' : (b : Bool) → not b ≡ true → b ≡ false
    not-true' true h = cc
    not-true' false h = refl

-- the rest of a way, as it is known of each link that may be on it
abbrev Rest : Network → ℕ → ℕ → Type 0
Rest network d n = (j : ℕ) (l : NetLink) → IsOn network d j l → ((q : ℕ) → router_after network j ≡ Some q → length network.routers ≤ q + n) → AllByRecursion (λ i. lost_behind network d i ≡ None) (links_from (suc n) network d (Some j)) → IsTail network d (link_rank network j) (links_from (suc n) network d (Some j))

-- the way goes on behind a link that leads to a router
tail_at_router : (network : Network) (d n k r : ℕ) (l : NetLink) → IsAccepted network → d < length network.devices → IsOn network d k l → l.to ≡ at_router r → length network.routers ≤ r + suc n → AllByRecursion (λ i. lost_behind network d i ≡ None) (k ∷ links_from (suc n) network d (next_link network d k)) → Rest network d n → IsTail network d (link_rank network k) (k ∷ links_from (suc n) network d (next_link network d k))
tail_at_router network d n k r l good device on at enough found rest =
    let after : router_after network k ≡ Some r = after-is network k l (at_router r) on.got at in
    let route = route_there network d k r after found.0 in
    let link = route_link network d r route.0 good device route.1 in
    let next : next_link network d k ≡ Some route.0 = ap (option_and_then (route_at network d)) after ∙ route.1 in
    let further : (q : ℕ) → router_after network route.0 ≡ Some q → length network.routers ≤ q + n = λ q e. higher q route.0 link.0 link.1.on.got link.1.from e in
    let others : AllByRecursion (λ i. lost_behind network d i ≡ None) (links_from (suc n) network d (Some route.0)) = subst (λ (found : Option ℕ). AllByRecursion (λ i. lost_behind network d i ≡ None) (links_from (suc n) network d found)) next found.1 in
    let last = rest route.0 link.0 link.1.on further others in
    let rank : link_rank network route.0 ≡ suc r = ap (λ (found : Option ℕ). option_map_or suc found 0) (before-is network route.0 link.0 (at_router r) link.1.on.got link.1.from) in
    subst (λ (found : Option ℕ). IsTail network d (link_rank network k) (k ∷ links_from (suc n) network d found)) (sym next) (record {
      ends = last.ends;
      joined = ((r, after, before-is network route.0 link.0 (at_router r) link.1.on.got link.1.from), last.joined);
      rising = (omega arith, (omega (arith, rank, rank_below network k r l good on.got at), last.rising.1));
    })
  where
    higher : (q j : ℕ) (m : NetLink) → slice_get network.links j ≡ Some m → m.from ≡ at_router r → router_after network j ≡ Some q → length network.routers ≤ q + n
    higher q j m got from e =
        let to : m.to ≡ at_router q = place-is m.to q (sym (after-is network j m m.to got refl) ∙ e) in
        let forward : goes_back (at_router r) (at_router q) ≡ false = subst (λ (p : NetPlace). goes_back p (at_router q) ≡ false) from (subst (λ (p : NetPlace). goes_back m.from p ≡ false) to (link_forward network j m good got)) in
        omega (arith, enough, leb-false q r forward)

-- the way from a link on, which at most n more links follow
tail : (network : Network) (d n k : ℕ) (l : NetLink) → IsAccepted network → d < length network.devices → IsOn network d k l → ((r : ℕ) → router_after network k ≡ Some r → length network.routers ≤ r + n)
    → AllByRecursion (λ j. lost_behind network d j ≡ None) (links_from (suc n) network d (Some k)) → IsTail network d (link_rank network k) (links_from (suc n) network d (Some k))
tail network d zero k l good device on enough found = by l.to refl
  where
    lost : (r : ℕ) → l.to ≡ at_router r → ⊥
    lost r at =
        let after : router_after network k ≡ Some r = after-is network k l (at_router r) on.got at in
        let route = route_there network d k r after found.0 in
        omega (arith, enough r after, router_there network d r route.0 route.1)

    by : (to : NetPlace) → l.to ≡ to → IsTail network d (link_rank network k) (links_from 1 network d (Some k))
    by (at_device e) at = tail_at_end network d 0 k e l on at
    by (at_host h) at = absurd (no_host l.from h (subst (λ (to : NetPlace). joins l.from to ≡ true) at (link_joins network k l good on.got)))
    by (at_router r) at = absurd (lost r at)
tail network d (suc n) k l good device on enough found = by l.to refl (λ j m is further others. tail network d n j m good device is further others)
  where
    by : (to : NetPlace) → l.to ≡ to → Rest network d n → IsTail network d (link_rank network k) (links_from (suc (suc n)) network d (Some k))
    by (at_device e) at rest = tail_at_end network d (suc n) k e l on at
    by (at_host h) at rest = absurd (no_host l.from h (subst (λ (to : NetPlace). joins l.from to ≡ true) at (link_joins network k l good on.got)))
    by (at_router r) at rest = tail_at_router network d n k r l good device on at (enough r (after-is network k l (at_router r) on.got at)) found rest

-- what a search finds
found_at : {A : Type 0} (p : A → Bool) (s : ℕ) (xs : List A) → list_any p xs ≡ true → (k : ℕ) × ((x : A) × ((position_from p s xs ≡ Some (s + k)) × ((slice_get xs k ≡ Some x) × (p x ≡ true))))
found_at p s [] h = cc
found_at {A} p s (x ∷ xs) h = by (p x) refl h (found_at p (s + 1) xs)
  where
    by : (b : Bool) → p x ≡ b → (b || list_any p xs) ≡ true → (list_any p xs ≡ true → (k : ℕ) × ((y : A) × ((position_from p (s + 1) xs ≡ Some (s + 1 + k)) × ((slice_get xs k ≡ Some y) × (p y ≡ true)))))
        → (k : ℕ) × ((y : A) × ((cond b (Some s) (position_from p (s + 1) xs) ≡ Some (s + k)) × ((slice_get (x ∷ xs) k ≡ Some y) × (p y ≡ true))))
    by true is any rest = let e : s ≡ s + 0 = omega arith in (0, (x, (ap Some e, (refl, is))))
    by false is any rest = let r = rest any in let e : s + 1 + r.0 ≡ s + suc r.0 = omega arith in (suc r.0, (r.1.0, (r.1.1.0 ∙ ap Some e, r.1.1.1)))

-- a search that finds nothing fails at each
find-None : {A : Type 0} (p : A → Bool) (xs : List A) → find p xs ≡ None → AllByRecursion (λ x. p x ≡ false) xs
find-None p [] h = tt
find-None p (x ∷ xs) h = let parts = cond-None (p x) x (find p xs) h in (parts.0, find-None p xs parts.1)

-- the link of a host
host_link : (network : Network) (h : ℕ) → IsAccepted network → h < length network.hosts → (k : ℕ) × ((l : NetLink) × ((first_link network h ≡ Some k) × ((slice_get network.links k ≡ Some l) × (leaves_from h l ≡ true))))
host_link network h good there =
    let none = option_map-None at_host (find (λ h. not (list_any (leaves_from h) network.links)) (range_with_len 0 (length network.hosts))) (option_or-None (option_map at_host (find (λ h. not (list_any (leaves_from h) network.links)) (range_with_len 0 (length network.hosts)))) (option_map at_device (find (λ d. not (list_any (leads_to d) network.links)) (range_with_len 0 (length network.devices)))) good.linked).0 in
    let any : list_any (leaves_from h) network.links ≡ true = not-false (list_any (leaves_from h) network.links) (at_range (λ h. not (list_any (leaves_from h) network.links) ≡ false) 0 (length network.hosts) h (find-None (λ h. not (list_any (leaves_from h) network.links)) (range_with_len 0 (length network.hosts)) none) (omega arith) (omega arith)) in
    let f = found_at (leaves_from h) 0 network.links any in
    let e : 0 + f.0 ≡ f.0 = omega arith in
    (f.0, (f.1.0, (f.1.1.0 ∙ ap Some e, f.1.1.1)))

-- a link from a host leads to a router
from_host : (from to : NetPlace) (l : NetLink) (h : ℕ) → l.from ≡ from → l.to ≡ to → leaves_from h (record l { from = from }) ≡ true → joins from to ≡ true → (r : ℕ) × (l.to ≡ at_router r)
from_host (at_host k) (at_router r) l h f t leaves j = (r, t)
from_host (at_host k) (at_host m) l h f t leaves j = cc
from_host (at_host k) (at_device d) l h f t leaves j = cc
from_host (at_router k) to l h f t leaves j = cc
from_host (at_device k) to l h f t leaves j = cc

-- no more links than may be
links_short : (n : ℕ) (network : Network) (d : ℕ) (found : Option ℕ) → length (links_from n network d found) ≤ n
links_short zero network d found = omega arith
links_short (suc n) network d None = omega arith
links_short (suc n) network d (Some k) = omega (arith, links_short n network d (next_link network d k))

-- what rises is all above
rises_above : (network : Network) (low : ℕ) (links : List ℕ) (j d : ℕ) → RisesFrom network low links → j < length links → low ≤ link_rank network (get_or links j d)
rises_above network low [] j d rises h = absurd (omega arith)
rises_above network low (k ∷ links) zero d rises h = rises.0
rises_above network low (k ∷ links) (suc j) d rises h = omega (arith, rises.0, rises_above network (suc (link_rank network k)) links j d rises.1 (omega arith))

rises_pairs : (network : Network) (low : ℕ) (links : List ℕ) → RisesFrom network low links → AllPairs (λ a b. link_rank network a < link_rank network b) links
rises_pairs network low [] rises i j d below h = absurd (omega arith)
rises_pairs network low (k ∷ links) rises i zero d below h = absurd (omega arith)
rises_pairs network low (k ∷ links) rises zero (suc j) d below h = omega (arith, rises_above network (suc (link_rank network k)) links j d rises.1 (omega arith))
rises_pairs network low (k ∷ links) rises (suc i) (suc j) d below h = rises_pairs network (suc (link_rank network k)) links rises.1 i j d (omega arith) (omega arith)

-- the way of a flow
course : (network : Network) (h d : ℕ) (host : NetHost) → IsAccepted network → h < length network.hosts → d < length network.devices → lost_on_way network h d ≡ None → IsCourse network (record { host = host; device = d; links = way_links network h d })
course network h d host good there device found =
    let link = host_link network h good there in
    let to = from_host link.1.0.from link.1.0.to link.1.0 h refl refl link.1.1.1.1 (link_joins network link.0 link.1.0 good link.1.1.1.0) in
    let on : IsOn network d link.0 link.1.0 = record { got = link.1.1.1.0; straight = subst (λ (p : NetPlace). is_other_device d p ≡ false) (sym to.1) refl } in
    let none : AllByRecursion (λ j. lost_behind network d j ≡ None) (links_from (suc (length network.routers)) network d (Some link.0)) = subst (λ (first : Option ℕ). AllByRecursion (λ j. lost_behind network d j ≡ None) (links_from (suc (length network.routers)) network d first)) link.1.1.0 (first_told-None (lost_behind network d) (way_links network h d) found) in
    let whole : IsTail network d (link_rank network link.0) (way_links network h d) = subst (λ (first : Option ℕ). IsTail network d (link_rank network link.0) (links_from (suc (length network.routers)) network d first)) (sym link.1.1.0) (tail network d (length network.routers) link.0 link.1.0 good device on (λ r e. omega arith) none) in
    let pairs = rises_pairs network (link_rank network link.0) (way_links network h d) whole.rising in
    record {
      ends = whole.ends;
      short = omega (arith, links_short (suc (length network.routers)) network d (first_link network h));
      joined = whole.joined;
      rising = pairs;
      distinct = λ i j none below high same. let less = pairs i j none below high in omega (arith, less, ap (link_rank network) same);
    }

-- the ways of one host
host_courses : (network : Network) (h : ℕ) (host : NetHost) (ds : List ℕ) → IsAccepted network → h < length network.hosts → AllByRecursion (λ d. lost_on_way network h d ≡ None) ds → AllByRecursion (λ d. d < length network.devices) ds → AllByRecursion (IsCourse network) (map (λ d. record { host = host; device = d; links = way_links network h d }) ds)
host_courses network h host [] good there found devices = tt
host_courses network h host (d ∷ ds) good there found devices = (course network h d host good there devices.0 found.0, host_courses network h host ds good there found.1 devices.1)

-- the places of devices, of which a host aims at some
places_below : (a n : ℕ) → AllByRecursion (λ d. d < a + n) (range_with_len a n)
places_below a zero = tt
places_below a (suc n) = let e : a + 1 + n ≡ a + suc n = omega arith in (omega arith, subst (λ (m : ℕ). AllByRecursion (λ d. d < m) (range_with_len (a + 1) n)) e (places_below (a + 1) n))

kept : {A : Type 0} (P : A → Type 0) (q : A → Bool) (xs : List A) → AllByRecursion P xs → AllByRecursion P (filter q xs)
kept P q [] all = tt
kept {A} P q (x ∷ xs) all = by (q x) (kept P q xs all.1)
  where
    by : (b : Bool) → AllByRecursion P (filter q xs) → AllByRecursion P (cond b (x ∷ filter q xs) (filter q xs))
    by true rest = (all.0, rest)
    by false rest = rest

-- the ways of all hosts
courses_from : (network : Network) (s : ℕ) (hosts : List NetHost) → IsAccepted network → s + length hosts ≤ length network.hosts → AllByRecursion (λ p. lost_of_host network p.0 p.1 ≡ None) (enumerate_from s hosts) → All (IsCourse network) (flat_map (λ p. host_ways network p.0 p.1) (enumerate_from s hosts))
courses_from network s [] good there found = λ i d h. absurd (omega arith)
courses_from network s (host ∷ hosts) good there found =
    All-append (IsCourse network) (host_ways network s host) (flat_map (λ p. host_ways network p.0 p.1) (enumerate_from (s + 1) hosts))
    (All-from_recursion (IsCourse network) (host_ways network s host) (host_courses network s host (filter (aims_at network host) (range_with_len 0 (length network.devices))) good (omega arith)
    (first_told-None (lost_on_way network s) (filter (aims_at network host) (range_with_len 0 (length network.devices))) found.0) (kept (λ d. d < length network.devices) (aims_at network host) (range_with_len 0 (length network.devices)) devices_below)))
    (courses_from network (s + 1) hosts good (omega arith) found.1)
  where
    devices_below : AllByRecursion (λ d. d < length network.devices) (range_with_len 0 (length network.devices))
    devices_below = let e : 0 + length network.devices ≡ length network.devices = omega arith in subst (λ (m : ℕ). AllByRecursion (λ d. d < m) (range_with_len 0 (length network.devices))) e (places_below 0 (length network.devices))

-- Each way of an accepted network leads to its device.
pub all_courses : (network : Network) → IsAccepted network → All (IsCourse network) (network_ways network)
all_courses network good = courses_from network 0 network.hosts good (omega arith) (first_told-None (λ (p : ℕ × NetHost). lost_of_host network p.0 p.1) (enumerate_from 0 network.hosts) (option_or-None (stray_route network) (lost_flow network) good.routes).1)
