-- An accepted network is routed.
use Rattle.std.proofs.Common.{◌≡◌, ◌≤◌, ◌<◌, ℕ, ◌+◌, ◌%◌, ◌^◌, Bool, true, false, cond, length, refl, sym, ap, ◌∙◌, arith, subst, inl, inr}
use Rattle.std.specs.Prelude.{◌==◌, ◌||◌, ◌&&◌, ◌⊎◌, nat_le, nat_lt, not, filter, All, AllPairs, Option, Some, None, get_or, slice_get, option_map, option_and_then, if◌then◌else◌}
use Rattle.std.specs.List.{list_any, list_all, find, position_from, enumerate_from, range_with_len}
use Rattle.std.specs.Option.{option_map_or}
use Rattle.std.proofs.lemmas.Bool.{cases_lt, and_parts}
use Rattle.std.proofs.lemmas.Bool.Decides.{nat_tests}
use Rattle.std.proofs.lemmas.Option.{slice_get-get_or}
use Rattle.std.proofs.lemmas.List.Elements.{All-weaker}
use Rattle.std.proofs.lemmas.List.FromFn.{length-range_with_len, get_or-range_with_len, length-enumerate_from, get_or-enumerate_from}
use Rattle.sb_packet.specs.Networks.{NetDevice, NetHost, NetLink, NetPlace, Network, at_device, at_host, at_router, device_size, has_address, leads_to, leaves_from}
use Rattle.sb_link.specs.RingPlans.{are_apart}
use Rattle.sb_flow.specs.Ways.{router_at_end, router_before, router_after, route_at, aims_at, is_some_number, way_links}
use Rattle.sb_flow.specs.Rings.{range_of}
use Rattle.sb_packet.proofs.Lists.{All-kept}
use Rattle.sb_flow.specs.Accepted.{IsAccepted, RouteAt, is_from_to, is_limited, is_limited_device, is_limited_host, is_limited_link, is_limited_router, is_link_there, is_other_device, is_placed_device, is_stray, is_there, leads_on, lost_behind, lost_flow, lost_of_host, lost_on_way, page_count, stray_route, stray_route_of}
use Rattle.sb_flow.specs.Ends.{joins, goes_back}
use Rattle.sb_flow.proofs.Clashes.{option_or-None, option_map-None}
use Rattle.sb_flow.proofs.WayCourses.{some_number-is, place-is}
use Rattle.sb_laws.specs.Layouts.{HasScripts}
use Rattle.sb_laws.specs.NetworkLayouts.{IsFirstLink, IsRoute, IsRouted, LeadsOn, is_link_to}
use Rattle.sb_laws.proofs.LinksToDevices.{found_place, none_found}
use Rattle.sb_laws.proofs.NoFaults.{none_passes, nothing_found, all_pass, nothing_told, at_place, some_place, All-at, AllPairs-at, no_clash}
use Rattle.sb_laws.proofs.FitLinks.{AreFit, fit_links, is_false, host_start, only_link}

-- the limits that matter here
record Limited (network : Network) : Type 0 where
  hosts : All (λ h. is_limited_host h ≡ true) network.hosts
  devices : length network.devices ≤ 32

of_nine : (a b c d e f g h i : Bool) → (a && b && c && d && e && f && g && h && i) ≡ true → (c ≡ true) × (e ≡ true)
of_nine a b c d e f g h i all =
    let eight = (and_parts (a && b && c && d && e && f && g && h) i all).0 in
    let seven = (and_parts (a && b && c && d && e && f && g) h eight).0 in
    let six = (and_parts (a && b && c && d && e && f) g seven).0 in
    let five = (and_parts (a && b && c && d && e) f six).0 in
    let four = and_parts (a && b && c && d) e five in
    let three = (and_parts (a && b && c) d four.0).0 in
    ((and_parts (a && b) c three).1, four.1)

limited : (network : Network) → is_limited network ≡ true → Limited network
limited network e =
    let parts = of_nine (is_from_to 1 32 (length network.hosts)) (is_from_to 1 32 (length network.routers)) (is_from_to 1 32 (length network.devices)) (is_from_to 1 128 (length network.links))
    (list_all is_limited_host network.hosts) (list_all is_limited_router network.routers) (list_all is_limited_device network.devices) (list_all is_limited_link network.links) (nat_le (page_count network) 4096) e in
    record {
      hosts = all_pass is_limited_host network.hosts parts.1;
      devices = let most = (and_parts (nat_le 1 (length network.devices)) (nat_le (length network.devices) 32) parts.0).1 in grind (arith, nat_tests);
    }

short_script : (h : NetHost) → is_limited_host h ≡ true → length h.script ≤ 65536
short_script h e = let most = (and_parts (nat_le h.id 31 && nat_le h.qos 15 && nat_le h.prot 3) (nat_le (length h.script) 65536) e).1 in grind (arith, nat_tests)

low_id : (h : NetHost) → is_limited_host h ≡ true → h.id < 32
low_id h e = let least = (and_parts (nat_le h.id 31) (nat_le h.qos 15) (and_parts (nat_le h.id 31 && nat_le h.qos 15) (nat_le h.prot 3) (and_parts (nat_le h.id 31 && nat_le h.qos 15 && nat_le h.prot 3) (nat_le (length h.script) 65536) e).0).0).0 in grind (arith, nat_tests)

-- hosts' ids are below 32
pub low_ids : (network : Network) → IsAccepted network → All (λ h. h.id < 32) network.hosts
low_ids network accepted = All-weaker (λ h. is_limited_host h ≡ true) (λ h. h.id < 32) low_id network.hosts (limited network accepted.limits).hosts

is_placed : (b : Bool) → not b ≡ false → b ≡ true
is_placed true e = refl
is_placed false e = absurd (cc)

whole_pages : (d : NetDevice) → is_placed_device d ≡ true → d.base % 4096 ≡ 0
whole_pages d e = let first = (and_parts (d.base % 4096 == 0) (nat_le (d.base + device_size d) (2 ^ 56)) e).0 in grind (arith, nat_tests)

-- an address is not in two ranges that are apart
no_common : (a b size_a size_b address : ℕ) → (nat_le (a + size_a) b || nat_le (b + size_b) a) ≡ true → (nat_le a address && nat_lt address (a + size_a)) ≡ true → (nat_le b address && nat_lt address (b + size_b)) ≡ true → ⊥
no_common a b size_a size_b address apart p q = by_side (nat_le (a + size_a) b) refl apart
  where
    in_a : (nat_le a address ≡ true) × (nat_lt address (a + size_a) ≡ true)
    in_a = and_parts (nat_le a address) (nat_lt address (a + size_a)) p

    in_b : (nat_le b address ≡ true) × (nat_lt address (b + size_b) ≡ true)
    in_b = and_parts (nat_le b address) (nat_lt address (b + size_b)) q

    by_side : (c : Bool) → nat_le (a + size_a) b ≡ c → (c || nat_le (b + size_b) a) ≡ true → ⊥
    by_side true t e =
        let above_test = in_a.1 in let from_test = in_b.0 in
        let below : address < a + size_a = grind (arith, nat_tests) in let from : b ≤ address = grind (arith, nat_tests) in let before : a + size_a ≤ b = grind (arith, nat_tests) in absurd (omega arith)
    by_side false t e =
        let above_test = in_b.1 in let from_test = in_a.0 in
        let below : address < b + size_b = grind (arith, nat_tests) in let from : a ≤ address = grind (arith, nat_tests) in let before : b + size_b ≤ a = grind (arith, nat_tests) in absurd (omega arith)

-- what a route that leads astray tells
abbrev stray_at : Network → ℕ → ℕ → Option RouteAt
stray_at network r d = if is_stray network r d then Some (record { router = r; device = d }) else None

not_told : (b : Bool) (at : RouteAt) → cond b (Some at) None ≡ None → b ≡ false
not_told true at e = absurd (cc)
not_told false at e = refl

-- a link that ends at a device leads to it
device_leads : (d e : ℕ) (link : NetLink) → link.to ≡ at_device e → (e == d) ≡ true → leads_to d link ≡ true
device_leads d e link is same = rw is same

module _ (network : Network) (accepted : IsAccepted network) where
  fit : AreFit network.links
  fit = fit_links network accepted.ends

  scripts : HasScripts network
  scripts = record {
    transactions = accepted.lines;
    few = All-weaker (λ h. is_limited_host h ≡ true) (λ h. length h.script ≤ 65536) short_script network.hosts (limited network accepted.limits).hosts;
    ids = λ i j d below inside same. (let other = no_clash (λ x y. x.id == y.id) network.hosts accepted.ids i j d below inside in
        let equal : ((get_or network.hosts j d).id == (get_or network.hosts i d).id) ≡ true = grind (arith, nat_tests) in cc);
  }

  pages : All (λ d. d.base % 4096 ≡ 0) network.devices
  pages = All-weaker (λ d. not (is_placed_device d) ≡ false) (λ d. d.base % 4096 ≡ 0) (λ d e. whole_pages d (is_placed (is_placed_device d) e)) network.devices (none_passes (λ d. not (is_placed_device d)) 0 network.devices accepted.placed)

  apart : (address d e : ℕ) → option_map_or (has_address address) (slice_get network.devices d) false ≡ true → option_map_or (has_address address) (slice_get network.devices e) false ≡ true → d ≡ e
  apart address d e p q = by_places (cases_lt d e) (cases_lt e d)
    where
      first : (x : NetDevice) × (d < length network.devices) × (slice_get network.devices d ≡ Some x) × (has_address address x ≡ true)
      first = at_place (has_address address) network.devices d p

      second : (x : NetDevice) × (e < length network.devices) × (slice_get network.devices e ≡ Some x) × (has_address address x ≡ true)
      second = at_place (has_address address) network.devices e q

      pairs : AllPairs (λ y x. not (are_apart (range_of x) (range_of y)) ≡ false) network.devices
      pairs = no_clash (λ x y. not (are_apart (range_of x) (range_of y))) network.devices accepted.apart

      by_places : (d < e) ⊎ (e ≤ d) → (e < d) ⊎ (d ≤ e) → d ≡ e
      by_places (inl below) other = absurd (no_common second.0.base first.0.base (device_size second.0) (device_size first.0) address
          (is_placed (are_apart (range_of second.0) (range_of first.0)) (AllPairs-at (λ y x. not (are_apart (range_of x) (range_of y)) ≡ false) network.devices d e first.0 second.0 pairs below first.2 second.2)) second.3 first.3)
      by_places (inr le) (inl below) = absurd (no_common first.0.base second.0.base (device_size first.0) (device_size second.0) address
          (is_placed (are_apart (range_of first.0) (range_of second.0)) (AllPairs-at (λ y x. not (are_apart (range_of x) (range_of y)) ≡ false) network.devices e d second.0 first.0 pairs below second.2 first.2)) first.3 second.3)
      by_places (inr le) (inr ge) = omega arith

  -- hosts and devices have their links
  unlinked : (find (λ h. not (list_any (leaves_from h) network.links)) (range_with_len 0 (length network.hosts)) ≡ None) × (find (λ d. not (list_any (leads_to d) network.links)) (range_with_len 0 (length network.devices)) ≡ None)
  unlinked =
      let hosts = find (λ h. not (list_any (leaves_from h) network.links)) (range_with_len 0 (length network.hosts)) in
      let devices = find (λ d. not (list_any (leads_to d) network.links)) (range_with_len 0 (length network.devices)) in
      let parts = option_or-None (option_map at_host hosts) (option_map at_device devices) accepted.linked in
      (option_map-None at_host hosts parts.0, option_map-None at_device devices parts.1)

  at_number : (P : ℕ → Type 0) (n k : ℕ) → All P (range_with_len 0 n) → k < n → P k
  at_number P n k h inside = subst P (get_or-range_with_len 0 n k k inside ∙ omega arith) (h k k (rw length-range_with_len inside))

  linked : (d : ℕ) → d < length network.devices → (k : ℕ) × (k < length network.links) × (is_link_to network d k ≡ true)
  linked d there = some_place (leads_to d) network.links (is_placed (list_any (leads_to d) network.links)
      (at_number (λ d. not (list_any (leads_to d) network.links) ≡ false) (length network.devices) d (nothing_found (λ d. not (list_any (leads_to d) network.links)) (range_with_len 0 (length network.devices)) unlinked.1) there))

  first : (h : ℕ) → h < length network.hosts → (k : ℕ) × IsFirstLink network h k
  first h there = by_place (position_from (leaves_from h) 0 network.links) refl
    where
      some : (k : ℕ) × (k < length network.links) × (option_map_or (leaves_from h) (slice_get network.links k) false ≡ true)
      some = some_place (leaves_from h) network.links (is_placed (list_any (leaves_from h) network.links)
          (at_number (λ h. not (list_any (leaves_from h) network.links) ≡ false) (length network.hosts) h (nothing_found (λ h. not (list_any (leaves_from h) network.links)) (range_with_len 0 (length network.hosts)) unlinked.0) there))

      of_link : (k : ℕ) (link : NetLink) → k < length network.links → slice_get network.links k ≡ Some link → leaves_from h link ≡ true → position_from (leaves_from h) 0 network.links ≡ Some k → IsFirstLink network h k
      of_link k link inside at leaves found = by_end link.to refl
        where
          start : link.from ≡ at_host h
          start = host_start h link leaves

          joined : joins link.from link.to ≡ true
          joined = All-at (λ l. joins l.from l.to ≡ true) network.links k link fit.joined at

          by_end : (p : NetPlace) → link.to ≡ p → IsFirstLink network h k
          by_end (at_host g) is = absurd (let never = ap (λ (p : NetPlace). joins p (at_host g)) (sym start) ∙ ap (joins link.from) (sym is) ∙ joined in cc)
          by_end (at_router r) is = record {
            there = inside;
            first = found;
            leaves = ap (option_and_then (λ l. router_at_end l.from)) at ∙ ap router_at_end start;
            router = r;
            leads = ap (option_and_then (λ l. router_at_end l.to)) at ∙ ap router_at_end is;
          }
          by_end (at_device d) is = absurd (let never = ap (λ (p : NetPlace). joins p (at_device d)) (sym start) ∙ ap (joins link.from) (sym is) ∙ joined in cc)

      by_place : (o : Option ℕ) → position_from (leaves_from h) 0 network.links ≡ o → (k : ℕ) × IsFirstLink network h k
      by_place None e = absurd (none_found (leaves_from h) 0 some.0 network.links e some.2)
      by_place (Some k) e =
          let place = found_place (leaves_from h) 0 k network.links e in
          let same : place.0 ≡ k = omega (arith, place.1) in
          let link = at_place (leaves_from h) network.links place.0 place.2.passes in
          (k, of_link k link.0 (subst (λ (n : ℕ). n < length network.links) same link.1) (subst (λ (n : ℕ). slice_get network.links n ≡ Some link.0) same link.2) link.3 e)

  -- what links name is there
  named_links : All (λ l. (is_there network l.from && is_there network l.to) ≡ true) network.links
  named_links =
      let links = list_all (λ l. is_there network l.from && is_there network l.to) network.links in
      let routers = list_all (λ r. list_all (is_link_there network) r.routes) network.routers in
      let parts = and_parts links routers (and_parts (links && routers) (is_link_there network network.wire) accepted.named).0 in
      all_pass (λ l. is_there network l.from && is_there network l.to) network.links parts.0

  -- an end of a link that is a router
  record LinkEnd (end : NetLink → NetPlace) (k r : ℕ) : Type 0 where
    link : NetLink
    inside : k < length network.links
    at : slice_get network.links k ≡ Some link
    is : end link ≡ at_router r

  link_end : (end : NetLink → NetPlace) (k r : ℕ) → option_and_then (λ l. router_at_end (end l)) (slice_get network.links k) ≡ Some r → LinkEnd end k r
  link_end end k r e = by_link (slice_get network.links k) refl e
    where
      by_link : (o : Option NetLink) → slice_get network.links k ≡ o → option_and_then (λ l. router_at_end (end l)) o ≡ Some r → LinkEnd end k r
      by_link None is e = absurd (cc)
      by_link (Some l) is e = record { link = l; inside = (at_place (λ z. true) network.links k (ap (λ (o : Option NetLink). option_map_or (λ z. true) o false) is)).1; at = is; is = place-is (end l) r e }

  router_there : (r : ℕ) → is_there network (at_router r) ≡ true → r < length network.routers
  router_there r e = grind (arith, nat_tests)

  there : (k q : ℕ) → router_after network k ≡ Some q → q < length network.routers
  there k q e =
      let end = link_end (λ l. l.to) k q e in
      let named = and_parts (is_there network end.link.from) (is_there network end.link.to) (All-at (λ l. (is_there network l.from && is_there network l.to) ≡ true) network.links k end.link named_links end.at) in
      router_there q (ap (is_there network) (sym end.is) ∙ named.1)

  there_before : (k r : ℕ) → router_before network k ≡ Some r → r < length network.routers
  there_before k r e =
      let end = link_end (λ l. l.from) k r e in
      let named = and_parts (is_there network end.link.from) (is_there network end.link.to) (All-at (λ l. (is_there network l.from && is_there network l.to) ≡ true) network.links k end.link named_links end.at) in
      router_there r (ap (is_there network) (sym end.is) ∙ named.0)

  forward : (k r q : ℕ) → router_before network k ≡ Some r → router_after network k ≡ Some q → r < q
  forward k r q e f =
      let before = link_end (λ l. l.from) k r e in
      let after = link_end (λ l. l.to) k q f in
      let same : before.link ≡ after.link = (let some : Some before.link ≡ Some after.link = sym before.at ∙ after.at in cc) in
      let on = All-at (λ l. goes_back l.from l.to ≡ false) network.links k before.link (none_passes (λ l. goes_back l.from l.to) 0 network.links accepted.forward) before.at in
      let ends : nat_le q r ≡ false = ap (λ (p : NetPlace). goes_back p (at_router q)) (sym before.is) ∙ ap (goes_back before.link.from) (sym (ap (λ (l : NetLink). l.to) same ∙ after.is)) ∙ on in
      grind (arith, nat_tests)

  -- routes lead on
  no_route_faults : (stray_route network ≡ None) × (lost_flow network ≡ None)
  no_route_faults = option_or-None (stray_route network) (lost_flow network) accepted.routes

  straight : (d r : ℕ) → d < length network.devices → r < length network.routers → is_stray network r d ≡ false
  straight d r inside within =
      let at_router = at_number (λ r. stray_route_of network r ≡ None) (length network.routers) r (nothing_told (stray_route_of network) (range_with_len 0 (length network.routers)) no_route_faults.0) within in
      let told = nothing_told (stray_at network r) (range_with_len 0 (length network.devices)) at_router in
      not_told (is_stray network r d) (record { router = r; device = d }) (at_number (λ d. stray_at network r d ≡ None) (length network.devices) d told inside)

  routes : (d r k : ℕ) → d < length network.devices → r < length network.routers → route_at network d r ≡ Some k → IsRoute network d r k
  routes d r k inside within route =
      let test : option_map_or (leads_on network r d) (route_at network d r) true ≡ true = is_placed (option_map_or (leads_on network r d) (route_at network d r) true) (straight d r inside within) in
      let on : leads_on network r d k ≡ true = ap (λ (o : Option ℕ). option_map_or (leads_on network r d) o true) (sym route) ∙ test in
      let parts = and_parts (is_some_number r (router_before network k)) (not (option_map_or (λ l. is_other_device d l.to) (slice_get network.links k) false)) on in
      let leaves = some_number-is r (router_before network k) parts.0 in
      let start = link_end (λ l. l.from) k r leaves in
      record { there = start.inside; leaves = leaves; leads = of_link start.link start.at start.is (is_false (option_map_or (λ l. is_other_device d l.to) (slice_get network.links k) false) parts.1) }
    where
      of_link : (link : NetLink) → slice_get network.links k ≡ Some link → link.from ≡ at_router r → option_map_or (λ l. is_other_device d l.to) (slice_get network.links k) false ≡ false → LeadsOn network d k
      of_link link at from other = by_end link.to refl
        where
          joined : joins link.from link.to ≡ true
          joined = All-at (λ l. joins l.from l.to ≡ true) network.links k link fit.joined at

          not_other : is_other_device d link.to ≡ false
          not_other = ap (λ (o : Option NetLink). option_map_or (λ l. is_other_device d l.to) o false) (sym at) ∙ other

          by_end : (p : NetPlace) → link.to ≡ p → LeadsOn network d k
          by_end (at_host g) is = absurd (let never = ap (λ (p : NetPlace). joins p (at_host g)) (sym from) ∙ ap (joins link.from) (sym is) ∙ joined in cc)
          by_end (at_router q) is = inr (q, ap (option_and_then (λ l. router_at_end l.to)) at ∙ ap router_at_end is)
          by_end (at_device e) is =
              let test : not (e == d) ≡ false = ap (is_other_device d) (sym is) ∙ not_other in
              let same : (e == d) ≡ true = is_placed (e == d) test in
              inl (ap (λ (o : Option NetLink). option_map_or (leads_to d) o false) at ∙ device_leads d e link is same)

  unbroken : (h d : ℕ) (host : NetHost) → slice_get network.hosts h ≡ Some host → d < length network.devices → aims_at network host d ≡ true →
      All (λ k. (r : ℕ) → router_after network k ≡ Some r → (j : ℕ) × (route_at network d r ≡ Some j)) (way_links network h d)
  unbroken h d host at inside aims =
      let p : ℕ × NetHost = (h, host) in
      let place = at_place (λ z. true) network.hosts h (ap (λ (o : Option NetHost). option_map_or (λ z. true) o false) at) in
      let own : get_or network.hosts h host ≡ host = (let some : Some (get_or network.hosts h host) ≡ Some host = sym (slice_get-get_or network.hosts h host place.1) ∙ at in cc) in
      let element : get_or (enumerate_from 0 network.hosts) h p ≡ (0 + h, host) = get_or-enumerate_from 0 network.hosts h p place.1 ∙ ap {B = ℕ × NetHost} (λ (x : NetHost). (0 + h, x)) own in
      let hosts = nothing_told (λ q. lost_of_host network q.0 q.1) (enumerate_from 0 network.hosts) no_route_faults.1 h p (rw length-enumerate_from place.1) in
      let of_host : lost_of_host network (0 + h) host ≡ None = subst (λ (q : ℕ × NetHost). lost_of_host network q.0 q.1 ≡ None) element hosts in
      let zero_h : 0 + h ≡ h = omega arith in
      let of_place : lost_of_host network h host ≡ None = subst (λ (n : ℕ). lost_of_host network n host ≡ None) zero_h of_host in
      let devices = nothing_told (lost_on_way network h) (filter (aims_at network host) (range_with_len 0 (length network.devices))) of_place in
      let kept = All-kept (aims_at network host) (λ d. lost_on_way network h d ≡ None) (range_with_len 0 (length network.devices)) devices in
      let on_way : lost_on_way network h d ≡ None = at_number (λ d. aims_at network host d ≡ true → lost_on_way network h d ≡ None) (length network.devices) d kept inside aims in
      All-weaker (λ k. lost_behind network d k ≡ None) (λ k. (r : ℕ) → router_after network k ≡ Some r → (j : ℕ) × (route_at network d r ≡ Some j))
      (λ k lost r leads. has_route r (route_at network d r) refl (ap (λ (o : Option ℕ). option_and_then (λ r. option_map_or (λ next. None) (route_at network d r) (Some (let at : RouteAt = record { router = r; device = d } in at))) o) (sym leads) ∙ lost))
      (way_links network h d) (nothing_told (lost_behind network d) (way_links network h d) on_way)
    where
      has_route : (r : ℕ) (o : Option ℕ) → route_at network d r ≡ o → option_map_or (λ (next : ℕ). None) (route_at network d r) (Some (let at : RouteAt = record { router = r; device = d } in at)) ≡ None → (j : ℕ) × (route_at network d r ≡ Some j)
      has_route r (Some j) is e = (j, is)
      has_route r None is e = absurd (let some : Some (let at : RouteAt = record { router = r; device = d } in at) ≡ None = ap (λ (o : Option ℕ). option_map_or (λ (next : ℕ). None) o (Some (let at : RouteAt = record { router = r; device = d } in at))) (sym is) ∙ e in cc)

-- An accepted network is routed.
pub accepted_is_routed : (network : Network) → IsAccepted network → IsRouted network
accepted_is_routed network accepted = record {
  scripts = scripts network accepted;
  few = (limited network accepted.limits).devices;
  pages = pages network accepted;
  apart = apart network accepted;
  first = first network accepted;
  linked = linked network accepted;
  one_link = only_link network (fit network accepted);
  there = there network accepted;
  there_before = there_before network accepted;
  forward = forward network accepted;
  routes = routes network accepted;
  unbroken = unbroken network accepted;
}
