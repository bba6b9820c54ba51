-- What the loader accepts keeps all facts of a bundle.
use Rattle.std.proofs.Common.{◌≡◌, ◌≤◌, ℕ, Bool, true, ◌&&◌, ◌==◌, List, [], ◌∷◌, ◌++◌, codes, length, map, bytes_eq, refl, ap, sym, subst, ◌∙◌, append_assoc, Option, Some, None, Result, Ok}
use Rattle.std.specs.Prelude.{nat_le, nat_lt, option_map, sum_by, All}
use Rattle.std.specs.List.{list_all}
use Rattle.std.specs.Option.{option_map_or}
use Rattle.std.proofs.lemmas.Bool.{leb-true}
use Rattle.std.proofs.lemmas.List.{length-map}
use Rattle.std.proofs.lemmas.List.Elements.{All-nil}
use Rattle.sb_packet.specs.Networks.{NetDevice, NetHost, NetLink, NetPlace, Network, at_device, at_host, at_router}
use Rattle.sb_text.specs.Sentences.{◌>>=◌, some_or, unless}
use Rattle.sb_flow.specs.Ends.{backward_link, odd_width, unfit_link, unlinked_place}
use Rattle.sb_flow.specs.Accepted.{Clash, RouteAt, clash_behind, first_clash, is_from_to, is_limited, is_limited_device, is_limited_host, is_limited_link, is_limited_router, is_there, misplaced_device, names_what_is_there, overfull_device, overlapping_device, repeated_id, repeated_link_name, repeated_name, route_fault, word_count}
use Rattle.sb_flow.proofs.Maps.{position_of_map, sum_by_map}
use Rattle.sb_flow.proofs.RowNetworks.{Kept}
use Rattle.sb_fields.specs.Counts.{all_pages, bundle_counts}
use Rattle.sb_fields.specs.Written.{WrittenBundle, WrittenDevice, WrittenHost, WrittenLink, WrittenRouter}
use Rattle.sb_fields.specs.declared.fault.LoadFault.{LoadFault}
use Rattle.sb_fields.specs.declared.fault.LoadFault.TheVariants as faults
use Rattle.sb_topology.specs.Bundles.{network_written}
use Rattle.sb_topology.specs.Lines.{hosts_by}
use Rattle.sb_topology.specs.Names.{GivenNames, links_by, names_by, names_of, place_among, routers_by, wire_named}
use Rattle.sb_topology.specs.Places.{named_network, placed_device, placed_router, silent_host}
use Rattle.sb_topology.specs.Tests.{devices_tested, image_length, links_tested, place_at, scripts_tested, unless_found}
use Rattle.sb_topology.proofs.Chains.{bind_ok, unless_found_None, unless_true}
use Rattle.sb_topology.proofs.CountedLimits.{Fits, counts_fit, device_fits, router_fits}
use Rattle.sb_topology.proofs.NewLinks.{LinkedBehind, has_ends, is_placed, links_by_then}
use Rattle.sb_topology.proofs.NewNames.{clash_append, names_by_new, place_below, routers_by_new, routes_there}
use Rattle.sb_topology.proofs.SaidTransactions.{AsksWhatMayBe, hosts_then}
use Rattle.sb_topology.proofs.ToldHosts.{ToldBehind, hosts_by_then}

-- names and numbers of what was placed are those that are written
router_names : (names : GivenNames) (rs : List WrittenRouter) → map (λ r. r.name) (map (placed_router names) rs) ≡ map (λ r. r.name) rs
router_names names [] = refl
router_names names (r ∷ rs) = rw (router_names names rs) refl

device_names : (ds : List WrittenDevice) → map (λ d. d.name) (map placed_device ds) ≡ map (λ d. d.name) ds
device_names [] = refl
device_names (d ∷ ds) = rw (device_names ds) refl

pub silent_ids : (hs : List WrittenHost) → map (λ h. h.id) (map silent_host hs) ≡ map (λ h. h.id) hs
silent_ids [] = refl
silent_ids (h ∷ hs) = rw (silent_ids hs) refl

routers_fit : (names : GivenNames) (rs : List WrittenRouter) → list_all is_limited_router (map (placed_router names) rs) ≡ list_all router_fits rs
routers_fit names [] = refl
routers_fit names (r ∷ rs) = rw (routers_fit names rs) refl

devices_fit : (ds : List WrittenDevice) → list_all is_limited_device (map placed_device ds) ≡ list_all device_fits ds
devices_fit [] = refl
devices_fit (d ∷ ds) = rw (devices_fit ds) refl

pages_are : (ds : List WrittenDevice) → sum_by (λ d. d.pages) (map placed_device ds) ≡ all_pages ds
pages_are ds = sum_by_map (λ (d : NetDevice). d.pages) placed_device ds

-- hosts clash by their ids alone
ids_clash : (before xs : List NetHost) → clash_behind (λ x y. x.id == y.id) before xs ≡ clash_behind (λ m n. m == n) (map (λ h. h.id) before) (map (λ h. h.id) xs)
ids_clash before [] = refl
ids_clash before (x ∷ xs) =
    rw (ids_clash (before ++ x ∷ []) xs, position_of_map (λ n. x.id == n) (λ (h : NetHost). h.id) 0 before, length-map before (λ (h : NetHost). h.id), append_map before x) refl
  where
    append_map : (before : List NetHost) (x : NetHost) → map (λ h. h.id) (before ++ x ∷ []) ≡ map (λ h. h.id) before ++ x.id ∷ []
    append_map [] x = refl
    append_map (b ∷ before) x = rw (append_map before x) refl

pub same_ids : (xs ys : List NetHost) → map (λ h. h.id) xs ≡ map (λ h. h.id) ys → first_clash (λ x y. x.id == y.id) xs ≡ first_clash (λ x y. x.id == y.id) ys
same_ids xs ys same = ids_clash [] xs ∙ ap (λ (ids : List ℕ). clash_behind (λ m n. m == n) [] ids) same ∙ sym (ids_clash [] ys)

and_all : (a b c d e f g h i : Bool) → a ≡ true → b ≡ true → c ≡ true → d ≡ true → e ≡ true → f ≡ true → g ≡ true → h ≡ true → i ≡ true → (a && b && c && d && e && f && g && h && i) ≡ true
and_all a b c d e f g h i ha hb hc hd he hf hg hh hi = rw (ha, hb, hc, hd, he, hf, hg, hh, hi) refl

list_all_agree : {A : Type 0} (p q : A → Bool) (xs : List A) → ((x : A) → p x ≡ q x) → list_all p xs ≡ list_all q xs
list_all_agree p q [] same = refl
list_all_agree p q (x ∷ xs) same = rw (same x, list_all_agree p q xs same) refl

-- the wire that is named is there
wire_found : (names : GivenNames) (name : List ℕ) (o wire : Option ℕ) (fault : LoadFault) → place_among names.links name ≡ o → some_or (option_map Some o) fault ≡ Ok wire → option_map_or (λ k. nat_lt k (length names.links)) wire true ≡ true
wire_found names name None wire fault at e = let no_way : ⊥ = cc in absurd no_way
wire_found names name (Some k) wire fault at e =
    let is : Some k ≡ wire = cc in
    subst (λ (w : Option ℕ). option_map_or (λ k. nat_lt k (length names.links)) w true ≡ true) is (place_below names.links name k at)

wire_there : (names : GivenNames) (named : Option (List ℕ)) (wire : Option ℕ) → wire_named names named ≡ Ok wire → option_map_or (λ k. nat_lt k (length names.links)) wire true ≡ true
unfolding wire_named
wire_there names None wire e = let is : None ≡ wire = cc in subst (λ (w : Option ℕ). option_map_or (λ k. nat_lt k (length names.links)) w true ≡ true) is refl
wire_there names (Some name) wire e = wire_found names name (place_among names.links name) wire (faults.Name (codes "wire")) refl e

-- so are the links of all routes
routers_there : (names : GivenNames) (rs : List WrittenRouter) → list_all (λ r. list_all (λ o. option_map_or (λ k. nat_lt k (length names.links)) o true) r.routes) (map (placed_router names) rs) ≡ true
routers_there names [] = refl
routers_there names (r ∷ rs) = rw (routes_there names r.routes names.devices, routers_there names rs) refl

-- a network of the text, of these links and this wire
abbrev pub made : WrittenBundle → List NetLink → Option ℕ → Network
made b links wire = record {
  hosts = map silent_host b.hosts;
  routers = map (placed_router (names_of b)) b.routers;
  devices = map placed_device b.devices;
  links = links;
  wire = wire;
}

-- its names, where all are as they should be
pub record Named (b : WrittenBundle) (network : Network) : Type 0 where
  pub links : List NetLink
  pub wire : Option ℕ
  pub is : made b links wire ≡ network
  pub names : clash_behind bytes_eq [] (map (λ h. h.name) b.hosts ++ (map (λ r. r.name) b.routers ++ map (λ d. d.name) b.devices)) ≡ None
  pub linked : LinkedBehind (names_of b) [] b.links links
  pub wired : option_map_or (λ k. nat_lt k (length (names_of b).links)) wire true ≡ true

pub named_then : (b : WrittenBundle) (network : Network) → named_network b ≡ Ok network → Named b network
unfolding named_network
named_then b network e =
    let g : GivenNames = names_of b in
    let hosts = bind_ok (names_by (codes "hosts") 0 [] g.hosts) (λ hosts. routers_by g 0 hosts b.routers >>= (λ routers. names_by (codes "devices") 0 routers g.devices >>= (λ devices. links_by g 0 [] b.links >>= (λ links. wire_named g b.wire >>= (λ wire. Ok (made b links wire)))))) network e in
    let routers = bind_ok (routers_by g 0 hosts.0 b.routers) (λ routers. names_by (codes "devices") 0 routers g.devices >>= (λ devices. links_by g 0 [] b.links >>= (λ links. wire_named g b.wire >>= (λ wire. Ok (made b links wire))))) network hosts.2 in
    let devices = bind_ok (names_by (codes "devices") 0 routers.0 g.devices) (λ devices. links_by g 0 [] b.links >>= (λ links. wire_named g b.wire >>= (λ wire. Ok (made b links wire)))) network routers.2 in
    let links = bind_ok (links_by g 0 [] b.links) (λ links. wire_named g b.wire >>= (λ wire. Ok (made b links wire))) network devices.2 in
    let wire = bind_ok (wire_named g b.wire) (λ wire. Ok (made b links.0 wire)) network links.2 in
    let h = names_by_new (codes "hosts") 0 [] g.hosts hosts.0 hosts.1 in
    let r = routers_by_new g 0 hosts.0 b.routers routers.0 routers.1 in
    let d = names_by_new (codes "devices") 0 routers.0 g.devices devices.0 devices.1 in
    let behind_hosts = subst (λ (l : List (List ℕ)). clash_behind bytes_eq l (map (λ r. r.name) b.routers) ≡ None) h.1 r.0 in
    let all_before : routers.0 ≡ g.hosts ++ map (λ r. r.name) b.routers = r.1 ∙ ap (λ (l : List (List ℕ)). l ++ map (λ r. r.name) b.routers) h.1 in
    let behind_routers = subst (λ (l : List (List ℕ)). clash_behind bytes_eq l g.devices ≡ None) all_before d.0 in
    record {
      links = links.0;
      wire = wire.0;
      is = cc wire.2;
      names = clash_append bytes_eq [] g.hosts (map (λ r. r.name) b.routers ++ g.devices) h.0 (clash_append bytes_eq g.hosts (map (λ r. r.name) b.routers) g.devices behind_hosts behind_routers);
      linked = links_by_then g 0 [] b.links links.0 links.1;
      wired = wire_there g b.wire wire.0 wire.1;
    }

-- what the tests find nothing wrong with
abbrev pub after_names : WrittenBundle → Network → Result Network LoadFault
after_names b network = do
  done ← devices_tested network
  done ← unless_found faults.Width (odd_width network)
  done ← links_tested network
  hosts ← hosts_by 0 [] b.hosts
  done ← scripts_tested (record network { hosts = hosts })
  Ok (record network { hosts = hosts })

pub record Tested (b : WrittenBundle) (network whole : Network) : Type 0 where
  pub hosts : List NetHost
  pub is : record network { hosts = hosts } ≡ whole
  pub read : hosts_by 0 [] b.hosts ≡ Ok hosts
  pub told : ToldBehind [] b.hosts hosts
  pub ids : repeated_id network ≡ None
  pub placed : misplaced_device network ≡ None
  pub apart : overlapping_device network ≡ None
  pub images : overfull_device network ≡ None
  pub widths : odd_width network ≡ None
  pub ends : unfit_link network ≡ None
  pub forward : backward_link network ≡ None
  pub linked : unlinked_place network ≡ None
  pub routes : route_fault (record network { hosts = hosts }) ≡ None
  pub words : word_count (record network { hosts = hosts }) ≤ 262144

pub tested_then : (b : WrittenBundle) (network whole : Network) → after_names b network ≡ Ok whole → Tested b network whole
unfolding devices_tested links_tested scripts_tested
tested_then b network whole e =
    let end = λ (hosts : List NetHost). (scripts_tested (record network { hosts = hosts }) >>= (λ done. Ok (record network { hosts = hosts }))) in
    let devices = bind_ok (devices_tested network) (λ done. unless_found faults.Width (odd_width network) >>= (λ done. links_tested network >>= (λ done. hosts_by 0 [] b.hosts >>= end))) whole e in
    let widths = bind_ok (unless_found faults.Width (odd_width network)) (λ done. links_tested network >>= (λ done. hosts_by 0 [] b.hosts >>= end)) whole devices.2 in
    let links = bind_ok (links_tested network) (λ done. hosts_by 0 [] b.hosts >>= end) whole widths.2 in
    let hosts = bind_ok (hosts_by 0 [] b.hosts) end whole links.2 in
    let scripts = bind_ok (scripts_tested (record network { hosts = hosts.0 })) (λ done. Ok (record network { hosts = hosts.0 })) whole hosts.2 in
    let id = λ (clash : Clash). faults.HostId clash.at in
    let overlap = λ (clash : Clash). faults.Overlap clash.at clash.earlier in
    let image = λ (d : ℕ). faults.Image d (image_length network d) in
    let ids = bind_ok (unless_found id (repeated_id network)) (λ done. unless_found faults.Range (misplaced_device network) >>= (λ done. unless_found overlap (overlapping_device network) >>= (λ done. unless_found image (overfull_device network)))) devices.0 devices.1 in
    let placed = bind_ok (unless_found faults.Range (misplaced_device network)) (λ done. unless_found overlap (overlapping_device network) >>= (λ done. unless_found image (overfull_device network))) devices.0 ids.2 in
    let apart = bind_ok (unless_found overlap (overlapping_device network)) (λ done. unless_found image (overfull_device network)) devices.0 placed.2 in
    let unlinked = λ (place : NetPlace). faults.Unlinked (place_at place) in
    let ends = bind_ok (unless_found faults.End (unfit_link network)) (λ done. unless_found faults.Backward (backward_link network) >>= (λ done. unless_found unlinked (unlinked_place network))) links.0 links.1 in
    let forward = bind_ok (unless_found faults.Backward (backward_link network)) (λ done. unless_found unlinked (unlinked_place network)) links.0 ends.2 in
    let total = word_count (record network { hosts = hosts.0 }) in
    let route = λ (r : RouteAt). faults.Route r.router r.device in
    let routes = bind_ok (unless_found route (route_fault (record network { hosts = hosts.0 }))) (λ done. unless (nat_le total 262144) (faults.Budget total)) scripts.0 scripts.1 in
    record {
      hosts = hosts.0;
      is = cc scripts.2;
      read = hosts.1;
      told = hosts_by_then 0 [] b.hosts hosts.0 hosts.1;
      ids = unless_found_None id (repeated_id network) ids.0 ids.1;
      placed = unless_found_None faults.Range (misplaced_device network) placed.0 placed.1;
      apart = unless_found_None overlap (overlapping_device network) apart.0 apart.1;
      images = unless_found_None image (overfull_device network) devices.0 apart.2;
      widths = unless_found_None faults.Width (odd_width network) widths.0 widths.1;
      ends = unless_found_None faults.End (unfit_link network) ends.0 ends.1;
      forward = unless_found_None faults.Backward (backward_link network) forward.0 forward.1;
      linked = unless_found_None unlinked (unlinked_place network) links.0 forward.2;
      routes = unless_found_None route (route_fault (record network { hosts = hosts.0 })) routes.0 routes.1;
      words = leb-true total 262144 (unless_true (nat_le total 262144) _ scripts.0 routes.2);
    }

-- The facts of a bundle hold of the network, its hosts with their scripts.
module _ (b : WrittenBundle) (links : List NetLink) (wire : Option ℕ) (hosts : List NetHost) (fits : Fits b)
    (linked : LinkedBehind (names_of b) [] b.links links) (told : ToldBehind [] b.hosts hosts) where
  abbrev whole : Network
  whole = record (made b links wire) { hosts = hosts }

  many_hosts : length hosts ≡ length b.hosts
  many_hosts = ap length told.all_are ∙ told.many

  many_links : length links ≡ length b.links
  many_links = ap length linked.all_are ∙ linked.many

  host_names : map (λ h. h.name) hosts ≡ map (λ h. h.name) b.hosts
  host_names = ap (map (λ (h : NetHost). h.name)) told.all_are ∙ told.names

  few_hosts : is_from_to 1 32 (length hosts) ≡ true
  few_hosts = rw many_hosts fits.hosts

  few_routers : is_from_to 1 32 (length (map (placed_router (names_of b)) b.routers)) ≡ true
  few_routers = rw (length-map b.routers (placed_router (names_of b))) fits.routers

  few_devices : is_from_to 1 32 (length (map placed_device b.devices)) ≡ true
  few_devices = rw (length-map b.devices placed_device) fits.devices

  few_links : is_from_to 1 128 (length links) ≡ true
  few_links = rw many_links fits.links

  hosts_fit : list_all is_limited_host hosts ≡ true
  hosts_fit = subst (λ (hs : List NetHost). list_all is_limited_host hs ≡ true) (sym told.all_are) (told.fit fits.each_host)

  links_fit : list_all is_limited_link links ≡ true
  links_fit = subst (λ (ls : List NetLink). list_all is_limited_link ls ≡ true) (sym linked.all_are) (linked.fit fits.each_link)

  few_pages : nat_le (sum_by (λ d. d.pages) (map placed_device b.devices)) 4096 ≡ true
  few_pages = rw (pages_are b.devices) fits.pages

  limits : is_limited whole ≡ true
  limits = and_all (is_from_to 1 32 (length hosts)) (is_from_to 1 32 (length (map (placed_router (names_of b)) b.routers))) (is_from_to 1 32 (length (map placed_device b.devices))) (is_from_to 1 128 (length links))
      (list_all is_limited_host hosts) (list_all is_limited_router (map (placed_router (names_of b)) b.routers)) (list_all is_limited_device (map placed_device b.devices)) (list_all is_limited_link links)
      (nat_le (sum_by (λ d. d.pages) (map placed_device b.devices)) 4096)
      few_hosts few_routers few_devices few_links hosts_fit (routers_fit (names_of b) b.routers ∙ fits.each_router) (devices_fit b.devices ∙ fits.each_device) links_fit few_pages

  names : clash_behind bytes_eq [] (map (λ h. h.name) b.hosts ++ (map (λ r. r.name) b.routers ++ map (λ d. d.name) b.devices)) ≡ None → repeated_name whole ≡ None
  names new = rw (host_names, router_names (names_of b) b.routers, device_names b.devices, append_assoc (map (λ (h : WrittenHost). h.name) b.hosts) (map (λ (r : WrittenRouter). r.name) b.routers) (map (λ (d : WrittenDevice). d.name) b.devices)) new

  link_names : repeated_link_name whole ≡ None
  link_names = subst (λ (ls : List NetLink). clash_behind (λ x y. bytes_eq x.name y.name) [] ls ≡ None) (sym linked.all_are) linked.new

  ids : repeated_id (made b links wire) ≡ None → repeated_id whole ≡ None
  ids none = same_ids hosts (map silent_host b.hosts) (ap (map (λ (h : NetHost). h.id)) told.all_are ∙ told.ids ∙ sym (silent_ids b.hosts)) ∙ none

  there_agree : (p : NetPlace) → is_there whole p ≡ is_placed (names_of b) p
  there_agree (at_host h) = rw (many_hosts, length-map b.hosts (λ (h : WrittenHost). h.name)) refl
  there_agree (at_router r) = rw (length-map b.routers (placed_router (names_of b)), length-map b.routers (λ (r : WrittenRouter). r.name)) refl
  there_agree (at_device d) = rw (length-map b.devices placed_device, length-map b.devices (λ (d : WrittenDevice). d.name)) refl

  same_links : length links ≡ length (names_of b).links
  same_links = many_links ∙ sym (length-map b.links (λ (l : WrittenLink). l.name))

  links_join : list_all (λ l. is_there whole l.from && is_there whole l.to) links ≡ true
  links_join = list_all_agree (λ (l : NetLink). is_there whole l.from && is_there whole l.to) (has_ends (names_of b)) links (λ l. rw (there_agree l.from, there_agree l.to) refl)
      ∙ subst (λ (ls : List NetLink). list_all (has_ends (names_of b)) ls ≡ true) (sym linked.all_are) linked.ends

  routes_lead : list_all (λ r. list_all (λ o. option_map_or (λ k. nat_lt k (length links)) o true) r.routes) (map (placed_router (names_of b)) b.routers) ≡ true
  routes_lead = subst (λ (m : ℕ). list_all (λ r. list_all (λ o. option_map_or (λ k. nat_lt k m) o true) r.routes) (map (placed_router (names_of b)) b.routers) ≡ true) (sym same_links) (routers_there (names_of b) b.routers)

  named : option_map_or (λ k. nat_lt k (length (names_of b).links)) wire true ≡ true → names_what_is_there whole ≡ true
  named wired = rw (links_join, routes_lead, subst (λ (m : ℕ). option_map_or (λ k. nat_lt k m) wire true ≡ true) (sym same_links) wired) refl

  linked_places : unlinked_place (made b links wire) ≡ None → unlinked_place whole ≡ None
  linked_places none = let e : length hosts ≡ length (map silent_host b.hosts) = many_hosts ∙ sym (length-map b.hosts silent_host) in rw e none

pub kept : (b : WrittenBundle) (network : Network) (u : Unit {0}) → bundle_counts b ≡ Ok u → network_written b ≡ Ok network → Kept network
kept b network u counted e =
    let fits = counts_fit b u counted in
    let parts = bind_ok (named_network b) (after_names b) network e in
    let n = named_then b parts.0 parts.1 in
    let t = tested_then b (made b n.links n.wire) network (subst (λ (p : Network). after_names b p ≡ Ok network) (sym n.is) parts.2) in
    subst Kept t.is (record {
      limits = limits b n.links n.wire t.hosts fits n.linked t.told;
      names = names b n.links n.wire t.hosts fits n.linked t.told n.names;
      link_names = link_names b n.links n.wire t.hosts fits n.linked t.told;
      named = named b n.links n.wire t.hosts fits n.linked t.told n.wired;
      ids = ids b n.links n.wire t.hosts fits n.linked t.told t.ids;
      placed = t.placed;
      apart = t.apart;
      images = t.images;
      widths = t.widths;
      ends = t.ends;
      forward = t.forward;
      linked = linked_places b n.links n.wire t.hosts fits n.linked t.told t.linked;
      routes = t.routes;
      words = t.words;
    })

-- its hosts ask for what can be asked for
pub asked : (b : WrittenBundle) (network : Network) → network_written b ≡ Ok network → All AsksWhatMayBe network.hosts
asked b network e =
    let parts = bind_ok (named_network b) (after_names b) network e in
    let t = tested_then b parts.0 network parts.2 in
    subst (λ (p : Network). All AsksWhatMayBe p.hosts) t.is (hosts_then 0 [] b.hosts t.hosts (All-nil AsksWhatMayBe) t.read)
