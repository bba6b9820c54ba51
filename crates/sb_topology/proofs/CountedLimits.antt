-- Where no number is out of its range, what is written keeps the limits.
use Rattle.std.proofs.Common.{◌≡◌, ℕ, Bool, true, ◌&&◌, List, [], codes, length, refl, Result, Ok}
use Rattle.std.specs.Prelude.{nat_le}
use Rattle.std.specs.List.{list_all}
use Rattle.std.proofs.lemmas.Bool.{and_parts}
use Rattle.sb_text.specs.Sentences.{◌>>=◌}
use Rattle.sb_flow.specs.Accepted.{is_from_to}
use Rattle.sb_fields.specs.Counts.{all_pages, bundle_counts, device_counts, devices_counts, each_item, host_counts, in_range, link_counts, list_counts, router_counts}
use Rattle.sb_fields.specs.Written.{WrittenBundle, WrittenDevice, WrittenHost, WrittenLink, WrittenRouter}
use Rattle.sb_fields.specs.declared.fault.LoadFault.{LoadFault}
use Rattle.sb_topology.proofs.Chains.{bind_ok, each_item_all, in_range_true}

-- the numbers of an object, as the facts of a bundle test them
abbrev pub host_fits : WrittenHost → Bool
host_fits h = nat_le h.id 31 && nat_le h.qos 15 && nat_le h.prot 3 && nat_le (length h.script) 65536

abbrev pub router_fits : WrittenRouter → Bool
router_fits r = nat_le r.side 1

abbrev pub device_fits : WrittenDevice → Bool
device_fits d = is_from_to 1 256 d.pages

abbrev pub link_fits : WrittenLink → Bool
link_fits l = is_from_to 1 1024 l.capacity

-- the upper bound of a range
upper : (least most n : ℕ) (at name : List ℕ) (u : Unit {0}) → in_range least most n at name ≡ Ok u → nat_le n most ≡ true
upper least most n at name u e = let parts = and_parts (nat_le least n) (nat_le n most) (in_range_true least most n at name u e) in parts.1

host_then : (at : List ℕ) (h : WrittenHost) (u : Unit {0}) → host_counts at h ≡ Ok u → host_fits h ≡ true
unfolding host_counts
host_then at h u e =
    let id = bind_ok (in_range 0 31 h.id at (codes "id")) (λ done. in_range 0 15 h.qos at (codes "qos") >>= (λ done. in_range 0 3 h.prot at (codes "prot") >>= (λ done. in_range 0 65536 (length h.script) at (codes "script")))) u e in
    let qos = bind_ok (in_range 0 15 h.qos at (codes "qos")) (λ done. in_range 0 3 h.prot at (codes "prot") >>= (λ done. in_range 0 65536 (length h.script) at (codes "script"))) u id.2 in
    let prot = bind_ok (in_range 0 3 h.prot at (codes "prot")) (λ done. in_range 0 65536 (length h.script) at (codes "script")) u qos.2 in
    rw (upper 0 31 h.id at (codes "id") id.0 id.1, upper 0 15 h.qos at (codes "qos") qos.0 qos.1, upper 0 3 h.prot at (codes "prot") prot.0 prot.1, upper 0 65536 (length h.script) at (codes "script") u prot.2) refl

router_then : (at : List ℕ) (r : WrittenRouter) (u : Unit {0}) → router_counts at r ≡ Ok u → router_fits r ≡ true
unfolding router_counts
router_then at r u e = upper 0 1 r.side at (codes "side") u e

device_then : (at : List ℕ) (d : WrittenDevice) (u : Unit {0}) → device_counts at d ≡ Ok u → device_fits d ≡ true
unfolding device_counts
device_then at d u e = in_range_true 1 256 d.pages at (codes "pages") u e

link_then : (at : List ℕ) (l : WrittenLink) (u : Unit {0}) → link_counts at l ≡ Ok u → link_fits l ≡ true
unfolding link_counts
link_then at l u e = in_range_true 1 1024 l.capacity at (codes "capacity") u e

-- a list that is long enough and not too long, of items that pass
list_then : {A : Type 0} (test : List ℕ → A → Result (Unit {0}) LoadFault) (good : A → Bool) (most : ℕ) (name : List ℕ) (xs : List A) (u : Unit {0})
    → ((at : List ℕ) (x : A) (v : Unit {0}) → test at x ≡ Ok v → good x ≡ true) → list_counts test most name xs ≡ Ok u → (is_from_to 1 most (length xs) ≡ true) × (list_all good xs ≡ true)
unfolding list_counts
list_then test good most name xs u each e =
    let parts = bind_ok (in_range 1 most (length xs) [] name) (λ done. each_item test name 0 xs) u e in
    (in_range_true 1 most (length xs) [] name parts.0 parts.1, each_item_all test good name 0 xs u each parts.2)

-- What is written has its numbers in their ranges.
pub record Fits (b : WrittenBundle) : Type 0 where
  pub hosts : is_from_to 1 32 (length b.hosts) ≡ true
  pub each_host : list_all host_fits b.hosts ≡ true
  pub routers : is_from_to 1 32 (length b.routers) ≡ true
  pub each_router : list_all router_fits b.routers ≡ true
  pub devices : is_from_to 1 32 (length b.devices) ≡ true
  pub pages : nat_le (all_pages b.devices) 4096 ≡ true
  pub each_device : list_all device_fits b.devices ≡ true
  pub links : is_from_to 1 128 (length b.links) ≡ true
  pub each_link : list_all link_fits b.links ≡ true

devices_then : (devices : List WrittenDevice) (u : Unit {0}) → devices_counts devices ≡ Ok u → (is_from_to 1 32 (length devices) ≡ true) × (nat_le (all_pages devices) 4096 ≡ true) × (list_all device_fits devices ≡ true)
unfolding devices_counts
devices_then devices u e =
    let few = bind_ok (in_range 1 32 (length devices) [] (codes "devices")) (λ done. in_range 0 4096 (all_pages devices) [] (codes "devices") >>= (λ done. each_item device_counts (codes "devices") 0 devices)) u e in
    let pages = bind_ok (in_range 0 4096 (all_pages devices) [] (codes "devices")) (λ done. each_item device_counts (codes "devices") 0 devices) u few.2 in
    (in_range_true 1 32 (length devices) [] (codes "devices") few.0 few.1, upper 0 4096 (all_pages devices) [] (codes "devices") pages.0 pages.1, each_item_all device_counts device_fits (codes "devices") 0 devices u device_then pages.2)

pub counts_fit : (b : WrittenBundle) (u : Unit {0}) → bundle_counts b ≡ Ok u → Fits b
counts_fit b u e =
    let links_counts = list_counts link_counts 128 (codes "links") b.links in
    let version = bind_ok (in_range 1 1 b.version [] (codes "version")) (λ done. list_counts host_counts 32 (codes "hosts") b.hosts >>= (λ done. list_counts router_counts 32 (codes "routers") b.routers >>= (λ done. devices_counts b.devices >>= (λ done. links_counts)))) u e in
    let hosts = bind_ok (list_counts host_counts 32 (codes "hosts") b.hosts) (λ done. list_counts router_counts 32 (codes "routers") b.routers >>= (λ done. devices_counts b.devices >>= (λ done. links_counts))) u version.2 in
    let routers = bind_ok (list_counts router_counts 32 (codes "routers") b.routers) (λ done. devices_counts b.devices >>= (λ done. links_counts)) u hosts.2 in
    let devices = bind_ok (devices_counts b.devices) (λ done. links_counts) u routers.2 in
    let host_facts = list_then host_counts host_fits 32 (codes "hosts") b.hosts hosts.0 host_then hosts.1 in
    let router_facts = list_then router_counts router_fits 32 (codes "routers") b.routers routers.0 router_then routers.1 in
    let device_facts = devices_then b.devices devices.0 devices.1 in
    let link_facts = list_then link_counts link_fits 128 (codes "links") b.links u link_then devices.2 in
    record {
      hosts = host_facts.0;
      each_host = host_facts.1;
      routers = router_facts.0;
      each_router = router_facts.1;
      devices = device_facts.0;
      pages = device_facts.1;
      each_device = device_facts.2;
      links = link_facts.0;
      each_link = link_facts.1;
    }
