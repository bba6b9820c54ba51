-- What is read in the tables of a network's paths.
use Rattle.std.proofs.Common.{◌≡◌, ◌≤◌, ◌<◌, ℕ, zero, suc, ◌+◌, Bool, true, false, cond, List, [], ◌∷◌, length, refl, ap, sym, ◌∙◌, arith, Option, Some, None}
use Rattle.std.specs.Prelude.{◌==◌, map, option_map, slice_get, slice_index_or}
use Rattle.std.specs.List.{enumerate_from, find, list_any, range_with_len}
use Rattle.std.specs.Option.{option_map_or}
use Rattle.std.proofs.lemmas.Bool.{cases_lt}
use Rattle.std.proofs.lemmas.List.FromFn.{get_or-map-range_with_len}
use mathlib.Core.Logic.{inl, inr}
use Rattle.sb_packet.specs.Networks.{NetHost, Network}
use Rattle.sb_link.specs.RingPlans.{NetFlow}
use Rattle.sb_flow.specs.Ways.{is_some_number, link_down, link_up, router_after, router_before}
use Rattle.sb_flow.specs.Accepted.{repeated_id}
use Rattle.sb_flow.specs.Tables.{FlowTable, HostTable, aimed_links, flow_table_of, host_table_of, leg_of, marks_of, paths_of}
use Rattle.sb_flow.specs.Gathered.{flows_from, is_device_on, legs_at}
use Rattle.sb_flow.specs.declared.leg.Leg.{Leg}
use Rattle.sb_flow.proofs.FlowWays.{aims_nowhere, flow_links-is, found_links}

-- a search in what is mapped
find-map : {A B : Type 0} (p : B → Bool) (f : A → B) (xs : List A) → find p (map f xs) ≡ option_map f (find (λ x. p (f x)) xs)
find-map p f [] = refl
find-map p f (x ∷ xs) = by (p (f x)) (find-map p f xs)
  where
    by : (b : Bool) → find p (map f xs) ≡ option_map f (find (λ x. p (f x)) xs) → cond b (Some (f x)) (find p (map f xs)) ≡ option_map f (cond b (Some x) (find (λ x. p (f x)) xs))
    by true rest = refl
    by false rest = rest

-- an entry of a table, and none behind the last
slice_get-table : {A : Type 0} (f : ℕ → A) (a n k : ℕ) → k < n → slice_get (map f (range_with_len a n)) k ≡ Some (f (a + k))
slice_get-table f a zero k h = absurd (omega arith)
slice_get-table f a (suc n) zero h = let e : a + 0 ≡ a = omega arith in rw e refl
slice_get-table f a (suc n) (suc k) h = let e : a + 1 + k ≡ a + suc k = omega arith in rw (← e) (slice_get-table f (a + 1) n k (omega arith))

slice_get-behind : {A : Type 0} (f : ℕ → A) (a n k : ℕ) → n ≤ k → slice_get (map f (range_with_len a n)) k ≡ None
slice_get-behind f a zero k h = refl
slice_get-behind f a (suc n) zero h = absurd (omega arith)
slice_get-behind f a (suc n) (suc k) h = slice_get-behind f (a + 1) n k (omega arith)

-- the table of the host with an id
flows_from-is : (network : Network) (id : ℕ) → flows_from (paths_of network).hosts id ≡ option_map_or (λ (p : ℕ × NetHost). (host_table_of network p.0 p.1).flows) (find (λ (p : ℕ × NetHost). p.1.id == id) (enumerate_from 0 network.hosts)) []
flows_from-is network id =
    ap (λ (found : Option HostTable). option_map_or (λ (h : HostTable). h.flows) found []) (find-map (λ (h : HostTable). h.id == id) (λ (p : ℕ × NetHost). host_table_of network p.0 p.1) (enumerate_from 0 network.hosts))
    ∙ by (find (λ (p : ℕ × NetHost). p.1.id == id) (enumerate_from 0 network.hosts))
  where
    by : (found : Option (ℕ × NetHost)) → option_map_or (λ (h : HostTable). h.flows) (option_map (λ (p : ℕ × NetHost). host_table_of network p.0 p.1) found) [] ≡ option_map_or (λ (p : ℕ × NetHost). (host_table_of network p.0 p.1).flows) found []
    by None = refl
    by (Some p) = refl

-- The legs that are found for a flow are those of its links.
pub legs_at-is : (network : Network) (f : NetFlow) → legs_at (paths_of network).hosts f.host f.device ≡ map (leg_of network) (found_links network f)
legs_at-is network f = ap (λ (flows : List FlowTable). option_map_or (λ (t : FlowTable). t.legs) (slice_get flows f.device) []) (flows_from-is network f.host) ∙ by (find (λ (p : ℕ × NetHost). p.1.id == f.host) (enumerate_from 0 network.hosts))
  where
    one : (h : ℕ) (host : NetHost) → option_map_or (λ (t : FlowTable). t.legs) (slice_get (map (flow_table_of network h host) (range_with_len 0 (length network.devices))) f.device) [] ≡ map (leg_of network) (aimed_links network h host f.device)
    one h host = elim (cases_lt f.device (length network.devices)) [
      | inl there ↦ let e : 0 + f.device ≡ f.device = omega arith in rw (slice_get-table (flow_table_of network h host) 0 (length network.devices) f.device there, e) refl
      | inr behind ↦ rw (slice_get-behind (flow_table_of network h host) 0 (length network.devices) f.device behind, aims_nowhere network host f.device behind) refl
    ]

    by : (found : Option (ℕ × NetHost)) → option_map_or (λ (t : FlowTable). t.legs) (slice_get (option_map_or (λ (p : ℕ × NetHost). (host_table_of network p.0 p.1).flows) found []) f.device) [] ≡ map (leg_of network) (option_map_or (λ (p : ℕ × NetHost). aimed_links network p.0 p.1 f.device) found [])
    by None = refl
    by (Some p) = one p.0 p.1

-- whether link k is marked for a flow
pub is_device_on-is : (network : Network) (k : ℕ) (f : NetFlow) → k < length network.links → is_device_on k (flows_from (paths_of network).hosts f.host) f.device ≡ list_any (λ j. j == k) (found_links network f)
is_device_on-is network k f h = ap (λ (flows : List FlowTable). is_device_on k flows f.device) (flows_from-is network f.host) ∙ by (find (λ (p : ℕ × NetHost). p.1.id == f.host) (enumerate_from 0 network.hosts))
  where
    marked : (links : List ℕ) → slice_index_or (marks_of network links) k false ≡ list_any (λ j. j == k) links
    marked links = get_or-map-range_with_len (λ k. list_any (λ j. j == k) links) 0 (length network.links) k k false h (omega arith)

    one : (h : ℕ) (host : NetHost) → is_device_on k (map (flow_table_of network h host) (range_with_len 0 (length network.devices))) f.device ≡ list_any (λ j. j == k) (aimed_links network h host f.device)
    one h host = elim (cases_lt f.device (length network.devices)) [
      | inl there ↦ let e : 0 + f.device ≡ f.device = omega arith in rw (slice_get-table (flow_table_of network h host) 0 (length network.devices) f.device there, e) (marked (aimed_links network h host f.device))
      | inr behind ↦ rw (slice_get-behind (flow_table_of network h host) 0 (length network.devices) f.device behind, aims_nowhere network host f.device behind) refl
    ]

    by : (found : Option (ℕ × NetHost)) → is_device_on k (option_map_or (λ (p : ℕ × NetHost). (host_table_of network p.0 p.1).flows) found []) f.device ≡ list_any (λ j. j == k) (option_map_or (λ (p : ℕ × NetHost). aimed_links network p.0 p.1 f.device) found [])
    by None = refl
    by (Some p) = one p.0 p.1

-- a link that is found among legs is the one that is found among links
find-legs : (network : Network) (p : Leg → Bool) (links : List ℕ) → option_map (λ (leg : Leg). leg.link) (find p (map (leg_of network) links)) ≡ find (λ k. p (leg_of network k)) links
find-legs network p [] = refl
find-legs network p (k ∷ links) = by (p (leg_of network k)) (find-legs network p links)
  where
    by : (b : Bool) → option_map (λ (leg : Leg). leg.link) (find p (map (leg_of network) links)) ≡ find (λ k. p (leg_of network k)) links → option_map (λ (leg : Leg). leg.link) (cond b (Some (leg_of network k)) (find p (map (leg_of network) links))) ≡ cond b (Some k) (find (λ k. p (leg_of network k)) links)
    by true rest = refl
    by false rest = rest

-- The link that is found in the tables is the one by which the flow leaves the router, down and up.
pub link_down-is : (network : Network) (r : ℕ) (f : NetFlow) → repeated_id network ≡ None → option_map (λ (leg : Leg). leg.link) (find (λ (leg : Leg). is_some_number r leg.from) (legs_at (paths_of network).hosts f.host f.device)) ≡ link_down network r f
link_down-is network r f ids =
    ap (λ (legs : List Leg). option_map (λ (leg : Leg). leg.link) (find (λ (leg : Leg). is_some_number r leg.from) legs)) (legs_at-is network f)
    ∙ find-legs network (λ (leg : Leg). is_some_number r leg.from) (found_links network f) ∙ ap (find (λ k. is_some_number r (router_before network k))) (sym (flow_links-is network f ids))

pub link_up-is : (network : Network) (r : ℕ) (f : NetFlow) → repeated_id network ≡ None → option_map (λ (leg : Leg). leg.link) (find (λ (leg : Leg). is_some_number r leg.to) (legs_at (paths_of network).hosts f.host f.device)) ≡ link_up network r f
link_up-is network r f ids =
    ap (λ (legs : List Leg). option_map (λ (leg : Leg). leg.link) (find (λ (leg : Leg). is_some_number r leg.to) legs)) (legs_at-is network f)
    ∙ find-legs network (λ (leg : Leg). is_some_number r leg.to) (found_links network f) ∙ ap (find (λ k. is_some_number r (router_after network k))) (sym (flow_links-is network f ids))
