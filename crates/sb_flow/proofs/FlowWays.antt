-- A flow has one way: that of the host with its id, where this aims at its device.
use Rattle.std.proofs.Common.{◌≡◌, ◌≤◌, ◌<◌, ℕ, zero, suc, ◌+◌, Bool, true, false, ◌||◌, cond, List, [], ◌∷◌, ◌++◌, length, get_or, refl, ap, ◌∙◌, arith, Option, Some, None, eq-eqb, ne_eqb, append-nil}
use Rattle.std.specs.Prelude.{◌==◌, filter, flat_map, map, slice_get, if◌then◌else◌}
use Rattle.std.specs.List.{enumerate_from, find, list_any, position_from, range_with_len}
use Rattle.std.specs.Option.{option_map_or}
use Rattle.std.proofs.lemmas.Bool.{cases_eq, cases_lt, eqb-true}
use mathlib.Core.Logic.{inl, inr}
use Rattle.std.proofs.lemmas.List.Elements.{filter-append}
use Rattle.sb_packet.specs.Networks.{NetHost, Network, has_address}
use Rattle.sb_link.specs.RingPlans.{NetFlow}
use Rattle.sb_flow.specs.Ways.{NetWay, aims_at, flow_links, host_ways, is_way_of, network_ways, way_links, is_some_number, is_aimed_at}
use Rattle.sb_flow.specs.Rings.{has_link, link_ways}
use Rattle.sb_packet.specs.declared.transaction.Txn.{Txn}
use Rattle.sb_flow.specs.Accepted.{repeated_id}
use Rattle.sb_flow.specs.Tables.{aimed_links}
use Rattle.sb_flow.proofs.Clashes.{no_clash}

-- the first that passes is the first of those that pass
pub find-filter : {A : Type 0} (p : A → Bool) (xs : List A) → find p xs ≡ slice_get (filter p xs) 0
find-filter p [] = refl
find-filter p (x ∷ xs) = by (p x) (find-filter p xs)
  where
    by : (b : Bool) → find p xs ≡ slice_get (filter p xs) 0 → cond b (Some x) (find p xs) ≡ slice_get (cond b (x ∷ filter p xs) (filter p xs)) 0
    by true rest = refl
    by false rest = rest

-- some of those that pass one test passes another just where that is so the other way round
pub any-filter : {A : Type 0} (p q : A → Bool) (xs : List A) → list_any p (filter q xs) ≡ list_any q (filter p xs)
any-filter p q [] = refl
any-filter p q (x ∷ xs) = by (p x) (q x) refl refl (any-filter p q xs)
  where
    by : (b c : Bool) → p x ≡ b → q x ≡ c → list_any p (filter q xs) ≡ list_any q (filter p xs) → list_any p (cond c (x ∷ filter q xs) (filter q xs)) ≡ list_any q (cond b (x ∷ filter p xs) (filter p xs))
    by true true is also rest = rw (is, also) refl
    by true false is also rest = rw also rest
    by false true is also rest = rw is rest
    by false false is also rest = rest

-- where nothing passes, nothing is left
filter-none : {A B : Type 0} (p : A → Bool) (f : B → A) (xs : List B) → ((x : B) → p (f x) ≡ false) → filter p (map f xs) ≡ []
filter-none p f [] fails = refl
filter-none p f (x ∷ xs) fails = rw (fails x) (filter-none p f xs fails)

-- a device that is looked for before all that are there, or behind them
module _ {A : Type 0} (p : A → Bool) (aims : ℕ → Bool) (way : ℕ → A) (d : ℕ) (is : (k : ℕ) → p (way k) ≡ (k == d)) where
  one_before : (a n : ℕ) → d < a → filter p (map way (filter aims (range_with_len a n))) ≡ []
  one_before a zero h = refl
  one_before a (suc n) h = by (aims a) (one_before (a + 1) n (omega arith))
    where
      by : (b : Bool) → filter p (map way (filter aims (range_with_len (a + 1) n))) ≡ [] → filter p (map way (cond b (a ∷ filter aims (range_with_len (a + 1) n)) (filter aims (range_with_len (a + 1) n)))) ≡ []
      by true rest = let other : p (way a) ≡ false = is a ∙ ne_eqb a d (λ e. omega arith) in rw other rest
      by false rest = rest

  one_behind : (a n : ℕ) → a + n ≤ d → filter p (map way (filter aims (range_with_len a n))) ≡ []
  one_behind a zero h = refl
  one_behind a (suc n) h = by (aims a) (one_behind (a + 1) n (omega arith))
    where
      by : (b : Bool) → filter p (map way (filter aims (range_with_len (a + 1) n))) ≡ [] → filter p (map way (cond b (a ∷ filter aims (range_with_len (a + 1) n)) (filter aims (range_with_len (a + 1) n)))) ≡ []
      by true rest = let other : p (way a) ≡ false = is a ∙ ne_eqb a d (λ e. omega arith) in rw other rest
      by false rest = rest

  -- and one among them, where the host aims at it
  one_among : (a n : ℕ) → a ≤ d → d < a + n → filter p (map way (filter aims (range_with_len a n))) ≡ (if aims d then way d ∷ [] else [])
  one_among a zero low high = absurd (omega arith)
  one_among a (suc n) low high = elim (cases_eq a d) [
    | inl here ↦ rw (← here) (at here (aims a) (one_before (a + 1) n (omega arith)))
    | inr other ↦ later other (aims a) (one_among (a + 1) n (omega arith) (omega arith))
  ]
    where
      at : a ≡ d → (b : Bool) → filter p (map way (filter aims (range_with_len (a + 1) n))) ≡ [] → filter p (map way (cond b (a ∷ filter aims (range_with_len (a + 1) n)) (filter aims (range_with_len (a + 1) n)))) ≡ (if b then way a ∷ [] else [])
      at here true rest = let same : p (way a) ≡ true = is a ∙ eq-eqb a d here in rw (same, rest) refl
      at here false rest = rest

      later : (a ≡ d → ⊥) → (b : Bool) → filter p (map way (filter aims (range_with_len (a + 1) n))) ≡ (if aims d then way d ∷ [] else []) → filter p (map way (cond b (a ∷ filter aims (range_with_len (a + 1) n)) (filter aims (range_with_len (a + 1) n)))) ≡ (if aims d then way d ∷ [] else [])
      later ne true rest = let other : p (way a) ≡ false = is a ∙ ne_eqb a d ne in rw other rest
      later ne false rest = rest

-- the way from host h, or none where it doesn't aim at device d
abbrev host_way : Network → ℕ → NetHost → ℕ → List NetWay
host_way network h host d = if aims_at network host d then record { host = host; device = d; links = way_links network h d } ∷ [] else []

-- the way of a flow: that of the host that is found by its id
abbrev pub found_way : Network → ℕ → List NetHost → NetFlow → List NetWay
found_way network s hosts f = option_map_or (λ p. host_way network p.0 p.1 f.device) (find (λ p. p.1.id == f.host) (enumerate_from s hosts)) []

-- a place that is found is among those that are looked at
found_below : {A : Type 0} (p : A → Bool) (s k : ℕ) (xs : List A) → s + length xs ≤ k → is_some_number k (position_from p s xs) ≡ false
found_below p s k [] h = refl
found_below p s k (x ∷ xs) h = by (p x) (position_from p (s + 1) xs) (found_below p (s + 1) k xs (omega arith))
  where
    by : (b : Bool) (rest : Option ℕ) → is_some_number k rest ≡ false → is_some_number k (cond b (Some s) rest) ≡ false
    by true rest other = ne_eqb s k (λ e. omega arith)
    by false rest other = other

-- no host aims at a device that isn't there
pub aims_nowhere : (network : Network) (host : NetHost) (d : ℕ) → length network.devices ≤ d → aims_at network host d ≡ false
aims_nowhere network host d h = by host.script
  where
    by : (script : List Txn) → list_any (is_aimed_at network d) script ≡ false
    by [] = refl
    by (t ∷ script) = rw (found_below (has_address t.addr) 0 d network.devices (omega arith), by script) refl

-- one host's ways of a flow, by the host's id
host_ways_of : (network : Network) (h : ℕ) (host : NetHost) (f : NetFlow) → filter (is_way_of f) (host_ways network h host) ≡ (if host.id == f.host then host_way network h host f.device else [])
host_ways_of network h host f = by (host.id == f.host) refl
  where
    way : ℕ → NetWay
    way d = record { host = host; device = d; links = way_links network h d }

    by : (b : Bool) → (host.id == f.host) ≡ b → filter (is_way_of f) (host_ways network h host) ≡ (if b then host_way network h host f.device else [])
    by false other = filter-none (is_way_of f) way (filter (aims_at network host) (range_with_len 0 (length network.devices))) (λ d. rw other refl)
    by true same = elim (cases_lt f.device (length network.devices)) [
      | inl there ↦ one_among (is_way_of f) (aims_at network host) way f.device (λ d. rw same refl) 0 (length network.devices) (omega arith) (omega arith)
      | inr behind ↦ one_behind (is_way_of f) (aims_at network host) way f.device (λ d. rw same refl) 0 (length network.devices) (omega arith) ∙ (rw (aims_nowhere network host f.device behind) refl)
    ]

-- where no host has the id, no way is the flow's
no_ways_of : (network : Network) (s : ℕ) (hosts : List NetHost) (f : NetFlow) → ((k : ℕ) (d : NetHost) → k < length hosts → ((get_or hosts k d).id == f.host) ≡ false) → filter (is_way_of f) (flat_map (λ p. host_ways network p.0 p.1) (enumerate_from s hosts)) ≡ []
no_ways_of network s [] f others = refl
no_ways_of network s (host ∷ hosts) f others =
    filter-append (is_way_of f) (host_ways network s host) (flat_map (λ p. host_ways network p.0 p.1) (enumerate_from (s + 1) hosts))
    ∙ rw (host_ways_of network s host f, others 0 host (omega arith)) (no_ways_of network (s + 1) hosts f (λ k d h. others (suc k) d (omega arith)))

-- where ids differ, the ways of a flow are the one that is found
ways_found : (network : Network) (s : ℕ) (hosts : List NetHost) (f : NetFlow) → ((i j : ℕ) (d : NetHost) → i < j → j < length hosts → ((get_or hosts j d).id == (get_or hosts i d).id) ≡ false) → filter (is_way_of f) (flat_map (λ p. host_ways network p.0 p.1) (enumerate_from s hosts)) ≡ found_way network s hosts f
ways_found network s [] f differ = refl
ways_found network s (host ∷ hosts) f differ =
    filter-append (is_way_of f) (host_ways network s host) (flat_map (λ p. host_ways network p.0 p.1) (enumerate_from (s + 1) hosts))
    ∙ rw (host_ways_of network s host f) (by (host.id == f.host) refl (ways_found network (s + 1) hosts f (λ i j d below h. differ (suc i) (suc j) d (omega arith) (omega arith))))
  where
    by : (b : Bool) → (host.id == f.host) ≡ b → filter (is_way_of f) (flat_map (λ p. host_ways network p.0 p.1) (enumerate_from (s + 1) hosts)) ≡ found_way network (s + 1) hosts f
        → (if b then host_way network s host f.device else []) ++ filter (is_way_of f) (flat_map (λ p. host_ways network p.0 p.1) (enumerate_from (s + 1) hosts))
        ≡ option_map_or (λ p. host_way network p.0 p.1 f.device) (cond b (Some (s, host)) (find (λ p. p.1.id == f.host) (enumerate_from (s + 1) hosts))) []
    by true same rest =
        let id : host.id ≡ f.host = eqb-true host.id f.host same in
        rw (no_ways_of network (s + 1) hosts f (λ k d h. rw (← id) (differ 0 (suc k) d (omega arith) (omega arith)))) (append-nil (host_way network s host f.device))
    by false other rest = rest

-- The ways of a flow among all of a network: one at most, that of the host with the flow's id.
pub one_way : (network : Network) (f : NetFlow) → repeated_id network ≡ None → filter (is_way_of f) (network_ways network) ≡ found_way network 0 network.hosts f
one_way network f ids = ways_found network 0 network.hosts f (λ i j d below h. no_clash (λ x y. x.id == y.id) network.hosts i j d ids below h)

-- the links of that way
abbrev pub found_links : Network → NetFlow → List ℕ
found_links network f = option_map_or (λ p. aimed_links network p.0 p.1 f.device) (find (λ p. p.1.id == f.host) (enumerate_from 0 network.hosts)) []

-- The links of a flow are those of the host that is found by its id.
pub flow_links-is : (network : Network) (f : NetFlow) → repeated_id network ≡ None → flow_links network f ≡ found_links network f
flow_links-is network f ids =
    ap (λ (way : Option NetWay). option_map_or (λ (w : NetWay). w.links) way []) (find-filter (is_way_of f) (network_ways network) ∙ ap (λ (ways : List NetWay). slice_get ways 0) (one_way network f ids))
    ∙ by (find (λ (p : ℕ × NetHost). p.1.id == f.host) (enumerate_from 0 network.hosts))
  where
    one : (b : Bool) (host : NetHost) (links : List ℕ) → option_map_or (λ (w : NetWay). w.links) (slice_get (if b then record { host = host; device = f.device; links = links } ∷ [] else []) 0) [] ≡ (if b then links else [])
    one true host links = refl
    one false host links = refl

    by : (found : Option (ℕ × NetHost)) → option_map_or (λ (w : NetWay). w.links) (slice_get (option_map_or (λ (p : ℕ × NetHost). host_way network p.0 p.1 f.device) found []) 0) [] ≡ option_map_or (λ (p : ℕ × NetHost). aimed_links network p.0 p.1 f.device) found []
    by None = refl
    by (Some p) = one (aims_at network p.1 f.device) p.1 (way_links network p.0 f.device)

-- A flow is among the ways over a link just where the link is among the flow's.
pub flow_on_link : (network : Network) (k : ℕ) (f : NetFlow) → repeated_id network ≡ None → list_any (is_way_of f) (link_ways network k) ≡ list_any (λ j. j == k) (found_links network f)
flow_on_link network k f ids =
    any-filter (is_way_of f) (has_link k) (network_ways network) ∙ ap (list_any (has_link k)) (one_way network f ids)
    ∙ by (find (λ (p : ℕ × NetHost). p.1.id == f.host) (enumerate_from 0 network.hosts))
  where
    or-false : (b : Bool) → (b || false) ≡ b
    or-false true = refl
    or-false false = refl

    one : (b : Bool) (host : NetHost) (links : List ℕ) → list_any (has_link k) (if b then record { host = host; device = f.device; links = links } ∷ [] else []) ≡ list_any (λ j. j == k) (if b then links else [])
    one true host links = or-false (list_any (λ j. j == k) links)
    one false host links = refl

    by : (found : Option (ℕ × NetHost)) → list_any (has_link k) (option_map_or (λ (p : ℕ × NetHost). host_way network p.0 p.1 f.device) found []) ≡ list_any (λ j. j == k) (option_map_or (λ (p : ℕ × NetHost). aimed_links network p.0 p.1 f.device) found [])
    by None = refl
    by (Some p) = one (aims_at network p.1 f.device) p.1 (way_links network p.0 f.device)
