-- The words of all scripts, counted by the ways of a network and by the devices at which they are.
use Rattle.std.proofs.Common.{◌≡◌, ◌≤◌, ◌<◌, ℕ, zero, suc, ◌+◌, ◌*◌, ◌/◌, Bool, true, false, cond, List, [], ◌∷◌, length, refl, sym, ap, ◌∙◌, arith}
use Rattle.std.specs.Prelude.{◌&&◌, ◌==◌, nat_lt, All, Option, None, Some, filter, flat_map, get_or, sum_by, if◌then◌else◌}
use Rattle.std.specs.List.{enumerate_from, range_with_len}
use Rattle.std.specs.Option.{option_map_or}
use Rattle.std.proofs.lemmas.Bool.Decides.{nat_tests}
use Rattle.std.proofs.lemmas.List.Concat.{length-flat_map}
use Rattle.std.proofs.lemmas.List.FromFn.{length-map-range_with_len}
use Rattle.std.proofs.lemmas.List.Sums.{sum_by-append, sum_by-cons}
use Rattle.std.proofs.lemmas.List.Elements.{All-head, All-tail}
use Rattle.sb_packet.specs.Accesses.{Access, access_at}
use Rattle.sb_packet.specs.Journals.{device_address, is_at}
use Rattle.sb_packet.specs.Networks.{NetHost, Network, device_at}
use Rattle.sb_flow.specs.Rings.{counted_accesses, has_link, is_answered, is_upward, link_ways, ring_budget, ring_link, ring_ways, way_accesses}
use Rattle.sb_packet.specs.Scripts.{script_accesses, transaction_accesses, transaction_message}
use Rattle.sb_flow.specs.Ways.{NetWay, aims_at, host_ways, network_ways, way_links}
use Rattle.sb_packet.specs.declared.transaction.Txn.{Txn}
use Rattle.sb_flow.specs.Accepted.{word_count}
use Rattle.sb_flow.proofs.Maps.{sum_by_map}
use Rattle.sb_flow.proofs.WordBounds.{sum_by-zeros}
use Rattle.sb_laws.specs.NetworkLayouts.{HasWays, IsWayTo, link_into, request_ring}
use Rattle.std.proofs.lemmas.Bool.{and_parts}
use Rattle.sb_laws.proofs.LinksOfWays.{only_to_device}
use Rattle.sb_laws.proofs.LinksToDevices.{link_into_leads}
use Rattle.sb_laws.proofs.Sums.{sum_by_le, sum_by_plus, sum_by_same, sum_by_swap}
use Rattle.sb_net.proofs.GrownSums.{range_grows}

-- a number where a test passes
abbrev where_true : Bool → ℕ → ℕ
where_true b n = cond b n 0

-- a sum over what passes a test
filtered_sum : {A : Type 0} (f : A → ℕ) (p : A → Bool) (xs : List A) → sum_by f (filter p xs) ≡ sum_by (λ x. where_true (p x) (f x)) xs
filtered_sum f p [] = refl
filtered_sum {A} f p (x ∷ xs) = by_test (p x) refl (filtered_sum f p xs)
  where
    by_test : (b : Bool) → p x ≡ b → sum_by f (filter p xs) ≡ sum_by (λ x. where_true (p x) (f x)) xs → sum_by f (cond b (x ∷ filter p xs) (filter p xs)) ≡ sum_by (λ x. where_true (p x) (f x)) (x ∷ xs)
    by_test true e rest = let here : where_true (p x) (f x) ≡ f x = ap (λ b. where_true b (f x)) e in omega (arith, here, rest, sum_by-cons f x (filter p xs), sum_by-cons (λ (y : A). where_true (p y) (f y)) x xs)
    by_test false e rest = let here : where_true (p x) (f x) ≡ 0 = ap (λ b. where_true b (f x)) e in omega (arith, here, rest, sum_by-cons (λ (y : A). where_true (p y) (f y)) x xs)

pub filter_shorter : {A : Type 0} (p : A → Bool) (xs : List A) → length (filter p xs) ≤ length xs
filter_shorter p [] = omega arith
filter_shorter p (x ∷ xs) = by_test (p x) (filter_shorter p xs)
  where
    by_test : (b : Bool) → length (filter p xs) ≤ length xs → length (cond b (x ∷ filter p xs) (filter p xs)) ≤ length (x ∷ xs)
    by_test true rest = omega (arith, rest)
    by_test false rest = omega (arith, rest)

filter_sum_le : {A : Type 0} (f : A → ℕ) (p : A → Bool) (xs : List A) → sum_by f (filter p xs) ≤ sum_by f xs
filter_sum_le f p [] = omega arith
filter_sum_le f p (x ∷ xs) = by_test (p x) (filter_sum_le f p xs)
  where
    by_test : (b : Bool) → sum_by f (filter p xs) ≤ sum_by f xs → sum_by f (cond b (x ∷ filter p xs) (filter p xs)) ≤ sum_by f (x ∷ xs)
    by_test true rest = omega (arith, rest, sum_by-cons f x (filter p xs), sum_by-cons f x xs)
    by_test false rest = omega (arith, rest, sum_by-cons f x xs)

flat_sum : {A B : Type 0} (f : B → ℕ) (g : A → List B) (xs : List A) → sum_by f (flat_map g xs) ≡ sum_by (λ x. sum_by f (g x)) xs
flat_sum f g [] = refl
flat_sum {A} f g (x ∷ xs) = sum_by-append f (g x) (flat_map g xs) ∙ ap (λ (n : ℕ). sum_by f (g x) + n) (flat_sum f g xs) ∙ sym (sum_by-cons (λ (y : A). sum_by f (g y)) x xs)

-- at most one of some numbers in a row passes a test
module _ (top : ℕ) (p : ℕ → Bool) (n : ℕ) (once : (d e : ℕ) → d < top → e < top → p d ≡ true → p e ≡ true → d ≡ e) where
  none_behind : (a b m : ℕ) → p a ≡ true → a < b → b + m ≤ top → sum_by (λ d. where_true (p d) n) (range_with_len b m) ≡ 0
  none_behind a b zero is below inside = refl
  none_behind a b (suc m) is below inside = by_test (p b) refl (none_behind a (b + 1) m is (omega (arith, below)) (omega (arith, inside)))
    where
      by_test : (c : Bool) → p b ≡ c → sum_by (λ d. where_true (p d) n) (range_with_len (b + 1) m) ≡ 0 → sum_by (λ d. where_true (p d) n) (b ∷ range_with_len (b + 1) m) ≡ 0
      by_test true e rest = absurd (let same = once a b (omega (arith, below, inside)) (omega (arith, inside)) is e in omega (arith, same, below))
      by_test false e rest = let here : where_true (p b) n ≡ 0 = ap (λ c. where_true c n) e in omega (arith, here, rest, sum_by-cons (λ (d : ℕ). where_true (p d) n) b (range_with_len (b + 1) m))

  taken_once : (a m : ℕ) → a + m ≤ top → sum_by (λ d. where_true (p d) n) (range_with_len a m) ≤ n
  taken_once a zero inside = omega arith
  taken_once a (suc m) inside = by_test (p a) refl (taken_once (a + 1) m (omega (arith, inside)))
    where
      by_test : (c : Bool) → p a ≡ c → sum_by (λ d. where_true (p d) n) (range_with_len (a + 1) m) ≤ n → sum_by (λ d. where_true (p d) n) (a ∷ range_with_len (a + 1) m) ≤ n
      by_test true e rest =
          let here : where_true (p a) n ≡ n = ap (λ c. where_true c n) e in
          let none = none_behind a (a + 1) m e (omega arith) (omega (arith, inside)) in
          omega (arith, here, none, sum_by-cons (λ (d : ℕ). where_true (p d) n) a (range_with_len (a + 1) m))
      by_test false e rest = let here : where_true (p a) n ≡ 0 = ap (λ c. where_true c n) e in omega (arith, here, rest, sum_by-cons (λ (d : ℕ). where_true (p d) n) a (range_with_len (a + 1) m))

-- lists of what passes one of some tests in a row, where nothing passes two of them
module _ {A : Type 0} (top : ℕ) (test : ℕ → A → Bool) (once : (x : A) (d e : ℕ) → test d x ≡ true → test e x ≡ true → d ≡ e) where
  one_longer : (x : A) (xs : List A) (d : ℕ) → length (filter (test d) (x ∷ xs)) ≡ where_true (test d x) 1 + length (filter (test d) xs)
  one_longer x xs d = by_test (test d x)
    where
      by_test : (b : Bool) → length (cond b (x ∷ filter (test d) xs) (filter (test d) xs)) ≡ where_true b 1 + length (filter (test d) xs)
      by_test true = omega arith
      by_test false = omega arith

  pub shared_out : (xs : List A) → sum_by (λ d. length (filter (test d) xs)) (range_with_len 0 top) ≤ length xs
  shared_out [] = let none : sum_by (λ (d : ℕ). 0) (range_with_len 0 top) ≡ 0 = sum_by-zeros (range_with_len 0 top) in omega (arith, none)
  shared_out (x ∷ xs) =
      let rest = shared_out xs in
      let one = taken_once top (λ d. test d x) 1 (λ d e first second. once x d e) 0 top (omega arith) in
      let ds = range_with_len 0 top in
      let each = sum_by_same (λ d. length (filter (test d) (x ∷ xs))) (λ d. where_true (test d x) 1 + length (filter (test d) xs)) ds (λ k d below. one_longer x xs (get_or (range_with_len 0 top) k d)) in
      let split = sum_by_plus (λ d. where_true (test d x) 1) (λ d. length (filter (test d) xs)) ds in
      omega (arith, rest, one, each, split)

-- the words of a script
transaction_words : (host : NetHost) (i : ℕ) (t : Txn) → length (transaction_accesses host i t) ≡ t.count
transaction_words host i t = length-map-range_with_len (access_at (transaction_message host i t)) 0 t.count

script_words_from : (host : NetHost) (n : ℕ) (ts : List Txn) → length (flat_map (λ p. transaction_accesses host p.0 p.1) (enumerate_from n ts)) ≡ sum_by (λ t. t.count) ts
script_words_from host n ts = length-flat_map (λ (p : ℕ × Txn). transaction_accesses host p.0 p.1) (enumerate_from n ts) ∙ counts n ts
  where
    counts : (n : ℕ) (ts : List Txn) → sum_by (λ (p : ℕ × Txn). length (transaction_accesses host p.0 p.1)) (enumerate_from n ts) ≡ sum_by (λ t. t.count) ts
    counts n [] = refl
    counts n (t ∷ ts) =
        let rest = counts (n + 1) ts in
        omega (arith, rest, transaction_words host n t, sum_by-cons (λ (p : ℕ × Txn). length (transaction_accesses host p.0 p.1)) (n, t) (enumerate_from (n + 1) ts), sum_by-cons (λ (t : Txn). t.count) t ts)

module _ (network : Network) where
  abbrev way_words : NetWay → ℕ
  way_words way = length (way_accesses network way)

  -- a word is at one device at most
  one_place : (host : NetHost) (a : Access) (d e : ℕ) → ((a.host == host.id) && is_at network d a) ≡ true → ((a.host == host.id) && is_at network e a) ≡ true → d ≡ e
  one_place host a d e p q = by_place (device_at network (device_address a)) (and_parts (a.host == host.id) (is_at network d a) p).1 (and_parts (a.host == host.id) (is_at network e a) q).1
    where
      by_place : (o : Option ℕ) → option_map_or (λ k. k == d) o false ≡ true → option_map_or (λ k. k == e) o false ≡ true → d ≡ e
      by_place None p q = absurd (let never : false ≡ true = p in cc)
      by_place (Some k) p q = grind (arith, nat_tests)

  -- the words of a host's ways are words of its script
  host_words_le : (h : ℕ) (host : NetHost) → sum_by way_words (host_ways network h host) ≤ sum_by (λ t. t.count) host.script
  host_words_le h host =
      let all = range_with_len 0 (length network.devices) in
      let way : ℕ → NetWay = λ d. record { host = host; device = d; links = way_links network h d } in
      let made = sum_by_map way_words way (filter (aims_at network host) all) in
      let fewer = filter_sum_le (λ d. way_words (way d)) (aims_at network host) all in
      let shared = shared_out (length network.devices) (λ d (a : Access). (a.host == host.id) && is_at network d a) (one_place host) (script_accesses host) in
      let words = script_words_from host 0 host.script in
      omega (arith, made, fewer, shared, words)

  ways_from : (n : ℕ) (hosts : List NetHost) → sum_by way_words (flat_map (λ p. host_ways network p.0 p.1) (enumerate_from n hosts)) ≤ sum_by (λ h. sum_by (λ t. t.count) h.script) hosts
  ways_from n [] = omega arith
  ways_from n (host ∷ hosts) =
      let rest = ways_from (n + 1) hosts in
      let here = host_words_le n host in
      omega (
        arith,
        rest,
        here,
        sum_by-append way_words (host_ways network n host) (flat_map (λ (p : ℕ × NetHost). host_ways network p.0 p.1) (enumerate_from (n + 1) hosts)),
        sum_by-cons (λ (h : NetHost). sum_by (λ t. t.count) h.script) host hosts,
      )

  -- the words of all ways are words of the scripts
  pub ways_le : sum_by way_words (network_ways network) ≤ word_count network
  ways_le = ways_from 0 network.hosts

  counted_le : (ring : ℕ) (way : NetWay) → length (counted_accesses network ring way) ≤ way_words way
  counted_le ring way = by_test (is_upward ring)
    where
      by_test : (b : Bool) → length (if b then filter (λ a. is_answered a.op) (way_accesses network way) else way_accesses network way) ≤ way_words way
      by_test true = filter_shorter (λ (a : Access). is_answered a.op) (way_accesses network way)
      by_test false = omega arith

  -- a ring's budget is within the words of its ways
  budget_le : (ring : ℕ) → ring_budget network ring ≤ sum_by way_words (ring_ways network ring)
  budget_le ring = sum_by_le (λ way. length (counted_accesses network ring way)) way_words (ring_ways network ring) (λ k d below. counted_le ring (get_or (ring_ways network ring) k d))

  -- so each is within the words of the scripts
  pub ring_budget_le : (ring : ℕ) → ring_budget network ring ≤ word_count network
  ring_budget_le ring = let first = budget_le ring in let second = by_link (ring_link network ring) in let third = ways_le in omega (arith, first, second, third)
    where
      by_link : (o : Option ℕ) → sum_by way_words (option_map_or (link_ways network) o []) ≤ sum_by way_words (network_ways network)
      by_link None = omega arith
      by_link (Some k) = filter_sum_le way_words (has_link k) (network_ways network)

  module _ (ways : HasWays network) where
    -- the budget of the ring into a device is within the words of the ways that have its link
    into_device_le : (d : ℕ) → d < length network.devices → ring_budget network (request_ring (link_into network d)) ≤ sum_by (λ way. where_true (has_link (link_into network d) way) (way_words way)) (network_ways network)
    into_device_le d inside =
        let k = link_into network d in
        let there : k < length network.links = (link_into_leads network ways d inside).there in
        let half : 2 * k / 2 ≡ k = omega arith in
        let passes : nat_lt k (length network.links) ≡ true = grind (arith, nat_tests) in
        let link : ring_link network (request_ring k) ≡ Some k =
        ap (λ (i : ℕ). if nat_lt i (length network.links) then Some i else (if i == length network.links then network.wire else None)) half
        ∙ ap (λ b. if b then Some k else (if k == length network.links then network.wire else None)) passes in
        let these : ring_ways network (request_ring k) ≡ link_ways network k = ap (λ (o : Option ℕ). option_map_or (link_ways network) o []) link in
        let budget = budget_le (request_ring k) in
        let words : sum_by way_words (ring_ways network (request_ring k)) ≡ sum_by way_words (link_ways network k) = ap (sum_by way_words) these in
        omega (arith, budget, words, filtered_sum way_words (has_link k) (network_ways network))

    -- a way has the link into one device at most
    one_device : (way : NetWay) → IsWayTo network way.device way.links → (d e : ℕ) → d < length network.devices → e < length network.devices
        → has_link (link_into network d) way ≡ true → has_link (link_into network e) way ≡ true → d ≡ e
    one_device way leads d e first second p q =
        sym (only_to_device network way.device d (link_into network d) way.links leads p (link_into_leads network ways d first).leads)
        ∙ only_to_device network way.device e (link_into network e) way.links leads q (link_into_leads network ways e second).leads

    way_once : (ws : List NetWay) → All (λ way. IsWayTo network way.device way.links) ws
        → sum_by (λ way. sum_by (λ d. where_true (has_link (link_into network d) way) (way_words way)) (range_with_len 0 (length network.devices))) ws ≤ sum_by way_words ws
    way_once [] all = omega arith
    way_once (way ∷ ws) all =
        let rest = way_once ws (All-tail (λ way. IsWayTo network way.device way.links) way ws all) in
        let here = taken_once (length network.devices) (λ d. has_link (link_into network d) way) (way_words way)
        (one_device way (All-head (λ way. IsWayTo network way.device way.links) way ws all)) 0 (length network.devices) (omega arith) in
        omega (
          arith,
          rest,
          here,
          sum_by-cons way_words way ws,
          sum_by-cons (λ (way : NetWay). sum_by (λ d. where_true (has_link (link_into network d) way) (way_words way)) (range_with_len 0 (length network.devices))) way ws,
        )

    -- the budgets of all rings into devices together are within the words of the scripts
    pub into_devices_le : sum_by (λ d. ring_budget network (request_ring (link_into network d))) (range_with_len 0 (length network.devices)) ≤ word_count network
    into_devices_le =
        let ds = range_with_len 0 (length network.devices) in
        let each = range_grows (λ d. ring_budget network (request_ring (link_into network d))) (λ d. sum_by (λ way. where_true (has_link (link_into network d) way) (way_words way)) (network_ways network))
        0 (length network.devices) (λ d below. into_device_le d (omega (arith, below))) in
        let swapped = sum_by_swap (λ d way. where_true (has_link (link_into network d) way) (way_words way)) ds (network_ways network) in
        let once = way_once (network_ways network) ways.ways in
        let all = ways_le in
        omega (arith, each, swapped, once, all)
