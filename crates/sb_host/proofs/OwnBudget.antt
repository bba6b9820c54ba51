-- The words of a host are within the budget of its own link's ring of requests.
use Rattle.std.proofs.Common.{◌≡◌, ◌≤◌, ◌<◌, ◌+◌, ◌*◌, ◌^◌, ℕ, zero, suc, arith, refl, sym, ap, subst, ◌∙◌, length, List, [], ◌∷◌, Bool, true, false, cond, Option, Some, None}
use Rattle.std.specs.Prelude.{All, map, filter, flat_map, ◌&&◌, ◌||◌, ◌==◌, is_some, sum_by, if◌then◌else◌}
use Rattle.std.specs.List.{enumerate_from, list_any, range_with_len}
use Rattle.std.specs.Option.{option_map_or}
use Rattle.std.proofs.Math.ListN.{get_or}
use Rattle.std.proofs.lemmas.List.Elements.{All-head, All-tail, All-nil, All-append, filter-append}
use Rattle.std.proofs.lemmas.List.FromFn.{get_or-enumerate_from, get_or-range_with_len, length-enumerate_from, length-range_with_len}
use Rattle.std.proofs.lemmas.List.Sums.{sum_by-append, sum_by-cons}
use Rattle.sb_packet.specs.Accesses.{Access, access_at}
use Rattle.sb_packet.specs.Journals.{device_address, is_at}
use Rattle.sb_packet.specs.Networks.{NetHost, Network, device_at, has_address}
use Rattle.sb_flow.specs.Rings.{counted_accesses, has_link, is_answered, is_upward, link_ways, ring_budget, way_accesses}
use Rattle.sb_packet.specs.Scripts.{IsTransaction, script_accesses, transaction_accesses, transaction_message}
use Rattle.sb_flow.specs.Ways.{NetWay, aims_at, first_link, host_ways, way_links}
use Rattle.sb_packet.specs.declared.transaction.Txn.{Txn}
use Rattle.sb_packet.proofs.Lists.{All-made}
use Rattle.sb_link.proofs.Truths.{same_number}
use Rattle.sb_flow.specs.Accepted.{misplaced_device}
use Rattle.sb_flow.proofs.FlowWords.{request_asks}
use Rattle.sb_host.specs.Asked.{asked_accesses, asked_by}
use Rattle.sb_host.proofs.Offering.{asks_what_is_aimed, within_page}
use Rattle.sb_host.proofs.OwnWays.{any_at, any_kept, begins_with, request_ways}
use Rattle.sb_host.proofs.MadeRings.{Aims, down, place_below, script_aims}
use Rattle.sb_flow.proofs.Maps.{sum_by_agree, sum_by_map}
use Rattle.sb_flow.proofs.Pages.{device_at-page}

-- the sum over what is kept of one piece is at most that over what is kept of all
piece_within : {X Y : Type 0} (f : Y → ℕ) (p : Y → Bool) (g : X → List Y) (xs : List X) (i : ℕ) (d : X) → i < length xs → sum_by f (filter p (g (get_or xs i d))) ≤ sum_by f (filter p (flat_map g xs))
piece_within f p g [] i d below = absurd (omega arith)
piece_within f p g (x ∷ xs) zero d below =
    let joined = ap (sum_by f) (filter-append p (g x) (flat_map g xs)) ∙ sum_by-append f (filter p (g x)) (filter p (flat_map g xs)) in
    omega (arith, joined)
piece_within f p g (x ∷ xs) (suc i) d below =
    let joined = ap (sum_by f) (filter-append p (g x) (flat_map g xs)) ∙ sum_by-append f (filter p (g x)) (filter p (flat_map g xs)) in
    let rest = piece_within f p g xs i d (omega arith) in
    omega (arith, joined, rest)

-- where all are kept
kept_all : {X Y : Type 0} (p : Y → Bool) (g : X → Y) (xs : List X) → ((x : X) → p (g x) ≡ true) → filter p (map g xs) ≡ map g xs
kept_all p g [] all = refl
kept_all p g (x ∷ xs) all = ap (λ (b : Bool). cond b (g x ∷ filter p (map g xs)) (filter p (map g xs))) (all x) ∙ ap (λ ys. g x ∷ ys) (kept_all p g xs all)

-- what passes a weaker test is no less
more_pass : (p q : Access → Bool) (list : List Access) → All (λ a. p a ≡ true → q a ≡ true) list → length (filter p list) ≤ length (filter q list)
more_pass p q [] weaker = omega arith
more_pass p q (a ∷ list) weaker =
    by_test (p a) (q a) (All-head (λ a. p a ≡ true → q a ≡ true) a list weaker) (more_pass p q list (All-tail (λ a. p a ≡ true → q a ≡ true) a list weaker))
  where
    by_test : (b c : Bool) → (b ≡ true → c ≡ true) → length (filter p list) ≤ length (filter q list) → length (cond b (a ∷ filter p list) (filter p list)) ≤ length (cond c (a ∷ filter q list) (filter q list))
    by_test true true w later = omega (arith, later)
    by_test true false w later = absurd (let never : false ≡ true = w refl in cc)
    by_test false true w later = omega (arith, later)
    by_test false false w later = later

-- words that pass one of some tests are counted test by test
module _ (test : ℕ → Access → Bool) where
  abbrev pub passes_some : List ℕ → Access → Bool
  passes_some ks a = list_any (λ d. test d a) ks

  no_less : (ks : List ℕ) (a : Access) (list : List Access) → sum_by (λ d. length (filter (test d) list)) ks ≤ sum_by (λ d. length (filter (test d) (a ∷ list))) ks
  no_less [] a list = omega arith
  no_less (k ∷ ks) a list =
      let here = by_test (test k a) in
      let rest = no_less ks a list in
      omega (arith, here, rest, sum_by-cons (λ (d : ℕ). length (filter (test d) list)) k ks, sum_by-cons (λ (d : ℕ). length (filter (test d) (a ∷ list))) k ks)
    where
      by_test : (b : Bool) → length (filter (test k) list) ≤ length (cond b (a ∷ filter (test k) list) (filter (test k) list))
      by_test true = omega arith
      by_test false = omega arith

  one_more : (ks : List ℕ) (a : Access) (list : List Access) → passes_some ks a ≡ true → sum_by (λ d. length (filter (test d) list)) ks < sum_by (λ d. length (filter (test d) (a ∷ list))) ks
  one_more [] a list e = absurd (let never : false ≡ true = e in cc)
  one_more (k ∷ ks) a list e = by_test (test k a) refl (one_more ks a list) e
    where
      here : (b : Bool) → test k a ≡ b → length (filter (test k) (a ∷ list)) ≡ cond b 1 0 + length (filter (test k) list)
      here true t = rw t (omega arith)
      here false t = rw t (omega arith)

      by_test : (b : Bool) → test k a ≡ b → (passes_some ks a ≡ true → sum_by (λ d. length (filter (test d) list)) ks < sum_by (λ d. length (filter (test d) (a ∷ list))) ks)
          → (b || passes_some ks a) ≡ true → sum_by (λ d. length (filter (test d) list)) (k ∷ ks) < sum_by (λ d. length (filter (test d) (a ∷ list))) (k ∷ ks)
      by_test true t later o =
          let rest = no_less ks a list in let first = here true t in
          omega (arith, first, rest, sum_by-cons (λ (d : ℕ). length (filter (test d) list)) k ks, sum_by-cons (λ (d : ℕ). length (filter (test d) (a ∷ list))) k ks)
      by_test false t later o =
          let rest = later o in let first = here false t in
          omega (arith, first, rest, sum_by-cons (λ (d : ℕ). length (filter (test d) list)) k ks, sum_by-cons (λ (d : ℕ). length (filter (test d) (a ∷ list))) k ks)

  covers : (ks : List ℕ) (list : List Access) → length (filter (passes_some ks) list) ≤ sum_by (λ d. length (filter (test d) list)) ks
  covers ks [] = omega arith
  covers ks (a ∷ list) = by_test (passes_some ks a) refl (covers ks list)
    where
      by_test : (b : Bool) → passes_some ks a ≡ b → length (filter (passes_some ks) list) ≤ sum_by (λ d. length (filter (test d) list)) ks
          → length (cond b (a ∷ filter (passes_some ks) list) (filter (passes_some ks) list)) ≤ sum_by (λ d. length (filter (test d) (a ∷ list))) ks
      by_test true t later = let more = one_more ks a list t in omega (arith, more, later)
      by_test false t later = let same = no_less ks a list in omega (arith, same, later)

module _ (network : Network) (host : NetHost) (placed : misplaced_device network ≡ None) where
  -- a word is of the host's flow to a device
  abbrev pub of_device : ℕ → Access → Bool
  of_device d a = (a.host == host.id) && is_at network d a

  -- the devices that the host aims at
  abbrev pub targets : List ℕ
  targets = filter (aims_at network host) (range_with_len 0 (length network.devices))

  -- a word that a device has is of the host's flow to one of them
  word_is_of_one : (i j : ℕ) (t : Txn) → IsTransaction t → Aims network host t → j < t.count
      → is_some (device_at network (access_at (transaction_message host i t) j).dst) ≡ true → passes_some of_device targets (access_at (transaction_message host i t) j) ≡ true
  word_is_of_one i j t is aims below aimed =
      let a = access_at (transaction_message host i t) j in
      let same : device_at network a.dst ≡ device_at network t.addr = device_at-page network t.addr (j * 2 ^ t.size) placed (within_page t j is below) in
      elim (device_at network t.addr) as (λ o. device_at network t.addr ≡ o → passes_some of_device targets a ≡ true) [
        | None ↦ λ e. absurd (let never : false ≡ true = sym (ap is_some (same ∙ e)) ∙ aimed in cc)
        | Some d ↦ λ e.
            let found = place_below (has_address t.addr) 0 network.devices d e in
            let inside : d < length network.devices = omega (arith, found) in
            let own : (a.host == host.id) ≡ true = same_number host.id in
            let place : device_address a ≡ a.dst = ap (λ (b : Bool). if b then a.dst else a.src) (request_asks t.kind) in
            let there : is_at network d a ≡ true = ap (λ (n : ℕ). option_map_or (λ k. k == d) (device_at network n) false) place ∙ ap (λ (o : Option ℕ). option_map_or (λ k. k == d) o false) (same ∙ e) ∙ same_number d in
            let of : of_device d a ≡ true = rw (own, there) refl in
            any_kept (aims_at network host) (λ e. of_device e a) (range_with_len 0 (length network.devices))
            ∙ any_at (λ e. aims_at network host e && of_device e a) (range_with_len 0 (length network.devices)) d d (omega (arith, inside, length-range_with_len 0 (length network.devices)))
            (let here : get_or (range_with_len 0 (length network.devices)) d d ≡ d = get_or-range_with_len 0 (length network.devices) d d inside ∙ omega arith in
            ap (λ (e : ℕ). aims_at network host e && of_device e a) here ∙ rw (aims d e, of) refl)
      ] refl

  words_are_of_some : (i : ℕ) (script : List Txn) → All IsTransaction script → All (Aims network host) script
      → All (λ a. is_some (device_at network a.dst) ≡ true → passes_some of_device targets a ≡ true) (flat_map (λ p. transaction_accesses host p.0 p.1) (enumerate_from i script))
  words_are_of_some i [] all aims = All-nil (λ a. is_some (device_at network a.dst) ≡ true → passes_some of_device targets a ≡ true)
  words_are_of_some i (t ∷ script) all aims =
      let P : Access → Type 0 = λ a. is_some (device_at network a.dst) ≡ true → passes_some of_device targets a ≡ true in
      All-append P (transaction_accesses host i t) (flat_map (λ p. transaction_accesses host p.0 p.1) (enumerate_from (i + 1) script))
      (All-made P (access_at (transaction_message host i t)) t.count (λ j below. word_is_of_one i j t (All-head IsTransaction t script all) (All-head (Aims network host) t script aims) below))
      (words_are_of_some (i + 1) script (All-tail IsTransaction t script all) (All-tail (Aims network host) t script aims))

  -- the host's words that go to devices are no more than those of its flows together
  words_by_flow : All IsTransaction host.script → length (asked_accesses (asked_by network host)) ≤ sum_by (λ d. length (filter (of_device d) (script_accesses host))) targets
  words_by_flow all =
      let words = ap length (asks_what_is_aimed network host placed all) in
      let more = more_pass (λ a. is_some (device_at network a.dst)) (passes_some of_device targets) (script_accesses host) (words_are_of_some 0 host.script all (script_aims network host)) in
      let counted = covers of_device targets (script_accesses host) in
      omega (arith, words, more, counted)

  -- and so they are within the budget of its own ring
  pub words_within : (h k : ℕ) → h < length network.hosts → get_or network.hosts h host ≡ host → first_link network h ≡ Some k → k < length network.links → All IsTransaction host.script
      → length (asked_accesses (asked_by network host)) ≤ ring_budget network (2 * k)
  words_within h k there at first link all =
      let count : NetWay → ℕ = λ way. length (counted_accesses network (2 * k) way) in
      let way : ℕ → NetWay = λ d. record { host = host; device = d; links = way_links network h d } in
      let pair : ℕ × NetHost = (h, host) in
      let element : get_or (enumerate_from 0 network.hosts) h pair ≡ (h, host) =
      get_or-enumerate_from 0 network.hosts h pair there ∙ ap {B = ℕ × NetHost} (λ (x : NetHost). (0 + h, x)) at ∙ (let none : 0 + h ≡ h = omega arith in ap {B = ℕ × NetHost} (λ (n : ℕ). (n, host)) none) in
      let piece : sum_by count (filter (has_link k) (host_ways network h host)) ≤ sum_by count (link_ways network k) =
      subst (λ (p : ℕ × NetHost). sum_by count (filter (has_link k) (host_ways network p.0 p.1)) ≤ sum_by count (link_ways network k)) element
      (piece_within count (has_link k) (λ p. host_ways network p.0 p.1) (enumerate_from 0 network.hosts) h pair (omega (arith, there, length-enumerate_from 0 network.hosts))) in
      let kept : filter (has_link k) (host_ways network h host) ≡ host_ways network h host = kept_all (has_link k) way targets (λ d. begins_with network h d k first) in
      let even : is_upward (2 * k) ≡ false = down k in
      let each : (d : ℕ) → count (way d) ≡ length (filter (of_device d) (script_accesses host)) = λ d.
      ap (λ (b : Bool). length (if b then filter (λ a. is_answered a.op) (way_accesses network (way d)) else way_accesses network (way d))) even in
      let sums : sum_by count (host_ways network h host) ≡ sum_by (λ d. length (filter (of_device d) (script_accesses host))) targets =
      sum_by_map count way targets ∙ sum_by_agree (λ d. count (way d)) (λ d. length (filter (of_device d) (script_accesses host))) targets each in
      let by_flow = words_by_flow all in
      let whole = ap (sum_by count) kept in
      let ways = ap (sum_by count) (request_ways network k link) in
      omega (arith, by_flow, sums, whole, piece, ways)
