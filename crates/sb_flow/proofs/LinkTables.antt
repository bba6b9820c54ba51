-- What is gathered from a network's ways is what goes over each link.
use Rattle.std.proofs.Common.{◌≡◌, ◌<◌, ℕ, zero, suc, ◌+◌, Bool, true, false, ◌&&◌, cond, List, [], ◌∷◌, length, refl, ap, sym, ◌∙◌, arith, None}
use Rattle.std.specs.Prelude.{◌==◌, filter, flat_map, map, slice_index_or, sum_by, if◌then◌else◌}
use Rattle.std.specs.List.{enumerate_from, list_any, range_with_len}
use Rattle.std.proofs.lemmas.List.Elements.{filter-append}
use Rattle.std.proofs.lemmas.List.FromFn.{get_or-map-range_with_len}
use Rattle.std.proofs.lemmas.List.Sums.{sum_by-append, sum_by-cons}
use Rattle.sb_packet.specs.Networks.{NetHost, Network}
use Rattle.sb_flow.specs.Ways.{NetWay, aims_at, host_ways, way_links}
use Rattle.sb_flow.specs.Rings.{flow_table, has_link, is_answered, link_ways, way_accesses}
use Rattle.sb_flow.specs.Accepted.{repeated_id}
use Rattle.sb_flow.specs.Tables.{HostTable, flow_table_of, host_table_of, link_table_of, marks_of, paths_of}
use Rattle.sb_flow.specs.Gathered.{all_words_on, devices_on, flows_from, gathered, host_words_on, is_device_on, words_on}
use Rattle.sb_flow.proofs.LinkMarks.{map_range_agree}
use Rattle.sb_flow.proofs.FlowWays.{flow_on_link}
use Rattle.sb_flow.proofs.TableReads.{is_device_on-is}

-- the words of a way that count where requests go, and where answers go
abbrev pub counted_of : Network → Bool → NetWay → ℕ
counted_of network up way = if up then length (filter (λ a. is_answered a.op) (way_accesses network way)) else length (way_accesses network way)

-- what is marked for a table of links
marked : (network : Network) (links : List ℕ) (k : ℕ) → k < length network.links → slice_index_or (marks_of network links) k false ≡ list_any (λ j. j == k) links
marked network links k h = get_or-map-range_with_len (λ k. list_any (λ j. j == k) links) 0 (length network.links) k k false h (omega arith)

-- the words of one host's ways with link k are those that its tables have on the link
host_words-is : (network : Network) (k : ℕ) (up : Bool) (h : ℕ) (host : NetHost) (a n : ℕ) → k < length network.links → sum_by (words_on k up) (map (flow_table_of network h host) (range_with_len a n)) ≡ sum_by (counted_of network up) (filter (has_link k) (map (λ d. record { host = host; device = d; links = way_links network h d }) (filter (aims_at network host) (range_with_len a n))))
host_words-is network k up h host a zero there = refl
host_words-is network k up h host a (suc n) there =
    sum_by-cons (words_on k up) (flow_table_of network h host a) (map (flow_table_of network h host) (range_with_len (a + 1) n))
    ∙ by (aims_at network host a) (host_words-is network k up h host (a + 1) n there)
  where
    way : ℕ → NetWay
    way d = record { host = host; device = d; links = way_links network h d }

    rest : List ℕ
    rest = filter (aims_at network host) (range_with_len (a + 1) n)

    one : (c : Bool) → (if c then counted_of network up (way a) else 0) + sum_by (counted_of network up) (filter (has_link k) (map way rest)) ≡ sum_by (counted_of network up) (cond c (way a ∷ filter (has_link k) (map way rest)) (filter (has_link k) (map way rest)))
    one true = sym (sum_by-cons (counted_of network up) (way a) (filter (has_link k) (map way rest)))
    one false = omega arith

    by : (b : Bool) → sum_by (words_on k up) (map (flow_table_of network h host) (range_with_len (a + 1) n)) ≡ sum_by (counted_of network up) (filter (has_link k) (map way rest))
        → (if slice_index_or (marks_of network (if b then way_links network h a else [])) k false then counted_of network up (way a) else 0) + sum_by (words_on k up) (map (flow_table_of network h host) (range_with_len (a + 1) n)) ≡ sum_by (counted_of network up) (filter (has_link k) (map way (cond b (a ∷ rest) rest)))
    by true same = rw (marked network (way_links network h a) k there, same) (one (list_any (λ j. j == k) (way_links network h a)))
    by false same = rw (marked network [] k there, same) (one false)

-- so are those of all hosts
all_words-is : (network : Network) (k : ℕ) (up : Bool) (s : ℕ) (hosts : List NetHost) → k < length network.links → all_words_on k up (map (λ p. host_table_of network p.0 p.1) (enumerate_from s hosts)) ≡ sum_by (counted_of network up) (filter (has_link k) (flat_map (λ p. host_ways network p.0 p.1) (enumerate_from s hosts)))
all_words-is network k up s [] there = refl
all_words-is network k up s (host ∷ hosts) there =
    sum_by-cons (λ (t : HostTable). host_words_on k up t.flows) (host_table_of network s host) (map (λ p. host_table_of network p.0 p.1) (enumerate_from (s + 1) hosts))
    ∙ rw (host_words-is network k up s host 0 (length network.devices) there, all_words-is network k up (s + 1) hosts there)
    (sym (ap (sum_by (counted_of network up)) (filter-append (has_link k) (host_ways network s host) (flat_map (λ p. host_ways network p.0 p.1) (enumerate_from (s + 1) hosts)))
    ∙ sum_by-append (counted_of network up) (filter (has_link k) (host_ways network s host)) (filter (has_link k) (flat_map (λ p. host_ways network p.0 p.1) (enumerate_from (s + 1) hosts)))))

-- The table of a link.
pub gathered-is : (network : Network) (k : ℕ) → repeated_id network ≡ None → k < length network.links → gathered k (paths_of network).hosts ≡ link_table_of network k
gathered-is network k ids there =
    ap (λ (words : ℕ). record { requests = words; answers = all_words_on k true (paths_of network).hosts; through = map (λ id. devices_on k (flows_from (paths_of network).hosts id)) (range_with_len 0 32) }) (all_words-is network k false 0 network.hosts there)
    ∙ ap (λ (words : ℕ). record { requests = sum_by (λ way. length (way_accesses network way)) (link_ways network k); answers = words; through = map (λ id. devices_on k (flows_from (paths_of network).hosts id)) (range_with_len 0 32) }) (all_words-is network k true 0 network.hosts there)
    ∙ ap (λ (table : List (List Bool)). record { requests = sum_by (λ way. length (way_accesses network way)) (link_ways network k); answers = sum_by (λ way. length (filter (λ a. is_answered a.op) (way_accesses network way))) (link_ways network k); through = table }) through
  where
    through : map (λ id. devices_on k (flows_from (paths_of network).hosts id)) (range_with_len 0 32) ≡ flow_table (link_ways network k)
    through = map_range_agree (λ id. devices_on k (flows_from (paths_of network).hosts id)) (λ id. map (λ d. list_any (λ way. (way.host.id == id) && (way.device == d)) (link_ways network k)) (range_with_len 0 32)) 0 32
        (λ id low high. map_range_agree (is_device_on k (flows_from (paths_of network).hosts id)) (λ d. list_any (λ way. (way.host.id == id) && (way.device == d)) (link_ways network k)) 0 32
        (λ d low high. is_device_on-is network k (record { host = id; device = d }) there ∙ sym (flow_on_link network k (record { host = id; device = d }) ids)))
