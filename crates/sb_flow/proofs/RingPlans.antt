-- A ring's plan, from the tables of its link.
use Rattle.std.proofs.Common.{◌≡◌, ◌≤◌, ◌<◌, ℕ, Bool, true, false, List, [], length, get_or, refl, ap, sym, ◌∙◌, arith, map, Option, Some}
use Rattle.std.specs.Prelude.{filter, option_and_then, slice_get, sum_by, if◌then◌else◌}
use Rattle.std.specs.Option.{option_map_or}
use Rattle.std.proofs.lemmas.List.{get_or-map, length-map}
use Rattle.std.proofs.lemmas.List.FromFn.{get_or-map-range_with_len, length-map-range_with_len}
use Rattle.sb_packet.specs.Networks.{NetLink, Network}
use Rattle.sb_link.specs.RingPlans.{RingFlows, RingPlan}
use Rattle.sb_flow.specs.Ways.{NetWay}
use Rattle.sb_flow.specs.Rings.{counted_accesses, flow_table, is_answered, is_upward, link_ways, network_ranges, ring_link, ring_plan, way_accesses}
use Rattle.sb_flow.specs.Accepted.{IsAccepted}
use Rattle.sb_flow.specs.Tables.{LinkTable, link_table_of, paths_of}
use Rattle.sb_flow.specs.Gathered.{load_of}
use Rattle.sb_flow.specs.declared.load.Load.{Load}
use Rattle.sb_flow.proofs.LinkTables.{gathered-is}
use Rattle.sb_flow.proofs.WordBounds.{words_bounded}

-- the words over a link, where requests go or where answers go
abbrev pub budget_in : Bool → LinkTable → ℕ
budget_in up table = if up then table.answers else table.requests

-- a plan by the link's number and the link, where these are there
abbrev plan_with : Network → ℕ → Option ℕ → Option NetLink → RingPlan
plan_with network ring found link = record {
  ring = ring;
  up = is_upward ring;
  width = option_map_or (λ (l : NetLink). l.width) link 0;
  capacity = option_map_or (λ (l : NetLink). l.capacity) link 0;
  budget = sum_by (λ way. length (counted_accesses network ring way)) (option_map_or (link_ways network) found []);
  flows = record { devices = length network.devices; ranges = network_ranges network; through = flow_table (option_map_or (link_ways network) found []) };
}

-- the budget of a link's ring
pub budget_of : (network : Network) (up : Bool) (ways : List NetWay) → sum_by (λ way. length (if up then filter (λ a. is_answered a.op) (way_accesses network way) else way_accesses network way)) ways
    ≡ (if up then sum_by (λ way. length (filter (λ a. is_answered a.op) (way_accesses network way))) ways else sum_by (λ way. length (way_accesses network way)) ways)
budget_of network true ways = refl
budget_of network false ways = refl

-- The plan of a ring whose link is there.
pub ring_plan-is : (network : Network) (ring k : ℕ) (link : NetLink) (budget : ℕ) (flows : RingFlows) → ring_link network ring ≡ Some k → slice_get network.links k ≡ Some link → budget ≡ budget_in (is_upward ring) (link_table_of network k) → flows ≡ record { devices = length network.devices; ranges = network_ranges network; through = (link_table_of network k).through }
    → record { ring = ring; up = is_upward ring; width = link.width; capacity = link.capacity; budget = budget; flows = flows } ≡ ring_plan network ring
ring_plan-is network ring k link budget flows named there budget_is flows_are =
    ap (λ (n : ℕ). let plan : RingPlan = record { ring = ring; up = is_upward ring; width = link.width; capacity = link.capacity; budget = n; flows = flows } in plan) (budget_is ∙ sym (budget_of network (is_upward ring) (link_ways network k)))
    ∙ ap (λ (fs : RingFlows). let plan : RingPlan = record { ring = ring; up = is_upward ring; width = link.width; capacity = link.capacity; budget = sum_by (λ way. length (counted_accesses network ring way)) (link_ways network k); flows = fs } in plan) flows_are
    ∙ ap (λ (l : Option NetLink). plan_with network ring (Some k) l) (sym there)
    ∙ ap (λ (found : Option ℕ). plan_with network ring found (option_and_then (slice_get network.links) found)) (sym named)

-- there are as many as links
pub tables_read : (network : Network) (loads : List Load) → map load_of loads ≡ (paths_of network).links → length loads ≡ length network.links
tables_read network loads made = sym (length-map loads load_of) ∙ ap length made ∙ length-map-range_with_len (link_table_of network) 0 (length network.links)

-- the table that was read for a link
pub table_read : (network : Network) (loads : List Load) (k : ℕ) (load : Load) → map load_of loads ≡ (paths_of network).links → k < length network.links → load ≡ get_or loads k load → load_of load ≡ link_table_of network k
table_read network loads k load made there at =
    ap load_of at ∙ sym (get_or-map load_of loads k load (load_of load) (omega (arith, tables_read network loads made)))
    ∙ ap (λ (tables : List LinkTable). get_or tables k (load_of load)) made ∙ get_or-map-range_with_len (link_table_of network) 0 (length network.links) k k (load_of load) there (omega arith)

-- no link has more words than 262,144
pub table_bounded : (network : Network) (k : ℕ) (up : Bool) → IsAccepted network → k < length network.links → budget_in up (link_table_of network k) ≤ 262144
table_bounded network k true good there = rw (← ap (λ (t : LinkTable). t.answers) (gathered-is network k good.ids there)) (words_bounded network k true good)
table_bounded network k false good there = rw (← ap (λ (t : LinkTable). t.requests) (gathered-is network k good.ids there)) (words_bounded network k false good)
