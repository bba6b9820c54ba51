-- A plan that is made of what was read of a ring's link.
use Rattle.std.proofs.Common.{◌≡◌, ◌≤◌, ◌<◌, ℕ, Bool, List, length, get_or, ap, sym, ◌∙◌, map, Some}
use Rattle.sb_link.specs.RingPlans.{RingFlows, RingPlan}
use Rattle.sb_flow.specs.Rings.{is_upward, network_ranges, ring_link, ring_plan}
use Rattle.sb_link.specs.Plans.{IsRingWidth, bits_of}
use Rattle.sb_flow.specs.NetworkOf.{network_of}
use Rattle.sb_flow.specs.Gathered.{load_of}
use Rattle.sb_flow.specs.Rows.{link_of}
use Rattle.sb_flow.specs.Tables.{LinkTable, link_table_of, paths_of}
use Rattle.sb_flow.specs.declared.bundle.Bundle.{Bundle}
use Rattle.sb_flow.specs.declared.link_row.LinkRow.{LinkRow}
use Rattle.sb_flow.specs.declared.load.Load.{Load}
use Rattle.sb_flow.proofs.Bundles.{accepted}
use Rattle.sb_flow.proofs.RingLinks.{link_capacity, link_got, link_in_rows, link_width, ring_link-there}
use Rattle.sb_flow.proofs.RingPlans.{budget_in, ring_plan-is, table_bounded, table_read}

-- what was read of a ring's link: its row, and its load
pub record IsRead (b : Bundle) (ring k : ℕ) (loads : List Load) (row : LinkRow) (load : Load) : Type 0 where
  pub made : map load_of loads ≡ (paths_of (network_of b)).links
  pub named : Some k ≡ ring_link (network_of b) ring
  pub row_at : row ≡ get_or b.links.items k row
  pub load_at : load ≡ get_or loads k load

-- the link is there, and the load is its own
pub read_below : (b : Bundle) (ring k : ℕ) (loads : List Load) (row : LinkRow) (load : Load) → IsRead b ring k loads row load → k < length (network_of b).links
read_below b ring k loads row load read = ring_link-there (network_of b) ring k (accepted b) read.named

pub read_table : (b : Bundle) (ring k : ℕ) (loads : List Load) (row : LinkRow) (load : Load) → IsRead b ring k loads row load → load_of load ≡ link_table_of (network_of b) k
read_table b ring k loads row load read = table_read (network_of b) loads k load read.made (read_below b ring k loads row load read) read.load_at

-- its numbers are as a plan's are to be
pub read_width : (b : Bundle) (ring k : ℕ) (loads : List Load) (row : LinkRow) (load : Load) → IsRead b ring k loads row load → IsRingWidth row.width
read_width b ring k loads row load read = link_width b k row (link_in_rows b k (read_below b ring k loads row load read)) read.row_at

pub read_capacity : (b : Bundle) (ring k : ℕ) (loads : List Load) (row : LinkRow) (load : Load) → IsRead b ring k loads row load → (0 < row.capacity) × (row.capacity ≤ 1024)
read_capacity b ring k loads row load read = link_capacity b k row (link_in_rows b k (read_below b ring k loads row load read)) read.row_at

pub read_budget : (b : Bundle) (ring k : ℕ) (loads : List Load) (row : LinkRow) (load : Load) (up : Bool) → IsRead b ring k loads row load → budget_in up (load_of load) ≤ 262144
read_budget b ring k loads row load up read = rw (ap (budget_in up) (read_table b ring k loads row load read)) (table_bounded (network_of b) k up (accepted b) (read_below b ring k loads row load read))

-- The plan that is made of them is the ring's.
pub read_plan : (b : Bundle) (ring k : ℕ) (loads : List Load) (row : LinkRow) (load : Load) (up : Bool) (budget : ℕ) (flows : RingFlows) → IsRead b ring k loads row load → up ≡ is_upward ring → budget ≡ budget_in up (load_of load)
    → flows ≡ record { devices = length (network_of b).devices; ranges = network_ranges (network_of b); through = map bits_of load.through } → record { ring = ring; up = up; width = row.width; capacity = row.capacity; budget = budget; flows = flows } ≡ ring_plan (network_of b) ring
read_plan b ring k loads row load up budget flows read upward budget_is flows_are =
    let table = read_table b ring k loads row load read in
    ap (λ (u : Bool). let plan : RingPlan = record { ring = ring; up = u; width = row.width; capacity = row.capacity; budget = budget; flows = flows } in plan) upward
    ∙ ring_plan-is (network_of b) ring k (link_of row) budget flows (sym read.named) (link_got b k row (link_in_rows b k (read_below b ring k loads row load read)) read.row_at)
    (budget_is ∙ ap (λ (u : Bool). budget_in u (load_of load)) upward ∙ ap (budget_in (is_upward ring)) table)
    (flows_are ∙ ap (λ (t : LinkTable). let fs : RingFlows = record { devices = length (network_of b).devices; ranges = network_ranges (network_of b); through = t.through } in fs) table)
