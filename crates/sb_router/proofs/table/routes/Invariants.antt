-- The rows before the host's stand in the table.
use Rattle.std.proofs.Common.{◌≡◌, ℕ, ◌<◌, length, slice_index_or, Some, None, []}
use Rattle.sb_flow.specs.NetworkOf.{network_of}
use Rattle.sb_router.specs.Ways.{place_on}
use Rattle.sb_router.proofs.table.routes.Given as goal

abbrev pub invariant-loop-host : goal.invariant-loop-host
invariant-loop-host l = record {
  count : length l.rows.items ≡ l.host;
  places : (h k : ℕ) → h < l.host → k < 32 → slice_index_or (slice_index_or l.rows.items h []) k None ≡ place_on (network_of l.bundle) l.up l.router l.links (record { host = h; device = k });
  within : (h k o : ℕ) → slice_index_or (slice_index_or l.rows.items h []) k None ≡ Some o → o < length l.links;
}
