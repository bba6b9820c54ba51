-- The places before the device's stand in the row.
use Rattle.std.proofs.Common.{◌≡◌, ℕ, ◌<◌, length, slice_index_or, Some, None}
use Rattle.sb_flow.specs.NetworkOf.{network_of}
use Rattle.sb_router.specs.Ways.{place_on}
use Rattle.sb_router.proofs.table.row.Given as goal

abbrev pub invariant-loop-device : goal.invariant-loop-device
invariant-loop-device l = record {
  long : length l.row ≡ 32;
  places : (k : ℕ) → k < l.device → slice_index_or l.row k None ≡ place_on (network_of l.bundle) l.up l.router l.links (record { host = l.host; device = k });
  within : (k o : ℕ) → slice_index_or l.row k None ≡ Some o → o < length l.links;
}
