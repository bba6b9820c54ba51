-- Nothing has come of the hosts so far.
use Rattle.std.proofs.Common.{◌≡◌, ◌<◌, ℕ, length}
use Rattle.std.specs.Prelude.{IsSomeAnd, slice_get}
use Rattle.sb_flow.specs.NetworkOf.{network_of}
use Rattle.sb_check.proofs.WholeScripts.{IsFirstRow}
use Rattle.sb_check.proofs.progress.Progress.new.Given as goal

abbrev pub invariant-loop-plan : goal.invariant-loop-plan
invariant-loop-plan l = record {
  long : length l.hosts.items ≡ l.plan-index;
  first : (h : ℕ) → h < l.plan-index → IsSomeAnd (slice_get l.hosts.items h) (IsFirstRow (network_of l.bundle) h);
}
