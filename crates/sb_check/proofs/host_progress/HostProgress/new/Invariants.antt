-- The row has the first words at all devices so far.
use Rattle.std.proofs.Common.{◌≡◌, ◌<◌, ℕ, [], length}
use Rattle.std.specs.Prelude.{IsSomeAnd, slice_get}
use Rattle.sb_flow.specs.NetworkOf.{network_of}
use Rattle.sb_flow.specs.Rows.{host_of}
use Rattle.sb_check.specs.Progresses.{IsNextWord}
use Rattle.sb_check.proofs.host_progress.HostProgress.new.Given as goal

abbrev pub invariant-loop-device : goal.invariant-loop-device
invariant-loop-device l = record {
  long : length l.words.items ≡ l.device;
  first : (d : ℕ) → d < l.device → IsSomeAnd (slice_get l.words.items d) (IsNextWord (network_of l.bundle) [] (host_of l.plan) d);
}
