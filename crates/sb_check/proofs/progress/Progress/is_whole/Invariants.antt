-- All hosts so far are done at all devices.
use Rattle.std.proofs.Common.{◌<◌, ℕ, length}
use Rattle.sb_flow.specs.NetworkOf.{network_of}
use Rattle.sb_check.specs.Progresses.{IsDoneAt}
use Rattle.sb_check.proofs.progress.Progress.is_whole.Given as goal

abbrev pub invariant-loop-host : goal.invariant-loop-host
invariant-loop-host l = (h d : ℕ) → h < l.host → d < length l.bundle.devices.items → IsDoneAt (network_of l.bundle) l.self h d
