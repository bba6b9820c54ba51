-- The host is done at all devices so far.
use Rattle.std.proofs.Common.{◌<◌, ℕ}
use Rattle.sb_flow.specs.NetworkOf.{network_of}
use Rattle.sb_check.specs.Progresses.{IsDoneAt}
use Rattle.sb_check.proofs.progress.Progress.is_host_done.Given as goal

abbrev pub invariant-loop-device : goal.invariant-loop-device
invariant-loop-device l = (d : ℕ) → d < l.device → IsDoneAt (network_of l.bundle) l.self l.host d
