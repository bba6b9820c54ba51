-- It is worked out for the devices so far.
use Rattle.std.proofs.Common.{◌≡◌, ◌<◌, ℕ, false, length}
use Rattle.std.specs.Prelude.{slice_index_or}
use Rattle.sb_packet.specs.Networks.{device_side}
use Rattle.sb_flow.specs.NetworkOf.{network_of}
use Rattle.sb_text.specs.Reports.{is_printed}
use Rattle.sb_text.proofs.report.sides.shown_devices.Given as goal

abbrev pub invariant-loop-device : goal.invariant-loop-device
invariant-loop-device l = record {
  whole : length l.shown ≡ 32;
  known : (k : ℕ) → k < l.device → slice_index_or l.shown k false ≡ is_printed l.side (device_side (network_of l.bundle) k);
}
