-- The sum is that of the devices so far.
use Rattle.std.proofs.Common.{◌≡◌, ◌≤◌, ◌*◌, ◌^◌, map, take}
use Rattle.sb_fields.specs.Counts.{all_pages}
use Rattle.sb_fields.specs.Held.{written_device}
use Rattle.sb_fields.proofs.counts.all_pages.Given as goal

abbrev pub invariant-loop-device : goal.invariant-loop-device
invariant-loop-device l = record {
  sum : l.total ≡ all_pages (map written_device (take l.device-index l.devices));
  fits : l.total ≤ l.device-index * 2 ^ 64;
}
