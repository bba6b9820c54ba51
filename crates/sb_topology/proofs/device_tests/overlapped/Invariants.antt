-- The device overlaps none so far.
use Rattle.std.proofs.Common.{◌≡◌, drop, map, not}
use Rattle.std.specs.List.{position_from}
use Rattle.sb_link.specs.RingPlans.{are_apart}
use Rattle.sb_flow.specs.Rings.{range_of}
use Rattle.sb_flow.specs.Rows.{device_of}
use Rattle.sb_topology.proofs.device_tests.overlapped.Given as goal

abbrev pub invariant-loop-place : goal.invariant-loop-place
invariant-loop-place l = position_from (λ y. not (are_apart (range_of (device_of l.device)) (range_of y))) 0 (map device_of l.devices) ≡ position_from (λ y. not (are_apart (range_of (device_of l.device)) (range_of y))) l.place (map device_of (drop l.place l.devices))
