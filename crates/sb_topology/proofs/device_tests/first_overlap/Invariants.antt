-- No device so far overlaps an earlier one.
use Rattle.std.proofs.Common.{◌≡◌, [], drop, map, not, take}
use Rattle.sb_link.specs.RingPlans.{are_apart}
use Rattle.sb_flow.specs.Rings.{range_of}
use Rattle.sb_flow.specs.Accepted.{clash_behind}
use Rattle.sb_flow.specs.Rows.{device_of}
use Rattle.sb_topology.proofs.device_tests.first_overlap.Given as goal

abbrev pub invariant-loop-device : goal.invariant-loop-device
invariant-loop-device l = clash_behind (λ x y. not (are_apart (range_of x) (range_of y))) [] (map device_of l.devices) ≡ clash_behind (λ x y. not (are_apart (range_of x) (range_of y))) (map device_of (take l.device l.devices)) (map device_of (drop l.device l.devices))
