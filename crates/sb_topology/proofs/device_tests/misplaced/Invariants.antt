-- All devices so far are placed.
use Rattle.std.proofs.Common.{◌≡◌, drop, map, not}
use Rattle.std.specs.List.{position_from}
use Rattle.sb_flow.specs.Accepted.{is_placed_device}
use Rattle.sb_flow.specs.Rows.{device_of}
use Rattle.sb_topology.proofs.device_tests.misplaced.Given as goal

abbrev pub invariant-loop-place : goal.invariant-loop-place
invariant-loop-place l = position_from (λ d. not (is_placed_device d)) 0 (map device_of l.devices) ≡ position_from (λ d. not (is_placed_device d)) l.place (map device_of (drop l.place l.devices))
