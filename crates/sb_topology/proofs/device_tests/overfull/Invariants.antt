-- No device so far is overfull.
use Rattle.std.proofs.Common.{◌≡◌, drop, length, map, nat_lt}
use Rattle.std.specs.List.{position_from}
use Rattle.sb_packet.specs.Networks.{device_size}
use Rattle.sb_flow.specs.Rows.{device_of}
use Rattle.sb_topology.proofs.device_tests.overfull.Given as goal

abbrev pub invariant-loop-place : goal.invariant-loop-place
invariant-loop-place l = position_from (λ d. nat_lt (device_size d) (length d.image)) 0 (map device_of l.devices) ≡ position_from (λ d. nat_lt (device_size d) (length d.image)) l.place (map device_of (drop l.place l.devices))
