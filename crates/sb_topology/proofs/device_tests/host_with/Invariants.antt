-- No host so far has the id.
use Rattle.std.proofs.Common.{◌≡◌, ◌==◌, drop, map}
use Rattle.std.specs.List.{position_from}
use Rattle.sb_topology.specs.Held.{draft_host}
use Rattle.sb_topology.specs.Places.{silent_host}
use Rattle.sb_topology.proofs.device_tests.host_with.Given as goal

abbrev pub invariant-loop-place : goal.invariant-loop-place
invariant-loop-place l = position_from (λ y. l.id == y.id) 0 (map silent_host (map draft_host l.hosts)) ≡ position_from (λ y. l.id == y.id) l.place (map silent_host (map draft_host (drop l.place l.hosts)))
