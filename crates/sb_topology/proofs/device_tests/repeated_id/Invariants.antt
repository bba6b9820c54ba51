-- No host so far has the id of an earlier one.
use Rattle.std.proofs.Common.{◌≡◌, ◌==◌, [], drop, map, take}
use Rattle.sb_flow.specs.Accepted.{clash_behind}
use Rattle.sb_topology.specs.Held.{draft_host}
use Rattle.sb_topology.specs.Places.{silent_host}
use Rattle.sb_topology.proofs.device_tests.repeated_id.Given as goal

abbrev pub invariant-loop-place : goal.invariant-loop-place
invariant-loop-place l = clash_behind (λ x y. x.id == y.id) [] (map silent_host (map draft_host l.hosts)) ≡ clash_behind (λ x y. x.id == y.id) (map silent_host (map draft_host (take l.place l.hosts))) (map silent_host (map draft_host (drop l.place l.hosts)))
