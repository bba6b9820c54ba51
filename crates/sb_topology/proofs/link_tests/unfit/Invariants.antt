-- All links so far are as they may be.
use Rattle.std.proofs.Common.{◌≡◌, [], drop, map, take}
use Rattle.sb_flow.specs.Ends.{unfit_behind}
use Rattle.sb_flow.specs.Rows.{link_of}
use Rattle.sb_topology.specs.Held.{plan_network}
use Rattle.sb_topology.proofs.link_tests.unfit.Given as goal

abbrev pub invariant-loop-place : goal.invariant-loop-place
invariant-loop-place l = unfit_behind (plan_network l.plan) [] (map link_of l.links) ≡ unfit_behind (plan_network l.plan) (map link_of (take l.place l.links)) (map link_of (drop l.place l.links))
