-- No link so far goes back.
use Rattle.std.proofs.Common.{◌≡◌, drop, map}
use Rattle.std.specs.List.{position_from}
use Rattle.sb_flow.specs.Ends.{goes_back}
use Rattle.sb_flow.specs.Rows.{link_of}
use Rattle.sb_topology.proofs.link_tests.backward.Given as goal

abbrev pub invariant-loop-place : goal.invariant-loop-place
invariant-loop-place l = position_from (λ l. goes_back l.from l.to) 0 (map link_of l.links) ≡ position_from (λ l. goes_back l.from l.to) l.place (map link_of (drop l.place l.links))
