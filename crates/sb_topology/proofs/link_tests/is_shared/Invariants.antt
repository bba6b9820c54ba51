-- No link so far shares an end with it.
use Rattle.std.proofs.Common.{◌≡◌, drop, map}
use Rattle.std.specs.List.{list_any}
use Rattle.sb_flow.specs.Ends.{share_an_end}
use Rattle.sb_flow.specs.Rows.{link_of}
use Rattle.sb_topology.proofs.link_tests.is_shared.Given as goal

abbrev pub invariant-loop-other : goal.invariant-loop-other
invariant-loop-other l = list_any (share_an_end (link_of l.link)) (map link_of l.earlier) ≡ list_any (share_an_end (link_of l.link)) (map link_of (drop l.other-index l.earlier))
