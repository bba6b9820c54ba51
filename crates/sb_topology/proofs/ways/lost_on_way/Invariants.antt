-- No router so far is without a route, so what is lost is ahead.
use Rattle.std.proofs.Common.{◌≡◌, ◌-◌}
use Rattle.sb_flow.specs.Ways.{links_from}
use Rattle.sb_flow.specs.Accepted.{first_told, lost_behind, lost_on_way}
use Rattle.sb_topology.specs.Held.{whole_network}
use Rattle.sb_topology.proofs.ways.lost_on_way.Given as goal

abbrev pub invariant-loop : goal.invariant-loop
invariant-loop l = lost_on_way (whole_network l.rows) l.host l.device ≡ first_told (lost_behind (whole_network l.rows) l.device) (links_from (l.end - l.counter) (whole_network l.rows) l.device l.next)
