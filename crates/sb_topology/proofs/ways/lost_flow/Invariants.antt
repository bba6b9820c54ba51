-- Nothing is lost of a host so far.
use Rattle.std.proofs.Common.{◌≡◌, drop, map}
use Rattle.std.specs.List.{enumerate_from}
use Rattle.sb_flow.specs.Accepted.{first_told, lost_flow, lost_of_host}
use Rattle.sb_flow.specs.Rows.{host_of}
use Rattle.sb_topology.specs.Held.{whole_network}
use Rattle.sb_topology.proofs.ways.lost_flow.Given as goal

abbrev pub invariant-loop-number : goal.invariant-loop-number
invariant-loop-number l = lost_flow (whole_network l.rows) ≡ first_told (λ p. lost_of_host (whole_network l.rows) p.0 p.1) (enumerate_from l.number (map host_of (drop l.number l.rows.hosts.items)))
