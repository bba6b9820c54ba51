-- The ways of the hosts so far.
use Rattle.std.proofs.Common.{◌≡◌, map, take}
use Rattle.std.specs.List.{enumerate_from}
use Rattle.sb_flow.specs.NetworkOf.{network_of}
use Rattle.sb_flow.specs.Tables.{host_table_of}
use Rattle.sb_flow.proofs.host_paths.all_paths.Given as goal

abbrev pub invariant-loop-host : goal.invariant-loop-host
invariant-loop-host l = l.hosts.items ≡ map (λ p. host_table_of (network_of l.bundle) p.0 p.1) (take l.host (enumerate_from 0 (network_of l.bundle).hosts))
