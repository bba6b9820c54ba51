-- The legs so far, and those of the links to come, are those of the whole way.
use Rattle.std.proofs.Common.{◌≡◌, ◌-◌, map}
use Rattle.sb_flow.specs.Ways.{way_links}
use Rattle.sb_flow.specs.NetworkOf.{network_of}
use Rattle.sb_flow.specs.Tables.{leg_of}
use Rattle.sb_flow.proofs.Walks.{legs_with}
use Rattle.sb_flow.proofs.walk.legs.Given as goal

abbrev pub invariant-loop : goal.invariant-loop
invariant-loop l = legs_with l.legs.items (l.end - l.counter) (network_of l.bundle) l.device l.next ≡ map (leg_of (network_of l.bundle)) (way_links (network_of l.bundle) l.host l.device)
