-- The rings of the links so far are seated.
use Rattle.std.proofs.Common.{◌≡◌, ◌*◌, map}
use Rattle.std.specs.List.{range_with_len}
use Rattle.sb_flow.specs.NetworkOf.{network_of}
use Rattle.sb_net.specs.Legs.{ring_joint}
use Rattle.sb_net.proofs.making.joints.joints_of.Given as goal

abbrev pub invariant-loop-link : goal.invariant-loop-link
invariant-loop-link g l = l.joints.items ≡ map (ring_joint (network_of l.bundle)) (range_with_len 0 (2 * l.link))
