-- The nodes stay dealt, and the run is under way, for each network for which it was ready.
use Rattle.std.proofs.Common.{◌≡◌, length}
use Rattle.sb_packet.specs.Networks.{Network}
use Rattle.sb_member.specs.Groups.{IsDealt, dealt_nodes, grouped_nodes}
use Rattle.sb_net.specs.Running.{IsReady}
use Rattle.sb_net.proofs.UnderWay.{IsUnderWay}
use Rattle.sb_net.proofs.side_by_side.run_side_by_side.Given as goal

abbrev pub invariant-loop-number : goal.invariant-loop-number
invariant-loop-number g l =
    (length l.groups ≡ length l.initial.groups) × IsDealt (grouped_nodes l.groups)
    × ((network : Network) → IsReady network l.first l.initial.collected l.joints (dealt_nodes (grouped_nodes l.initial.groups)) l.initial.journal
    → IsUnderWay network l.first l.initial.journal.spare l.number l.collected l.joints (dealt_nodes (grouped_nodes l.groups)) l.journal)
