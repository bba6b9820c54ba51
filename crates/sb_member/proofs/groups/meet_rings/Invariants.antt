-- The first rings have met.
use Rattle.std.proofs.Common.{◌≡◌, length, take}
use Rattle.sb_member.specs.Groups.{IsDealt, dealt_nodes, grouped_nodes}
use Rattle.sb_member.specs.Joints.{MeetAlong, HaveAllMet, IsJoined}
use Rattle.sb_member.proofs.groups.meet_rings.Given as goal

abbrev pub invariant-loop-ring : goal.invariant-loop-ring
invariant-loop-ring g l =
    MeetAlong (take l.ring l.joints) (dealt_nodes (grouped_nodes l.initial.groups)) (dealt_nodes (grouped_nodes l.groups)) × IsJoined l.joints (dealt_nodes (grouped_nodes l.groups))
    × HaveAllMet l.joints l.ring (dealt_nodes (grouped_nodes l.groups)) × IsDealt (grouped_nodes l.groups) × (length l.groups ≡ length l.initial.groups)
