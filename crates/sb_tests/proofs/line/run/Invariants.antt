-- The rings stay where they stand.
use Rattle.std.proofs.Common.{◌<◌, vec_len}
use Rattle.sb_member.specs.Joints.{IsJoined}
use Rattle.sb_tests.specs.Lines.{sample_joints}
use Rattle.sb_tests.proofs.line.run.Given as goal

abbrev pub invariant-loop-number : goal.invariant-loop-number
invariant-loop-number g l = (0 < vec_len l.group.nodes) × IsJoined sample_joints l.group.nodes.items
