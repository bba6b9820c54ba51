-- So many groups are empty.
use Rattle.std.proofs.Common.{◌≡◌, []}
use Rattle.std.specs.Prelude.{replicate}
use Rattle.sb_member.specs.Groups.{grouped_nodes}
use Rattle.sb_net.proofs.groups.empty_groups.Given as goal

abbrev pub invariant-loop : goal.invariant-loop
invariant-loop g l = grouped_nodes l.groups.items ≡ replicate l.counter []
