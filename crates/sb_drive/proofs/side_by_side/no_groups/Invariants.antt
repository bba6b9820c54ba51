-- So many groups so far.
use Rattle.std.proofs.Common.{◌≡◌, vec_len}
use Rattle.sb_drive.proofs.side_by_side.no_groups.Given as goal

abbrev pub invariant-loop : goal.invariant-loop
invariant-loop g l = vec_len l.groups ≡ l.counter
