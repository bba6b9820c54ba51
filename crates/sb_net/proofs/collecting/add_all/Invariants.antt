-- So many entries were put behind the journal.
use Rattle.std.proofs.Common.{◌≡◌, ◌+◌, ◌++◌, take}
use Rattle.sb_net.proofs.collecting.add_all.Given as goal

abbrev pub invariant-loop-place : goal.invariant-loop-place
invariant-loop-place l = (l.journal.entries ≡ l.initial.journal.entries ++ take l.place l.entries) × (l.journal.spare + l.place ≡ l.initial.journal.spare)
