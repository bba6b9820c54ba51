-- So many hosts have their first notes.
use Rattle.std.proofs.Common.{◌≡◌, map, take}
use Rattle.sb_flow.specs.NetworkOf.{network_of}
use Rattle.sb_check.specs.AnswerNotes.{first_noted}
use Rattle.sb_check.proofs.gathered.notes_of.Given as goal

abbrev pub invariant-loop-host : goal.invariant-loop-host
invariant-loop-host l = l.notes.items ≡ map (λ h. map (first_noted (network_of l.bundle)) h.script) (take l.host-index l.bundle.hosts.items)
