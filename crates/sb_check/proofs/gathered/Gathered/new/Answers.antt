-- Opening memories and first notes.
use Rattle.sb_flow.specs.NetworkOf.{network_of}
use Rattle.sb_flow.proofs.Bundles.{accepted}
use Rattle.sb_check.proofs.GatheredOpening.{gathers_none}
use Rattle.sb_check.proofs.gathered.Gathered.new.Goals as goal

pub returns : goal.returns
returns c = record { none = gathers_none (network_of c.args.bundle.now) (record { memories = c.in_ok-memories.memories; notes = c.in_ok-notes.notes }) (accepted c.args.bundle.now) c.in_ok-memories.ensures.memories c.in_ok-notes.ensures.notes }
