-- One memory more.
use Rattle.sb_packet.specs.Networks.{opening_memory}
use Rattle.sb_flow.specs.NetworkOf.{network_of}
use Rattle.sb_check.proofs.GatheredOpening.{number_more}
use Rattle.sb_check.proofs.gathered.memories_of.Goals as goal

pub loop-number-preserved : goal.loop-number-preserved
loop-number-preserved c =
    number_more (opening_memory (network_of c.args.bundle.now)) c.loop-number.number c.loop-number.memories.items c.push.new.self.items c.in_ok-memory_of.field-0 c.in_ok-push.ensures.items c.loop-number.invariant
    c.in_ok-memory_of.ensures.memory
