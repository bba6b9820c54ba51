-- A memory that may be written stores what the write carries, and one that may not stays as it is.
use Rattle.std.proofs.Common.{◌∙◌, ap, sym}
use Rattle.sb_packet.specs.Memories.{MemoryState}
use Rattle.sb_packet.specs.Accesses.{accesses_of}
use Rattle.sb_packet.proofs.Overwrites.{memory_after_refused}
use Rattle.sb_mem.proofs.Requests.{write_memory}
use Rattle.sb_mem.proofs.memory.Memory.write.Goals as goal

pub returns-then-not-self-clause-memory : goal.returns-then-not-self-clause-memory
returns-then-not-self-clause-memory c =
    let writable = ap (λ (m : MemoryState). m.readonly) (sym c.self.view_is) ∙ c.if-not-self.true in
    let stored = rw c.span.ensures at c.store.ensures in
    stored ∙ sym (write_memory c.args.self.now c.args.p.now c.requires.op writable c.requires.within)

pub returns-else-not-self-clause-memory : goal.returns-else-not-self-clause-memory
returns-else-not-self-clause-memory c =
    let refuses = ap (λ (m : MemoryState). m.readonly) (sym c.self.view_is) ∙ c.if-not-self.false in
    sym (memory_after_refused c.args.self.now (accesses_of c.args.p.now) refuses)
