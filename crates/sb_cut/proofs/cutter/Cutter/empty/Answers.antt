-- empty: a packet has a part.
use Rattle.sb_packet.specs.Messages.{message_of}
use Rattle.sb_cut.proofs.Parts.{some_part}
use Rattle.sb_cut.proofs.cutter.Cutter.empty.Goals as goal

pub returns-in-Some : goal.returns-in-Some
returns-in-Some c = record {
  empty = rw (← c.self.view_is) (rw c.in-Some.is ((λ h. let no_way : ⊥ = cc in absurd no_way), (λ h. absurd (some_part c.self.inside.width (message_of c.in-Some.field-0) h))));
}
