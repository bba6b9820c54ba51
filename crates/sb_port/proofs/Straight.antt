-- A packet that is its only part goes to the merger straight: what waits then is what is offered.
use Rattle.std.proofs.Common.{◌≡◌, List, [], ◌∷◌, ◌++◌, refl, sym, ap, ◌∙◌, ℕ, true}
use Rattle.std.specs.Prelude.{Option, None, Some}
use Rattle.sb_packet.specs.Messages.{Message}
use Rattle.sb_packet.specs.Cuts.{cut_parts, is_one_part}
use Rattle.sb_packet.specs.declared.packet.Packet.{Packet}
use Rattle.sb_packet.proofs.CutSteps.{cut_of_one}
use Rattle.sb_cut.specs.Folds.{take_one}
use Rattle.sb_cut.specs.Works.{Cutting, Merging}
use Rattle.sb_port.specs.Waiting.{listed_packet, offered, waiting_of}

-- where no message is owed no packet is ready
pub none_ready : (ready : Option Packet) (others : List Message) → listed_packet ready ++ others ≡ [] → ready ≡ None
none_ready None others owed = refl
none_ready (Some p) others owed = absurd (cc)

pub straight : (ready after : Option Packet) (cutter : Cutting) (before next : Merging) (m : Message)
    → cutter.width ≡ before.width → (ready ≡ None → cutter.left ≡ []) → (waiting_of ready cutter before).owed ≡ []
    → is_one_part cutter.width m ≡ true
    → listed_packet after ≡ (take_one before.width before.held m).out
    → next.held ≡ (take_one before.width before.held m).held
    → next.width ≡ before.width
    → waiting_of after cutter next ≡ offered (waiting_of ready cutter before) m
straight ready after cutter before next m same settled owed one out held width =
    let none : ready ≡ None = none_ready ready _ owed in
    let left : cutter.left ≡ [] = settled none in
    let parts : cut_parts before.width m ≡ m ∷ [] = cut_of_one before.width m (ap (λ (n : ℕ). is_one_part n m) (sym same) ∙ one) in
    rw (left, none, parts, out, held, width) refl
