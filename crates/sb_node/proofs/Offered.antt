-- A port has something left to send once it was offered a packet: it holds the last part of it.
use Rattle.std.proofs.Common.{◌≡◌, ◌||◌, Bool, true, false, refl, ap, ◌∙◌}
use Rattle.std.specs.Prelude.{is_some}
use Rattle.sb_packet.specs.Messages.{Message}
use Rattle.sb_packet.specs.Cuts.{cut_parts}
use Rattle.sb_cut.proofs.Parts.{some_part}
use Rattle.sb_cut.proofs.FoldLaws.{some_held}
use Rattle.sb_port.specs.Ports.{PortSide, owes}
use Rattle.sb_port.specs.Waiting.{Waiting, offered}
use Rattle.sb_node.specs.Sides.{has_rest}

or_true : (b : Bool) → (b || true) ≡ true
or_true true = refl
or_true false = refl

pub rest_offered : (before after : PortSide) (m : Message) → after.state.waiting ≡ offered before.state.waiting m → has_rest after ≡ true
rest_offered before after m e =
    let w = before.state.waiting in
    let held : is_some after.state.waiting.held ≡ true = ap (λ (x : Waiting). is_some x.held) e ∙ some_held w.width w.held (cut_parts w.width m) (some_part w.width m) in
    ap (λ (b : Bool). owes after.state || b) held ∙ or_true (owes after.state)
