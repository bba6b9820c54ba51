-- What a turn answers, from what its parts do.
use Rattle.std.proofs.Common.{◌≡◌, Bool, List, ◌++◌, ap, ◌∙◌, sym, inl, inr}
use Rattle.std.specs.Prelude.{None}
use Rattle.std.proofs.lemmas.List.{append-nil}
use Rattle.sb_packet.specs.Messages.{Message}
use Rattle.sb_cut.specs.Folds.{listed}
use Rattle.sb_port.specs.Waiting.{Waiting, released}
use Rattle.sb_port.specs.Ports.{PortSide}
use Rattle.sb_port.specs.Turns.{TriesClose, Turned}
use Rattle.sb_port.specs.declared.port_turn.PortTurn.{PortTurn}
use Rattle.sb_port.specs.declared.port_turn.PortTurn.TheVariants as turns

-- where nothing is held, letting go changes nothing
pub released_none : (w : Waiting) → w.held ≡ None → released w ≡ w
released_none w none =
    ap (λ (h : _). (let x : Waiting = record { width = w.width; owed = w.owed ++ listed h; held = None } in x)) none
    ∙ ap (λ (list : List Message). (let x : Waiting = record { width = w.width; owed = list; held = None } in x)) (append-nil w.owed)
    ∙ ap (λ (h : _). (let x : Waiting = record { width = w.width; owed = w.owed; held = h } in x)) (sym none)

-- a try to send the Close is a turn, where nothing is owed and nothing is held
pub close_turns : (more : Bool) (before after : PortSide) (answer : PortTurn) → before.state.waiting.held ≡ None → TriesClose before after answer → Turned more before after answer
close_turns more before after turns.Moved none tries = inr (inr tries)
close_turns more before after (turns.Full s t) none tries = tries
close_turns more before after turns.Clear none tries = record { none_owed = tries.0; not_due = inl none; state = tries.1 }
