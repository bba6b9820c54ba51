-- Two states with the same parts are the same.
use Rattle.std.proofs.Common.{◌≡◌, ℕ, Bool, List, ap, ◌∙◌}
use Rattle.sb_packet.specs.declared.item.Item.{Item}
use Rattle.sb_port.specs.Waiting.{Waiting}
use Rattle.sb_port.specs.Ports.{PortState}

pub same_state : (a b : List Item) (v w : Waiting) (close_requested x y : Bool) (words_offered : ℕ) → a ≡ b → v ≡ w → x ≡ y
    → (let s : PortState = record { sent = a; waiting = v; close_requested = close_requested; close_sent = x; words_offered = words_offered } in s) ≡ record { sent = b; waiting = w; close_requested = close_requested; close_sent = y; words_offered = words_offered }
same_state a b v w close_requested x y words_offered p q r =
    ap (λ (z : List Item). (let s : PortState = record { sent = z; waiting = v; close_requested = close_requested; close_sent = x; words_offered = words_offered } in s)) p
    ∙ ap (λ (z : Waiting). (let s : PortState = record { sent = b; waiting = z; close_requested = close_requested; close_sent = x; words_offered = words_offered } in s)) q
    ∙ ap (λ (z : Bool). (let s : PortState = record { sent = b; waiting = w; close_requested = close_requested; close_sent = z; words_offered = words_offered } in s)) r
