-- What stays of a host where nothing moved.
use Rattle.std.proofs.Common.{◌≡◌, ◌++◌, List, ap, ◌∙◌}
use Rattle.std.specs.Prelude.{flat_map}
use Rattle.sb_packet.specs.Accesses.{message_accesses}
use Rattle.sb_link.specs.Traffic.{item_messages}
use Rattle.sb_packet.specs.declared.item.Item.{Item}
use Rattle.sb_cut.specs.Folds.{listed}
use Rattle.sb_port.specs.Waiting.{Waiting}
use Rattle.sb_port.specs.Ports.{PortSide, let_go, offered_words}
use Rattle.sb_node.specs.Rested.{IsRestedPort}

-- what a port was offered is what it sent and what waits
pub offered_same : (before after : PortSide) → IsRestedPort before after → offered_words after ≡ offered_words before
offered_same before after rests =
    ap (λ (list : List Item). flat_map message_accesses (item_messages list ++ (after.state.waiting.owed ++ listed after.state.waiting.held))) rests.sent
    ∙ ap (λ (w : Waiting). flat_map message_accesses (item_messages before.state.sent ++ (w.owed ++ listed w.held))) rests.waiting

-- and so is what it let go
pub let_go_same : (before after : PortSide) → IsRestedPort before after → let_go after.state ≡ let_go before.state
let_go_same before after rests =
    ap (λ (list : List Item). item_messages list ++ after.state.waiting.owed) rests.sent
    ∙ ap (λ (w : Waiting). item_messages before.state.sent ++ w.owed) rests.waiting
