-- A turn of a port keeps the words that it was offered, and takes nothing back of what it let go.
use Rattle.std.proofs.Common.{◌≡◌, List, [], ◌∷◌, ◌++◌, ap, sym, ◌∙◌, drop, append_assoc, inl, inr}
use Rattle.std.specs.Prelude.{flat_map}
use Rattle.std.proofs.lemmas.List.{append-nil}
use Rattle.sb_packet.specs.Accesses.{message_accesses}
use Rattle.sb_packet.specs.Messages.{Message, message_of}
use Rattle.sb_link.specs.Prefixes.{IsPrefix}
use Rattle.sb_link.specs.Traffic.{item_messages}
use Rattle.sb_packet.specs.declared.item.Item.TheVariants as items
use Rattle.sb_cut.specs.Folds.{listed}
use Rattle.sb_port.specs.Waiting.{released}
use Rattle.sb_port.specs.Ports.{PortSide, PortState, port_messages, port_accesses, offered_words, let_go}
use Rattle.sb_port.specs.Turns.{SendsFirst, SendsClose, LetsGo, Turned}
use Rattle.sb_port.specs.declared.port_turn.PortTurn.{PortTurn}
use Rattle.sb_port.specs.declared.port_turn.PortTurn.TheVariants as turns
use Rattle.sb_port.proofs.Items.{item_messages-packet, item_messages-close}

-- equal lists begin each other
pub begins_equal : {A : Type 0} (xs ys : List A) → ys ≡ xs → IsPrefix xs ys
begins_equal xs ys e = record { rest = []; joined = append-nil xs ∙ sym e }

-- the first message is sent: what was let go is the same
sends_let_go : (before after : PortState) → SendsFirst before after → let_go after ≡ let_go before
sends_let_go before after sends =
    let m = message_of sends.packet in let rest = drop 1 before.waiting.owed in
    let moved : item_messages (before.sent ++ items.Packet sends.packet ∷ []) ++ rest ≡ item_messages before.sent ++ before.waiting.owed =
    rw (item_messages-packet before.sent sends.packet) (append_assoc (item_messages before.sent) (m ∷ []) rest ∙ ap (λ (list : List Message). item_messages before.sent ++ list) (sym sends.first)) in
    ap let_go sends.state ∙ moved

-- and so are all its messages
sends_messages : (before after : PortState) → SendsFirst before after → port_messages after ≡ port_messages before
sends_messages before after sends =
    let held = listed before.waiting.held in let rest = drop 1 before.waiting.owed in let sent = item_messages (before.sent ++ items.Packet sends.packet ∷ []) in
    let same : sent ++ rest ≡ item_messages before.sent ++ before.waiting.owed = sym (ap let_go sends.state) ∙ sends_let_go before after sends in
    ap port_messages sends.state ∙ sym (append_assoc sent rest held) ∙ ap (λ (list : List Message). list ++ held) same ∙ append_assoc (item_messages before.sent) before.waiting.owed held

-- what is held is let go: it comes to the end of what was
released_let_go : (before : PortState) → let_go (record before { waiting = released before.waiting }) ≡ let_go before ++ listed before.waiting.held
released_let_go before = sym (append_assoc (item_messages before.sent) before.waiting.owed (listed before.waiting.held))

released_messages : (before : PortState) → port_messages (record before { waiting = released before.waiting }) ≡ port_messages before
released_messages before = ap (λ (list : List Message). item_messages before.sent ++ list) (append-nil (before.waiting.owed ++ listed before.waiting.held))

closes_let_go : (before after : PortState) → SendsClose before after → let_go after ≡ let_go before
closes_let_go before after closes = ap let_go closes.state ∙ ap (λ (list : List Message). list ++ before.waiting.owed) (item_messages-close before.sent)

closes_messages : (before after : PortState) → SendsClose before after → port_messages after ≡ port_messages before
closes_messages before after closes = ap port_messages closes.state ∙ ap (λ (list : List Message). list ++ (before.waiting.owed ++ listed before.waiting.held)) (item_messages-close before.sent)

lets_go_messages : (more : _) (before after : PortSide) → LetsGo more before after → port_messages after.state ≡ port_messages before.state
lets_go_messages more before after lets = elim lets.state [
  | inl e ↦ ap port_messages e.state ∙ released_messages before.state
  | inr sends ↦ sends_messages (record before.state { waiting = released before.state.waiting }) after.state sends ∙ released_messages before.state
]

lets_go_on : (more : _) (before after : PortSide) → LetsGo more before after → IsPrefix (let_go before.state) (let_go after.state)
lets_go_on more before after lets = elim lets.state [
  | inl e ↦ record { rest = listed before.state.waiting.held; joined = sym (released_let_go before.state) ∙ sym (ap let_go e.state) }
  | inr sends ↦ record { rest = listed before.state.waiting.held; joined = sym (released_let_go before.state) ∙ sym (sends_let_go (record before.state { waiting = released before.state.waiting }) after.state sends) }
]

-- a turn keeps the messages
turned_messages : (more : _) (before after : PortSide) (answer : PortTurn) → Turned more before after answer → port_messages after.state ≡ port_messages before.state
turned_messages more before after (turns.Full s t) turned = ap port_messages turned.state
turned_messages more before after turns.Clear turned = ap port_messages turned.state
turned_messages more before after turns.Moved turned = elim turned [
  | inl sends ↦ sends_messages before.state after.state sends
  | inr more_cases ↦ elim more_cases [
    | inl lets ↦ lets_go_messages more before after lets
    | inr closes ↦ closes_messages before.state after.state closes
  ]
]

-- A turn keeps the words that were offered.
pub turned_words : (more : _) (before after : PortSide) (answer : PortTurn) → Turned more before after answer → offered_words after ≡ offered_words before
turned_words more before after answer turned = ap (λ (list : List Message). flat_map message_accesses list) (turned_messages more before after answer turned)

-- A turn takes nothing back of what was let go.
pub turned_goes_on : (more : _) (before after : PortSide) (answer : PortTurn) → Turned more before after answer → IsPrefix (let_go before.state) (let_go after.state)
turned_goes_on more before after (turns.Full s t) turned = begins_equal (let_go before.state) (let_go after.state) (ap let_go turned.state)
turned_goes_on more before after turns.Clear turned = begins_equal (let_go before.state) (let_go after.state) (ap let_go turned.state)
turned_goes_on more before after turns.Moved turned = elim turned [
  | inl sends ↦ begins_equal (let_go before.state) (let_go after.state) (sends_let_go before.state after.state sends)
  | inr more_cases ↦ elim more_cases [
    | inl lets ↦ lets_go_on more before after lets
    | inr closes ↦ begins_equal (let_go before.state) (let_go after.state) (closes_let_go before.state after.state closes)
  ]
]

-- the first message is sent: the words are the same
pub sends_accesses : (before after : PortState) → SendsFirst before after → port_accesses after ≡ port_accesses before
sends_accesses before after sends = ap (λ (list : List Message). flat_map message_accesses list) (sends_messages before after sends)

pub closes_accesses : (before after : PortState) → SendsClose before after → port_accesses after ≡ port_accesses before
closes_accesses before after closes = ap (λ (list : List Message). flat_map message_accesses list) (closes_messages before after closes)

-- what was held is let go: the words are the same
pub released_accesses : (before : PortState) → port_accesses (record before { waiting = released before.waiting }) ≡ port_accesses before
released_accesses before = ap (λ (list : List Message). flat_map message_accesses list) (released_messages before)
