-- A fit port sends what it was offered, and keeps to its budget.
use Rattle.std.proofs.Common.{◌≡◌, ◌≤◌, ◌<◌, ◌+◌, ◌*◌, true, false, List, [], ◌∷◌, ◌++◌, length, refl, sym, ap, ◌∙◌, arith, append-nil, append_assoc, length-append}
use Rattle.std.specs.Prelude.{flat_map, All, None}
use Rattle.std.proofs.lemmas.List.Concat.{flat_map-append}
use Rattle.std.proofs.lemmas.List.FromFn.{length-map-range_with_len}
use Rattle.std.proofs.lemmas.List.Elements.{All-nil, All-cons, All-head, All-tail, All-append, All-weaker}
use Rattle.sb_packet.specs.Accesses.{Access, access_at, message_accesses}
use Rattle.sb_packet.specs.Messages.{Message, message_of}
use Rattle.sb_link.specs.RingPlans.{RingPlan}
use Rattle.sb_link.specs.Prefixes.{IsPrefix}
use Rattle.sb_link.specs.Traffic.{has_close, item_accesses, item_messages, AreInTurn}
use Rattle.sb_packet.specs.declared.item.Item.{Item}
use Rattle.sb_packet.specs.declared.item.Item.TheVariants as items
use Rattle.sb_packet.proofs.Opcodes.{some_words}
use Rattle.sb_cut.specs.Folds.{listed}
use Rattle.sb_port.specs.Ports.{PortState, port_accesses, let_go, IsFit, IsSendable}
use Rattle.sb_port.proofs.Items.{item_accesses-messages}
use Rattle.sb_laws.specs.Moments.{ClosesLast}
use Rattle.sb_laws.proofs.InTurn.{turn_closes_last, turn_words_are_few}

-- each message of items has a word
packets_have_words : (list : List Item) → All (λ m. 0 < m.count) (item_messages list)
packets_have_words [] = All-nil (λ (m : Message). 0 < m.count)
packets_have_words (items.Packet p ∷ list) = All-cons (λ m. 0 < m.count) (message_of p) (item_messages list) (some_words p.cmd.op p.cmd.len) (packets_have_words list)
packets_have_words (items.Close ∷ list) = packets_have_words list

-- so there are no more messages than words
messages_are_few : (list : List Message) → All (λ m. 0 < m.count) list → length list ≤ length (flat_map message_accesses list)
messages_are_few [] h = omega arith
messages_are_few (m ∷ list) h =
    let rest = messages_are_few list (All-tail (λ m. 0 < m.count) m list h) in
    let some : 0 < m.count = All-head (λ m. 0 < m.count) m list h in
    omega (arith, length-append (message_accesses m) (flat_map message_accesses list), length-map-range_with_len (access_at m) 0 m.count)

-- and of items no more than messages and a Close
items_are_few : (list : List Item) → ClosesLast list → length list ≤ length (item_messages list) + 1
items_are_few [] last = omega arith
items_are_few (items.Packet p ∷ list) last = let rest = items_are_few list (λ before after item cut. last (items.Packet p ∷ before) after item (ap (λ (l : List Item). items.Packet p ∷ l) cut)) in omega arith
items_are_few (items.Close ∷ []) last = omega arith
items_are_few (items.Close ∷ (item ∷ list)) last = absurd (let never : true ≡ false = last (items.Close ∷ []) list item refl in cc)

-- what a ring's end received is within the budget
pub received_are_few : (plan : RingPlan) (list : List Item) → AreInTurn plan list → length list ≤ plan.budget + 1
received_are_few plan list turn =
    let words = turn_words_are_few plan list turn in
    let same = ap length (item_accesses-messages list) in
    let messages = messages_are_few (item_messages list) (packets_have_words list) in
    let all = items_are_few list (turn_closes_last plan list turn) in
    omega arith

module _ (plan : RingPlan) (s : PortState) (fit : IsFit plan s) where
  -- the words of what was sent, and of the rest
  split_words : port_accesses s ≡ item_accesses s.sent ++ flat_map message_accesses (s.waiting.owed ++ listed s.waiting.held)
  split_words = flat_map-append message_accesses (item_messages s.sent) (s.waiting.owed ++ listed s.waiting.held) ∙ ap (λ (l : List Access). l ++ flat_map message_accesses (s.waiting.owed ++ listed s.waiting.held)) (sym (item_accesses-messages s.sent))

  pub sent_in_order : IsPrefix (item_accesses s.sent) (port_accesses s)
  sent_in_order = record { rest = flat_map message_accesses (s.waiting.owed ++ listed s.waiting.held); joined = sym split_words }

  -- a port that has nothing to send has sent all
  pub all_sent : s.waiting.owed ≡ [] → s.waiting.held ≡ None → item_accesses s.sent ≡ port_accesses s
  all_sent none_owed none_held =
      let nothing : s.waiting.owed ++ listed s.waiting.held ≡ [] = ap (λ (l : List Message). l ++ listed s.waiting.held) none_owed ∙ ap listed none_held in
      sym (append-nil (item_accesses s.sent)) ∙ ap (λ (l : List Message). item_accesses s.sent ++ flat_map message_accesses l) (sym nothing) ∙ sym split_words

  pub closed_all_sent : has_close s.sent ≡ true → item_accesses s.sent ≡ port_accesses s
  closed_all_sent closed = let close_sent : s.close_sent ≡ true = fit.close ∙ closed in all_sent (fit.none_owed close_sent) (fit.none_held close_sent)

  pub moves_are_few : AreInTurn plan s.sent → length (port_accesses s) + length (let_go s) + length s.sent ≤ 3 * plan.budget + 1
  moves_are_few turn =
      let words : length (port_accesses s) ≤ plan.budget = let counted = fit.counted in let room = fit.room in omega arith in
      let gone = messages_are_few (let_go s) (All-append (λ m. 0 < m.count) (item_messages s.sent) s.waiting.owed (packets_have_words s.sent) (All-weaker (IsSendable plan) (λ m. 0 < m.count) (λ m sendable. sendable.fine.whole.some) s.waiting.owed fit.owed)) in
      let all : port_accesses s ≡ flat_map message_accesses (let_go s) ++ flat_map message_accesses (listed s.waiting.held) =
      ap (flat_map message_accesses) (sym (append_assoc (item_messages s.sent) s.waiting.owed (listed s.waiting.held))) ∙ flat_map-append message_accesses (let_go s) (listed s.waiting.held) in
      let long = ap length all in
      let sent = received_are_few plan s.sent turn in
      omega (arith, length-append (flat_map message_accesses (let_go s)) (flat_map message_accesses (listed s.waiting.held)))
