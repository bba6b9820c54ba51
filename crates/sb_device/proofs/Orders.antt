-- A device stays in order, and goes on to serve, when an item comes in.
use Rattle.std.proofs.Common.{◌≡◌, ◌≤◌, ◌<◌, ◌-◌, ℕ, List, [], ◌∷◌, ◌++◌, length, refl, sym, ap, ◌∙◌, subst, arith, true, false, eq-eqb, append-nil, length-append, ⊎_elim}
use Rattle.std.specs.Prelude.{Some, All, ◌==◌, not, filter, flat_map, if◌then◌else◌}
use Rattle.std.proofs.lemmas.List.{map-append}
use Rattle.std.proofs.lemmas.List.FromFn.{length-map-range_with_len}
use Rattle.std.proofs.lemmas.List.Elements.{All-append, All-nil, All-cons, All-head, All-tail}
use Rattle.sb_packet.specs.Accesses.{accesses_of, access_at}
use Rattle.sb_packet.specs.Journals.{Ledger, with_entry, is_request, journal_accesses}
use Rattle.sb_packet.specs.Memories.{MemoryState, memory_after, answers_to}
use Rattle.sb_packet.specs.Messages.{message_of}
use Rattle.sb_link.specs.RingPlans.{RingPlan}
use Rattle.sb_link.specs.Prefixes.{IsSubsequence}
use Rattle.sb_link.specs.Traffic.{item_accesses, has_close, MayFollow}
use Rattle.sb_packet.specs.declared.entry.Entry.{Entry}
use Rattle.sb_packet.specs.declared.packet.Packet.{Packet}
use Rattle.sb_packet.specs.declared.item.Item.{Item}
use Rattle.sb_packet.specs.declared.item.Item.TheVariants as items
use Rattle.sb_link.proofs.InTurn.{some_accesses}
use Rattle.sb_port.specs.Ports.{offered_words}
use Rattle.sb_port.proofs.Items.{has_close-packet}
use Rattle.sb_node.specs.Sides.{received_words, has_ended}
use Rattle.sb_node.specs.Steps.{IsOffered, IsDropped}
use Rattle.sb_node.proofs.Items.{item_more}
use Rattle.sb_device.specs.Sides.{DeviceSide, held_bytes}
use Rattle.sb_device.specs.Plans.{IsPlannedFor, IsDeviceInOrder}
use Rattle.sb_device.specs.Served.{entry_accesses, entry_packets, item_packets, AreSound, HasServed}
use Rattle.sb_device.specs.Requests.{IsUnanswered, IsReplied, ServesNone, ServesRequest}
use Rattle.sb_device.proofs.SoundAnswers.{sound_answer}
use Rattle.sb_device.proofs.PlannedPackets.{answer_planned}
use Rattle.sb_device.proofs.Requests.{entry_more, served_and_offered, served_and_dropped}

-- as many words as a packet's command counts
word_total : (p : Packet) → length (accesses_of p) ≡ (message_of p).count
word_total p = length-map-range_with_len (access_at (message_of p)) 0 (message_of p).count

-- the packets of two lists of items, one behind the other
packets_joined : (xs ys : List Item) → item_packets (xs ++ ys) ≡ item_packets xs ++ item_packets ys
packets_joined [] ys = refl
packets_joined (items.Packet p ∷ xs) ys = ap (λ ps. p ∷ ps) (packets_joined xs ys)
packets_joined (items.Close ∷ xs) ys = packets_joined xs ys

-- rings stay planned for a device whose memory lies where it lay
still_planned : (number : ℕ) (m n : MemoryState) (requests answers requests_then answers_then : RingPlan) → n.base ≡ m.base → length n.bytes ≡ length m.bytes
    → requests_then ≡ requests → answers_then ≡ answers → IsPlannedFor number m requests answers → IsPlannedFor number n requests_then answers_then
still_planned number m n requests answers requests_then answers_then base size asked answering made =
    subst (λ r. IsPlannedFor number n r answers_then) (sym asked) (subst (λ a. IsPlannedFor number n requests a) (sym answering) (record {
      down = made.down;
      up = made.up;
      flows = made.flows;
      own = made.own;
      range = made.range ∙ ap (λ b. Some (record { base = b; bytes = length m.bytes })) (sym base) ∙ ap (λ s. Some (record { base = n.base; bytes = s })) (sym size);
    }))

module _ (x y : DeviceSide) (o : IsDeviceInOrder x) (number : y.number ≡ x.number)
    (base : y.memory.base ≡ x.memory.base) (size : held_bytes y.memory ≡ held_bytes x.memory)
    (ring_plan : y.requests.plan ≡ x.requests.plan) (port_plan : y.answers.plan ≡ x.answers.plan) where
  planned_then : IsPlannedFor y.number y.memory y.requests.plan y.answers.plan
  planned_then = subst (λ n. IsPlannedFor n y.memory y.requests.plan y.answers.plan) (sym number)
      (still_planned x.number x.memory y.memory x.requests.plan x.answers.plan y.requests.plan y.answers.plan base size ring_plan port_plan o.planned)

  -- a request came in, and was journalled
  pub in_order_packet : (p : Packet) (e : Entry) → e.packet ≡ p → e.device ≡ x.number → y.journal ≡ with_entry x.journal e
      → MayFollow x.requests.plan x.requests.received (items.Packet p) → y.requests.received ≡ x.requests.received ++ items.Packet p ∷ [] → y.answers.state.close_requested ≡ false
      → IsDeviceInOrder y
  in_order_packet p e of_packet of_device added lawful came untold =
      let words : received_words y.requests ≡ received_words x.requests ++ accesses_of p = ap item_accesses came ∙ item_more x.requests.received (items.Packet p) in
      let entries : y.journal.entries ≡ x.journal.entries ++ e ∷ [] = ap (λ (j : Ledger). j.entries) added in
      let spare : y.journal.spare ≡ x.journal.spare - 1 = ap (λ (j : Ledger). j.spare) added in
      let longer = ap length words ∙ length-append (received_words x.requests) (accesses_of p) in
      let some = some_accesses p in
      let room = o.room in
      let budget : y.requests.plan.budget ≡ x.requests.plan.budget = ap (λ (plan : RingPlan). plan.budget) ring_plan in
      record {
        planned = planned_then;
        journalled = ap entry_packets entries ∙ map-append (λ (e : Entry). e.packet) x.journal.entries (e ∷ []) ∙ ap (λ q. entry_packets x.journal.entries ++ q ∷ []) of_packet
            ∙ ap (λ ps. ps ++ p ∷ []) o.journalled ∙ sym (packets_joined x.requests.received (items.Packet p ∷ [])) ∙ sym (ap item_packets came);
        own_entries = subst (λ n. All (λ e. e.device ≡ n) y.journal.entries) (sym number) (subst (λ es. All (λ e. e.device ≡ x.number) es) (sym entries)
            (All-append (λ e. e.device ≡ x.number) x.journal.entries (e ∷ []) o.own_entries (All-cons (λ e. e.device ≡ x.number) e [] of_device (All-nil (λ e. e.device ≡ x.number)))));
        room = omega (arith, longer, some, room, spare, budget);
        closes = untold ∙ sym lawful.unclosed ∙ sym (has_close-packet x.requests.received p) ∙ sym (ap has_close came);
      }

  -- no packet came in, and the port was told to close where its ring gave Close
  pub in_order_rest : y.journal ≡ x.journal → item_packets y.requests.received ≡ item_packets x.requests.received → received_words y.requests ≡ received_words x.requests
      → y.answers.state.close_requested ≡ has_ended y.requests → IsDeviceInOrder y
  in_order_rest same packets words closes =
      let longer = ap length words in
      let room = o.room in
      let budget : y.requests.plan.budget ≡ x.requests.plan.budget = ap (λ (plan : RingPlan). plan.budget) ring_plan in
      let spare : y.journal.spare ≡ x.journal.spare = ap (λ (j : Ledger). j.spare) same in
      record {
        planned = planned_then;
        journalled = ap (λ (j : Ledger). entry_packets j.entries) same ∙ o.journalled ∙ sym packets;
        own_entries = subst (λ n. All (λ e. e.device ≡ n) y.journal.entries) (sym number) (subst (λ (j : Ledger). All (λ e. e.device ≡ x.number) j.entries) (sym same) o.own_entries);
        room = omega (arith, longer, room, spare, budget);
        closes = closes;
      }

-- a Close brings no packet and no word, and is the ring's end
pub close_packets : (received : List Item) → item_packets (received ++ items.Close ∷ []) ≡ item_packets received
close_packets received = packets_joined received (items.Close ∷ []) ∙ append-nil (item_packets received)

pub close_words : (received : List Item) → item_accesses (received ++ items.Close ∷ []) ≡ item_accesses received
close_words received = item_more received items.Close ∙ append-nil (item_accesses received)

-- the words of entries and of items are those of their packets
words_of_entries : (list : List Entry) → entry_accesses list ≡ flat_map accesses_of (entry_packets list)
words_of_entries [] = refl
words_of_entries (e ∷ list) = ap (λ ws. accesses_of e.packet ++ ws) (words_of_entries list)

words_of_items : (list : List Item) → item_accesses list ≡ flat_map accesses_of (item_packets list)
words_of_items [] = refl
words_of_items (items.Packet p ∷ list) = ap (λ ws. accesses_of p ++ ws) (words_of_items list)
words_of_items (items.Close ∷ list) = words_of_items list

-- where a journal has the packets that came in, it has their words
pub words_that_came : (journal : List Entry) (received : List Item) → entry_packets journal ≡ item_packets received → entry_accesses journal ≡ item_accesses received
words_that_came journal received same = words_of_entries journal ∙ ap (flat_map accesses_of) same ∙ sym (words_of_items received)

-- where all entries of a journal are of one device, its words at that device are all its words
pub words_of_device : (number : ℕ) (journal : List Entry) → All (λ e. e.device ≡ number) journal → journal_accesses journal number ≡ entry_accesses journal
words_of_device number [] own = refl
words_of_device number (e ∷ journal) own =
    ap (λ b. flat_map (λ (e : Entry). accesses_of e.packet) (if b then e ∷ filter (λ (e : Entry). e.device == number) journal else filter (λ (e : Entry). e.device == number) journal))
    (eq-eqb e.device number (All-head (λ (e : Entry). e.device ≡ number) e journal own))
    ∙ ap (λ ws. accesses_of e.packet ++ ws) (words_of_device number journal (All-tail (λ (e : Entry). e.device ≡ number) e journal own))

-- a packet that may follow finds room in the journal
pub room_for_entry : (d : DeviceSide) (p : Packet) → IsDeviceInOrder d → MayFollow d.requests.plan d.requests.received (items.Packet p) → 0 < d.journal.spare
room_for_entry d p o lawful = let some = some_accesses p in let room = o.room in let fits = lawful.room in omega (arith, some, room, fits)

-- no request came in: nothing was served
pub served_none : (opening : MemoryState) (x y : DeviceSide) → HasServed opening x → ServesNone x y → (AreSound y.requests.received → AreSound x.requests.received) → HasServed opening y
served_none opening x y h none sound_before =
    let entries : entry_accesses y.journal.entries ≡ entry_accesses x.journal.entries = ap entry_accesses none.entered in
    let answers : answers_to opening (entry_accesses y.journal.entries) ≡ answers_to opening (entry_accesses x.journal.entries) = ap (answers_to opening) entries in
    record {
      stepped = none.memory ∙ h.stepped ∙ ap (memory_after opening) (sym entries);
      answered_some = subst (λ xs. IsSubsequence xs (answers_to opening (entry_accesses y.journal.entries))) (sym none.offered)
          (subst (λ ys. IsSubsequence (offered_words x.answers) ys) (sym answers) h.answered_some);
      answered_all = λ sound few. none.offered ∙ h.answered_all (sound_before sound)
          (subst (λ (p : RingPlan). length (answers_to opening (entry_accesses x.journal.entries)) ≤ p.budget) none.plan (subst (λ xs. length xs ≤ y.answers.plan.budget) answers few)) ∙ sym answers;
    }

-- a request came in, and was served
pub served_request : (opening : MemoryState) (round : ℕ) (x y : DeviceSide) → IsDeviceInOrder x → HasServed opening x → (s : ServesRequest round x y)
    → MayFollow x.requests.plan x.requests.received (items.Packet s.request) → is_request s.request.cmd.op ≡ true → HasServed opening y
served_request opening round x y o h s lawful asked =
    let p = s.request in
    let entered : entry_accesses y.journal.entries ≡ entry_accesses x.journal.entries ++ accesses_of p =
    ap entry_accesses s.entered ∙ entry_more x.journal.entries (record { round = round; device = x.number; packet = p }) in
    ⊎_elim
    (λ (u : IsUnanswered x.memory x.answers y.answers p). served_and_offered opening x y p [] h entered s.came s.plan s.stepped u.none
    (ap offered_words u.same ∙ sym (append-nil (offered_words x.answers))))
    (λ (r : IsReplied x.memory x.answers y.answers p). ⊎_elim
    (λ (i : IsOffered x.answers y.answers r.answer). served_and_offered opening x y p (accesses_of r.answer) h entered s.came s.plan s.stepped r.answers i.words)
    (λ (d : IsDropped x.answers y.answers r.answer). served_and_dropped opening x y p (accesses_of r.answer) h entered s.came s.plan s.stepped r.answers
    (ap offered_words d.same)
    (λ sound room. d.fails (record {
      sound = sound_answer p r.answer asked r.fields sound;
      planned = answer_planned x.number x.memory x.requests.plan x.answers.plan p r.answer o.planned (lawful.fit p refl).planned asked r.fields sound;
      room = let total = word_total r.answer in omega (arith, room, total);
    })))
    r.handed)
    s.answered

-- what may follow on a ring of requests is a request
pub request_asks : (plan : RingPlan) (list : List Item) (p : Packet) → plan.up ≡ false → MayFollow plan list (items.Packet p) → is_request p.cmd.op ≡ true
request_asks plan list p down lawful = (lawful.fit p refl).planned.direction ∙ ap not down
