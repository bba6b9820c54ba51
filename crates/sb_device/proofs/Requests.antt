-- A device serves one request more.
use Rattle.std.proofs.Common.{⊎_elim, inr, ◌≡◌, ◌≤◌, ◌+◌, List, [], ◌∷◌, ◌++◌, length, refl, sym, ap, ◌∙◌, subst, arith, append-nil, length-append}
use Rattle.std.specs.Prelude.{filter_map, All}
use Rattle.std.proofs.lemmas.Grind.{flat_map-append}
use Rattle.std.proofs.lemmas.List.Elements.{filter_map-append, All-nil, All-cons, All-head, All-tail}
use Rattle.sb_packet.specs.Accesses.{Access, accesses_of}
use Rattle.sb_packet.specs.Memories.{MemoryState, memory_after, answers_in, answers_to}
use Rattle.sb_packet.specs.Messages.{message_of}
use Rattle.sb_link.specs.Prefixes.{IsSubsequence}
use Rattle.sb_packet.specs.Cuts.{IsSound}
use Rattle.sb_link.specs.Traffic.{item_messages}
use Rattle.sb_packet.specs.declared.entry.Entry.{Entry}
use Rattle.sb_packet.specs.declared.packet.Packet.{Packet}
use Rattle.sb_packet.specs.declared.item.Item.{Item}
use Rattle.sb_packet.specs.declared.item.Item.TheVariants as items
use Rattle.sb_packet.proofs.FoundAnswers.{answers_in-append, memory_after-append}
use Rattle.sb_mem.specs.AnswerPackets.{IsAnswerTo}
use Rattle.sb_port.specs.Ports.{PortSide, offered_words}
use Rattle.sb_node.specs.Steps.{IsHandedOn, IsOffered, IsDropped}
use Rattle.sb_node.proofs.Subsequences.{more_kept, more_left_out}
use Rattle.sb_device.specs.Sides.{DeviceSide}
use Rattle.sb_device.specs.Requests.{IsServedBy}
use Rattle.sb_device.specs.Served.{entry_accesses, AreSound, HasServed}

-- an entry more, and so the words of its packet
pub entry_more : (journal : List Entry) (e : Entry) → entry_accesses (journal ++ e ∷ []) ≡ entry_accesses journal ++ accesses_of e.packet
entry_more journal e = flat_map-append (λ e. accesses_of e.packet) journal (e ∷ []) ∙ ap (λ xs. entry_accesses journal ++ xs) (append-nil (accesses_of e.packet))

-- what is handed on is not sent yet
pub sent_as_before : {before after : PortSide} {p : Packet} → IsHandedOn before after p → after.state.sent ≡ before.state.sent
sent_as_before {before} {after} {p} handed = ⊎_elim (λ (i : IsOffered before after p). i.sent) (λ (d : IsDropped before after p). ap (λ (q : PortSide). q.state.sent) d.same) handed

-- a request is served where the packet that answers it is handed on
pub served_by_answer : {m : MemoryState} {before after : PortSide} {request : Packet} {a : Packet} → answers_to m (accesses_of request) ≡ accesses_of a → IsAnswerTo request a
    → IsHandedOn before after a → IsServedBy m before after request
served_by_answer {m} {before} {after} {request} {a} answers fields handed = inr (record { answer = a; answers = answers; fields = fields; handed = handed })

-- the answers to more words come behind those to the others
answers_more : (opening : MemoryState) (words more : List Access) → answers_to opening (words ++ more) ≡ answers_to opening words ++ answers_to (memory_after opening words) more
answers_more opening words more = ap (filter_map (λ answer. answer)) (answers_in-append opening words more)
    ∙ filter_map-append (λ answer. answer) (answers_in opening words) (answers_in (memory_after opening words) more)

-- the messages of two lists of items, one behind the other
pub messages_joined : (xs ys : List Item) → item_messages (xs ++ ys) ≡ item_messages xs ++ item_messages ys
messages_joined [] ys = refl
messages_joined (items.Packet p ∷ xs) ys = ap (λ ms. message_of p ∷ ms) (messages_joined xs ys)
messages_joined (items.Close ∷ xs) ys = messages_joined xs ys

-- what holds of all of a list holds of its front, and of the rest
all_front : {A : Type 0} (P : A → Type 0) (xs ys : List A) → All P (xs ++ ys) → All P xs
all_front P [] ys all = All-nil P
all_front P (x ∷ xs) ys all = All-cons P x xs (All-head P x (xs ++ ys) all) (all_front P xs ys (All-tail P x (xs ++ ys) all))

all_behind : {A : Type 0} (P : A → Type 0) (xs ys : List A) → All P (xs ++ ys) → All P ys
all_behind P [] ys all = all
all_behind P (x ∷ xs) ys all = all_behind P xs ys (All-tail P x (xs ++ ys) all)

-- all packets of a front are sound
pub front_sound : (front rest : List Item) → AreSound (front ++ rest) → AreSound front
front_sound front rest sound = all_front IsSound (item_messages front) (item_messages rest) (subst (All IsSound) (messages_joined front rest) sound)

-- the last packet is sound, where all are
last_sound : (front : List Item) (p : Packet) → AreSound (front ++ items.Packet p ∷ []) → IsSound (message_of p)
last_sound front p sound = All-head IsSound (message_of p) [] (all_behind IsSound (item_messages front) (message_of p ∷ []) (subst (All IsSound) (messages_joined front (items.Packet p ∷ [])) sound))

-- What is served once more: the request p came in and was journalled, and the memory answered it by these words.
module _ (opening : MemoryState) (x y : DeviceSide) (p : Packet) (words : List Access)
    (before : HasServed opening x)
    (entered : entry_accesses y.journal.entries ≡ entry_accesses x.journal.entries ++ accesses_of p)
    (came : y.requests.received ≡ x.requests.received ++ items.Packet p ∷ [])
    (plan : y.answers.plan ≡ x.answers.plan)
    (stepped : y.memory ≡ memory_after x.memory (accesses_of p))
    (answers : answers_to x.memory (accesses_of p) ≡ words) where
  -- the words that were served before, and those that are served then
  abbrev served : List Access
  served = entry_accesses x.journal.entries

  abbrev served_then : List Access
  served_then = entry_accesses y.journal.entries

  stepped_on : y.memory ≡ memory_after opening served_then
  stepped_on = stepped ∙ ap (λ n. memory_after n (accesses_of p)) before.stepped ∙ sym (memory_after-append opening served (accesses_of p))
      ∙ ap (memory_after opening) (sym entered)

  answered_on : answers_to opening served_then ≡ answers_to opening served ++ words
  answered_on = ap (answers_to opening) entered ∙ answers_more opening served (accesses_of p)
      ∙ ap (λ n. answers_to opening served ++ answers_to n (accesses_of p)) (sym before.stepped) ∙ ap (λ ws. answers_to opening served ++ ws) answers

  fewer : length (answers_to opening served_then) ≤ y.answers.plan.budget → length (answers_to opening served) + length words ≤ x.answers.plan.budget
  fewer few = subst (λ plan. length (answers_to opening served) + length words ≤ plan.budget) plan
      (subst (λ n. n ≤ y.answers.plan.budget) (ap length answered_on ∙ length-append (answers_to opening served) words) few)

  was_sound : AreSound y.requests.received → AreSound x.requests.received
  was_sound sound = front_sound x.requests.received (items.Packet p ∷ []) (subst AreSound came sound)

  now_sound : AreSound y.requests.received → IsSound (message_of p)
  now_sound sound = last_sound x.requests.received p (subst AreSound came sound)

  -- the answer was offered
  pub served_and_offered : offered_words y.answers ≡ offered_words x.answers ++ words → HasServed opening y
  served_and_offered offered = record {
    stepped = stepped_on;
    answered_some = subst (λ xs. IsSubsequence xs (answers_to opening served_then)) (sym offered)
        (subst (λ ys. IsSubsequence (offered_words x.answers ++ words) ys) (sym answered_on) (more_kept words before.answered_some));
    answered_all = λ sound few. let room = fewer few in
        offered ∙ ap (λ xs. xs ++ words) (before.answered_all (was_sound sound) (omega (arith, room))) ∙ sym answered_on;
  }

  -- the answer was dropped, since it wasn't sound or there was no room for its words
  pub served_and_dropped : offered_words y.answers ≡ offered_words x.answers
      → (IsSound (message_of p) → length (offered_words x.answers) + length words ≤ x.answers.plan.budget → ⊥) → HasServed opening y
  served_and_dropped offered fails = record {
    stepped = stepped_on;
    answered_some = subst (λ xs. IsSubsequence xs (answers_to opening served_then)) (sym offered)
        (subst (λ ys. IsSubsequence (offered_words x.answers) ys) (sym answered_on) (more_left_out words before.answered_some));
    answered_all = λ sound few. let room = fewer few in
        let same = before.answered_all (was_sound sound) (omega (arith, room)) in
        absurd (fails (now_sound sound) (subst (λ xs. length xs + length words ≤ x.answers.plan.budget) (sym same) room));
  }
