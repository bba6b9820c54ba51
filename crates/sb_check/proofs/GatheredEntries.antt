-- What is gathered goes on entry by entry.
use Rattle.std.proofs.Common.{◌≡◌, ◌≢◌, ◌≤◌, ◌<◌, ℕ, ◌+◌, true, List, [], ◌∷◌, ◌++◌, length, get_or, refl, ap, sym, ◌∙◌, arith, subst, Option, Some, None, length-append, inl, inr}
use Rattle.std.specs.Prelude.{◌⊎◌, ◌==◌, map, max, set, slice_get}
use Rattle.std.specs.List.{position_from}
use Rattle.std.proofs.lemmas.Bool.{cases_eq, cases_lt}
use Rattle.std.proofs.lemmas.List.{append-nil, get_or-set_other, get_or-set_same, length-set}
use Rattle.std.proofs.lemmas.Option.{slice_get-get_or, slice_get_within}
use Rattle.sb_mem.specs.AnswerPackets.{IsInRange}
use Rattle.sb_packet.specs.Accesses.{Access, accesses_of}
use Rattle.sb_packet.specs.Answers.{answer_body, answer_code}
use Rattle.sb_packet.specs.Journals.{is_request, journal_accesses}
use Rattle.sb_packet.specs.Memories.{MemoryState, answers_in, answers_to, memory_after}
use Rattle.sb_packet.specs.Messages.{message_of}
use Rattle.sb_packet.specs.Networks.{NetDevice, NetHost, Network, opening_memory}
use Rattle.sb_packet.specs.declared.entry.Entry.{Entry}
use Rattle.sb_packet.specs.declared.packet.Packet.{Packet}
use Rattle.sb_packet.specs.declared.transaction.Txn.{Txn}
use Rattle.sb_packet.proofs.FoundAnswers.{memory_after-append}
use Rattle.sb_packet.proofs.JoinedAnswers.{answer_body-append, answer_code-append}
use Rattle.sb_packet.proofs.PacketWords.{body_of_packet, code_of_packet}
use Rattle.sb_flow.specs.Accepted.{IsAccepted}
use Rattle.sb_flow.proofs.FlowWords.{request_asks}
use Rattle.sb_check.specs.Beginnings.{IsLawfulSoFar}
use Rattle.sb_check.specs.Gathering.{AreNoted, Gathers, IsStepped, replies_so_far, transaction_number}
use Rattle.sb_check.specs.AnswerNotes.{NotedAnswers, noted_at, notes_with, with_reply}
use Rattle.sb_check.specs.declared.gathered.Gathered.{Gathered}
use Rattle.sb_check.proofs.GatheredSteps.{IsRow, new_answers, noted_elsewhere, noted_here, replies_more, replies_same, replies_short, row_there, rows_as_long}
use Rattle.sb_check.proofs.NextEntries.{NextEntry, all_in_range, last_placed, next_entry, one_host, word_has}
use Rattle.sb_check.proofs.OpeningMemories.{opened, opened_long, paged_device}
use Rattle.sb_check.proofs.OwnWords.{journal_more, journal_same}
use Rattle.sb_check.proofs.ReplyLemmas.{answers_given, answers_none}

-- where the answers to a transaction stay, so do its notes
noted_alike : (network : Network) (before after : List Entry) (host : NetHost) (i : ℕ) (t : Txn) (n : NotedAnswers) → replies_so_far network after host i t ≡ replies_so_far network before host i t
    → AreNoted network before host i t n → AreNoted network after host i t n
noted_alike network before after host i t n same noted = record {
  posted = noted.posted;
  code = noted.code ∙ ap answer_code (sym same);
  body = noted.body ∙ ap answer_body (sym same);
  room = noted.room;
}

-- where more answers come to a transaction, for which there is room, they are noted
noted_with : (network : Network) (before after : List Entry) (host : NetHost) (i : ℕ) (t : Txn) (n : NotedAnswers) (new : List Access) → replies_so_far network after host i t ≡ replies_so_far network before host i t ++ new
    → length (answer_body new) ≤ n.room → AreNoted network before host i t n → AreNoted network after host i t (with_reply n (answer_code new) (answer_body new))
noted_with network before after host i t n new more fits noted =
    let old = replies_so_far network before host i t in
    record {
      posted = noted.posted;
      code = ap (λ (c : ℕ). max c (answer_code new)) noted.code ∙ sym (answer_code-append old new) ∙ ap answer_code (sym more);
      body = ap (λ (b : List ℕ). b ++ answer_body new) noted.body ∙ sym (answer_body-append old new) ∙ ap answer_body (sym more);
      room = let room = noted.room in omega (arith, room, fits, length-append n.body (answer_body new));
    }

-- two at one place are one
one_of : {A : Type 0} (xs : List A) (j k : ℕ) (x y : A) → slice_get xs j ≡ Some x → slice_get xs k ≡ Some y → j ≡ k → x ≡ y
one_of xs j k x y first second same = let some : Some x ≡ Some y = sym first ∙ ap (slice_get xs) same ∙ second in cc

module _ (network : Network) (good : IsAccepted network) (journal : List Entry) (e : Entry) (so : IsLawfulSoFar network (journal ++ e ∷ [])) where
  abbrev pub next : NextEntry network e
  next = next_entry network good journal e so

  -- the entry asks
  pub entry_asks : is_request e.packet.cmd.op ≡ true
  entry_asks = ap is_request next.op ∙ request_asks next.txn.kind

  any_device : NetDevice
  any_device = record { name = []; base = 0; pages = 0; readonly = true; image = [] }

  abbrev dev : NetDevice
  dev = get_or network.devices e.device any_device

  dev_got : slice_get network.devices e.device ≡ Some dev
  dev_got = slice_get-get_or network.devices e.device any_device (last_placed network good journal e so).device

  -- all its bytes lie in its device's memory
  pub entry_in_range : (m : MemoryState) → IsStepped network journal e.device m → IsInRange m e.packet
  entry_in_range m is =
      let range = all_in_range e.packet dev (paged_device network e.device dev good dev_got).aligned (word_has network good journal e so dev dev_got) in
      let base : m.base ≡ dev.base = is.base ∙ ap (λ (x : MemoryState). x.base) (opened network e.device dev dev_got) in
      let long = is.size ∙ opened_long network e.device dev good dev_got in
      record { low = omega (arith, range.0, base); high = omega (arith, range.1, base, long) }

  -- what its device answers to it
  pub new_given : (m : MemoryState) → IsStepped network journal e.device m → (given : List Access) → answers_in m (accesses_of e.packet) ≡ map (λ a. Some a) given → new_answers network journal e next ≡ given
  new_given m is given are = ap (λ (x : MemoryState). answers_to x (accesses_of e.packet)) (sym is.stepped) ∙ answers_given m (accesses_of e.packet) given are

  pub new_none : (m : MemoryState) → IsStepped network journal e.device m → answers_in m (accesses_of e.packet) ≡ map (λ _. None) (accesses_of e.packet) → new_answers network journal e next ≡ []
  new_none m is are = ap (λ (x : MemoryState). answers_to x (accesses_of e.packet)) (sym is.stepped) ∙ answers_none m (accesses_of e.packet) are

  -- the place of its host, and the number of its transaction
  pub place_is : (o : Option ℕ) (k : ℕ) → o ≡ Some k → o ≡ position_from (λ h. h.id == e.packet.cmd.host) 0 network.hosts → k ≡ next.found.place
  place_is o k some at = let same : Some k ≡ Some (0 + next.found.place) = sym some ∙ at ∙ next.found.first in let k_is : k ≡ 0 + next.found.place = cc in omega (arith, k_is)

  pub place_some : (o : Option ℕ) → o ≡ None → o ≡ position_from (λ h. h.id == e.packet.cmd.host) 0 network.hosts → ⊥
  place_some o none at = let same : None ≡ Some (0 + next.found.place) = sym none ∙ at ∙ next.found.first in cc

  pub number_is : (a : Packet) → a.dst ≡ e.packet.src → transaction_number a.dst ≡ next.number
  number_is a back = ap transaction_number back ∙ next.is_number

  module _ (g : Gathered) (gathers : Gathers network journal g) where
    -- the memory of its device, before it
    pub memory_there : (k : ℕ) (m : MemoryState) → k ≡ e.device → m ≡ get_or g.memories.items k m → IsStepped network journal e.device m
    memory_there k m is at =
        let here : get_or g.memories.items e.device m ≡ m = ap (λ (n : ℕ). get_or g.memories.items n m) (sym is) ∙ sym at in
        subst (IsStepped network journal e.device) here (gathers.memories e.device m (last_placed network good journal e so).device)

    -- the notes of its host
    pub row : IsRow g.notes.items next.found.place next.found.host
    row = row_there g.notes.items network.hosts next.found.place next.found.host gathers.note_counts next.found.at

    pub place_there : (k : ℕ) → k ≡ next.found.place → k < length g.notes.items
    place_there k is = rw is row.inside

    number_there : next.number < length (get_or g.notes.items next.found.place [])
    number_there = let long = row.long in let inside = slice_get_within next.found.host.script next.number next.txn next.there in omega (arith, long, inside)

    pub index_there : (k i : ℕ) → k ≡ next.found.place → i ≡ next.number → i < length (get_or g.notes.items k [])
    index_there k i host number = rw (host, number) number_there

    own_noted : AreNoted network journal next.found.host next.number next.txn (noted_at g.notes.items next.found.place next.number)
    own_noted = gathers.notes next.found.place next.number next.found.host next.txn next.found.at next.there

    -- there is room for what is answered to it
    pub room_there : length (answer_body (new_answers network journal e next)) ≤ (noted_at g.notes.items next.found.place next.number).room
    room_there =
        let new = new_answers network journal e next in
        let old = replies_so_far network journal next.found.host next.number next.txn in
        let short = replies_short network (journal ++ e ∷ []) good so next.found.place next.found.host next.found.at next.number next.txn next.there in
        let all : length (answer_body (replies_so_far network (journal ++ e ∷ []) next.found.host next.number next.txn)) ≡ length (answer_body old) + length (answer_body new) =
        ap (λ (l : List Access). length (answer_body l)) (replies_more network journal e next) ∙ ap length (answer_body-append old new) ∙ length-append (answer_body old) (answer_body new) in
        let body = ap length own_noted.body in
        let room = own_noted.room in
        omega (arith, short, all, body, room)

    -- a packet whose words are the answers brings no more bytes than there is room for
    pub room_given : (a : Packet) (k i : ℕ) → k ≡ next.found.place → i ≡ next.number → new_answers network journal e next ≡ accesses_of a → length (message_of a).bytes ≤ (noted_at g.notes.items k i).room
    room_given a k i host number given =
        let body : answer_body (new_answers network journal e next) ≡ (message_of a).bytes = ap answer_body given ∙ body_of_packet a in
        let fits : length (message_of a).bytes ≤ (noted_at g.notes.items next.found.place next.number).room = subst (λ (l : List ℕ). length l ≤ (noted_at g.notes.items next.found.place next.number).room) body room_there in
        rw (host, number) fits

    -- the host at another place has another id
    other_id : (k : ℕ) (host : NetHost) → slice_get network.hosts k ≡ Some host → k ≢ next.found.place → host.id ≢ next.found.host.id
    other_id k host at other = by_order (cases_lt k next.found.place)
      where
        by_order : (k < next.found.place) ⊎ (next.found.place ≤ k) → host.id ≢ next.found.host.id
        by_order (inl below) = one_host network good k next.found.place host next.found.host at next.found.at below
        by_order (inr above) = λ same. one_host network good next.found.place k next.found.host host next.found.at at (omega (arith, above, other)) (sym same)

    -- the notes after it: the answers to it are noted, or there are none
    abbrev pub NotesAfter : List (List NotedAnswers) → Type 0
    NotesAfter notes = (notes ≡ notes_with g.notes.items next.found.place next.number (answer_code (new_answers network journal e next)) (answer_body (new_answers network journal e next)))
        ⊎ ((new_answers network journal e next ≡ []) × (notes ≡ g.notes.items))

    -- where a packet's words are the answers, noting it notes them
    pub notes_given : (notes : List (List NotedAnswers)) (a : Packet) (k i : ℕ) → k ≡ next.found.place → i ≡ next.number → new_answers network journal e next ≡ accesses_of a
        → notes ≡ notes_with g.notes.items k i a.cmd.tail (message_of a).bytes → NotesAfter notes
    notes_given notes a k i host number given is =
        let code : answer_code (new_answers network journal e next) ≡ a.cmd.tail = ap answer_code given ∙ code_of_packet a in
        let body : answer_body (new_answers network journal e next) ≡ (message_of a).bytes = ap answer_body given ∙ body_of_packet a in
        inl (is ∙ ap (λ (n : ℕ). notes_with g.notes.items n i a.cmd.tail (message_of a).bytes) host ∙ ap (λ (n : ℕ). notes_with g.notes.items next.found.place n a.cmd.tail (message_of a).bytes) number
        ∙ ap (λ (n : ℕ). notes_with g.notes.items next.found.place next.number n (message_of a).bytes) (sym code)
        ∙ ap (notes_with g.notes.items next.found.place next.number (answer_code (new_answers network journal e next))) (sym body))

    abbrev new : List Access
    new = new_answers network journal e next

    -- the notes of a transaction after it
    notes_after : (notes : List (List NotedAnswers)) → NotesAfter notes → (k i : ℕ) (host : NetHost) (t : Txn) → slice_get network.hosts k ≡ Some host → slice_get host.script i ≡ Some t
        → AreNoted network (journal ++ e ∷ []) host i t (noted_at notes k i)
    notes_after notes (inr (none, same)) k i host t at there =
        subst (λ (n : List (List NotedAnswers)). AreNoted network (journal ++ e ∷ []) host i t (noted_at n k i)) (sym same)
        (noted_alike network journal (journal ++ e ∷ []) host i t (noted_at g.notes.items k i) (by_place (cases_eq k next.found.place) (cases_eq i next.number)) (gathers.notes k i host t at there))
      where
        by_place : (k ≡ next.found.place) ⊎ (k ≢ next.found.place) → (i ≡ next.number) ⊎ (i ≢ next.number) → replies_so_far network (journal ++ e ∷ []) host i t ≡ replies_so_far network journal host i t
        by_place (inr other) number = replies_same network journal e next host i t (inl (other_id k host at other))
        by_place (inl same) (inr other) = replies_same network journal e next host i t (inr other)
        by_place (inl same) (inl equal) =
            let host_is : host ≡ next.found.host = one_of network.hosts k next.found.place host next.found.host at next.found.at same in
            let there_too : slice_get next.found.host.script i ≡ Some t = subst (λ (h : NetHost). slice_get h.script i ≡ Some t) host_is there in
            let t_is : t ≡ next.txn = one_of next.found.host.script i next.number t next.txn there_too next.there equal in
            let more = replies_more network journal e next ∙ ap (λ (l : List Access). replies_so_far network journal next.found.host next.number next.txn ++ l) none
            ∙ append-nil (replies_so_far network journal next.found.host next.number next.txn) in
            rw (host_is, equal, t_is) more
    notes_after notes (inl with) k i host t at there = by_place (cases_eq k next.found.place) (cases_eq i next.number)
      where
        code : ℕ
        code = answer_code new

        elsewhere : (k ≢ next.found.place) ⊎ ((k ≡ next.found.place) × (i ≢ next.number)) → (host.id ≢ next.found.host.id) ⊎ (i ≢ next.number) → AreNoted network (journal ++ e ∷ []) host i t (noted_at notes k i)
        elsewhere away other =
            let same : noted_at notes k i ≡ noted_at g.notes.items k i =
            ap (λ (n : List (List NotedAnswers)). noted_at n k i) with ∙ noted_elsewhere g.notes.items next.found.place next.number code (answer_body new) k i row.inside away in
            subst (AreNoted network (journal ++ e ∷ []) host i t) (sym same)
            (noted_alike network journal (journal ++ e ∷ []) host i t (noted_at g.notes.items k i) (replies_same network journal e next host i t other) (gathers.notes k i host t at there))

        here : AreNoted network (journal ++ e ∷ []) next.found.host next.number next.txn (noted_at notes next.found.place next.number)
        here =
            let same : noted_at notes next.found.place next.number ≡ with_reply (noted_at g.notes.items next.found.place next.number) code (answer_body new) =
            ap (λ (n : List (List NotedAnswers)). noted_at n next.found.place next.number) with ∙ noted_here g.notes.items next.found.place next.number code (answer_body new) row.inside number_there in
            subst (AreNoted network (journal ++ e ∷ []) next.found.host next.number next.txn) (sym same)
            (noted_with network journal (journal ++ e ∷ []) next.found.host next.number next.txn (noted_at g.notes.items next.found.place next.number) new (replies_more network journal e next) room_there own_noted)

        by_place : (k ≡ next.found.place) ⊎ (k ≢ next.found.place) → (i ≡ next.number) ⊎ (i ≢ next.number) → AreNoted network (journal ++ e ∷ []) host i t (noted_at notes k i)
        by_place (inr other) number = elsewhere (inl other) (inl (other_id k host at other))
        by_place (inl same) (inr other) = elsewhere (inr (same, other)) (inr other)
        by_place (inl same) (inl equal) =
            let host_is : host ≡ next.found.host = one_of network.hosts k next.found.place host next.found.host at next.found.at same in
            let there_too : slice_get next.found.host.script i ≡ Some t = subst (λ (h : NetHost). slice_get h.script i ≡ Some t) host_is there in
            let t_is : t ≡ next.txn = one_of next.found.host.script i next.number t next.txn there_too next.there equal in
            rw (host_is, t_is, same, equal) here

    -- the memories after it
    memories_after : (before m : MemoryState) → IsStepped network journal e.device before → m ≡ memory_after before (accesses_of e.packet) → m.base ≡ before.base → length m.bytes ≡ length before.bytes
        → (d : ℕ) (none : MemoryState) → d < length network.devices → IsStepped network (journal ++ e ∷ []) d (get_or (set g.memories.items e.device m) d none)
    memories_after before m is stepped base size d none below = by_device (cases_eq d e.device)
      where
        here : IsStepped network (journal ++ e ∷ []) e.device m
        here = record {
          stepped = stepped ∙ ap (λ (x : MemoryState). memory_after x (accesses_of e.packet)) is.stepped
              ∙ sym (memory_after-append (opening_memory network e.device) (journal_accesses journal e.device) (accesses_of e.packet))
              ∙ ap (memory_after (opening_memory network e.device)) (sym (journal_more journal e e.device refl));
          base = base ∙ is.base;
          size = size ∙ is.size;
        }

        by_device : (d ≡ e.device) ⊎ (d ≢ e.device) → IsStepped network (journal ++ e ∷ []) d (get_or (set g.memories.items e.device m) d none)
        by_device (inl same) =
            let device_below = (last_placed network good journal e so).device in
            let count = gathers.memory_count in
            let at : get_or (set g.memories.items e.device m) e.device none ≡ m = get_or-set_same g.memories.items e.device m none (omega (arith, device_below, count)) in
            rw same (subst (IsStepped network (journal ++ e ∷ []) e.device) (sym at) here)
        by_device (inr other) =
            let same = gathers.memories d none below in
            let at : get_or (set g.memories.items e.device m) d none ≡ get_or g.memories.items d none = get_or-set_other g.memories.items e.device d m none other in
            subst (IsStepped network (journal ++ e ∷ []) d) (sym at) (record {
              stepped = same.stepped ∙ ap (memory_after (opening_memory network d)) (sym (journal_same journal e d (λ equal. other (sym equal))));
              base = same.base;
              size = same.size;
            })

    -- What is gathered, and the entry, are what is gathered with the entry.
    pub gathered_more : (after : Gathered) (before m : MemoryState) → IsStepped network journal e.device before → after.memories.items ≡ set g.memories.items e.device m → m ≡ memory_after before (accesses_of e.packet)
        → m.base ≡ before.base → length m.bytes ≡ length before.bytes → NotesAfter after.notes.items → Gathers network (journal ++ e ∷ []) after
    gathered_more after before m is memories stepped base size notes = record {
      memory_count = ap length memories ∙ length-set g.memories.items e.device m ∙ gathers.memory_count;
      memories = λ d none below. subst (λ (l : List MemoryState). IsStepped network (journal ++ e ∷ []) d (get_or l d none)) (sym memories) (memories_after before m is stepped base size d none below);
      note_counts = counts notes;
      notes = λ k i host t at there. notes_after after.notes.items notes k i host t at there;
    }
      where
        counts : NotesAfter after.notes.items → map length after.notes.items ≡ map (λ h. length h.script) network.hosts
        counts (inl with) = ap (map length) with ∙ rows_as_long g.notes.items next.found.place next.number (answer_code new) (answer_body new) ∙ gathers.note_counts
        counts (inr (none, same)) = ap (map length) same ∙ gathers.note_counts
