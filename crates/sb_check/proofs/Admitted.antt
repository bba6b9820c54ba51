-- An entry that comes next, and one that can't.
use Rattle.std.proofs.Common.{◌≡◌, ◌≤◌, ◌<◌, ℕ, Bool, true, false, List, [], ◌∷◌, ◌++◌, length, get_or, refl, ap, sym, ◌∙◌, subst, arith, inl, inr, Option, Some, None, append-nil, append_assoc, eq-eqb, ne_eqb}
use Rattle.std.specs.Prelude.{◌==◌, ◌≢◌, ◌&&◌, All, Contains, IsSomeAnd, map, slice_get}
use Rattle.std.proofs.lemmas.Bool.{and_parts, cases_eq, cases_lt, false≢true}
use Rattle.std.proofs.lemmas.List.{append_cancel_left, get_or_push, length_push, get_or-map, length-map}
use Rattle.std.proofs.lemmas.List.Elements.{All-push, Contains-get_or, filter-append, filter_passes}
use Rattle.std.proofs.lemmas.Option.{get_or_from_slice_get, slice_get-get_or, slice_get_within}
use Rattle.sb_packet.specs.Accesses.{Access, access_at, accesses_of}
use Rattle.sb_packet.specs.Messages.{message_of}
use Rattle.sb_packet.specs.Spans.{span_of}
use Rattle.sb_packet.specs.Networks.{NetHost, Network, width_to}
use Rattle.sb_packet.specs.Scripts.{script_accesses}
use Rattle.sb_packet.specs.Journals.{IsPlaced, flow_part, is_at, is_in_round_order, journal_accesses}
use Rattle.sb_packet.specs.declared.entry.Entry.{Entry}
use Rattle.sb_packet.proofs.Lists.{All-left, All-made, filter_all, filter_none}
use Rattle.sb_flow.specs.Accepted.{repeated_id}
use Rattle.sb_flow.proofs.Clashes.{no_clash}
use Rattle.sb_check.specs.Beginnings.{IsLawfulSoFar}
use Rattle.sb_link.specs.Prefixes.{IsPrefix}
use Rattle.sb_check.specs.Progresses.{HasReached, IsNextWord, IsWordAt, last_entry, next_at, words_left}
use Rattle.sb_check.specs.Spelling.{IsEntryInRange}
use Rattle.sb_check.specs.declared.next_word.NextWord.{NextWord}
use Rattle.sb_check.specs.declared.progress.Progress.{Progress}
use Rattle.sb_check.proofs.EntryLemmas.{no_some, some_has}
use Rattle.sb_check.proofs.JournalGrowth.{grows_elsewhere, grows_here, last_is, may_stand, order_more}

both_true : (a b : Bool) → a ≡ true → b ≡ true → (a && b) ≡ true
both_true a b first second = rw (first, second) refl

-- what follows of what is there
some_then : {A : Type 0} (o : Option A) (P Q : A → Type 0) → ((x : A) → P x → Q x) → IsSomeAnd o P → IsSomeAnd o Q
some_then None P Q h some = some
some_then (Some x) P Q h some = h x some

-- hosts at two places have two ids
other_id : (network : Network) (h k : ℕ) (host other : NetHost) → repeated_id network ≡ None → slice_get network.hosts h ≡ Some host → slice_get network.hosts k ≡ Some other → k ≢ h → (host.id == other.id) ≡ false
other_id network h k host other ids at at_other apart = elim (cases_lt h k) [
  | inl before ↦
      let differ = no_clash (λ (x y : NetHost). x.id == y.id) network.hosts h k host ids before (slice_get_within network.hosts k other at_other) in
      let first = get_or_from_slice_get network.hosts h host host at in
      let second = get_or_from_slice_get network.hosts k other host at_other in
      ne_eqb host.id other.id (λ same. false≢true (sym differ ∙ eq-eqb (get_or network.hosts k host).id (get_or network.hosts h host).id (ap (λ (x : NetHost). x.id) second ∙ sym same ∙ sym (ap (λ (x : NetHost). x.id) first))))
  | inr behind ↦
      let less : k < h = omega arith in
      let differ = no_clash (λ (x y : NetHost). x.id == y.id) network.hosts k h host ids less (slice_get_within network.hosts h host at) in
      let first = get_or_from_slice_get network.hosts h host host at in
      let second = get_or_from_slice_get network.hosts k other host at_other in
      ne_eqb host.id other.id (λ same. false≢true (sym differ ∙ eq-eqb (get_or network.hosts h host).id (get_or network.hosts k host).id (ap (λ (x : NetHost). x.id) first ∙ same ∙ sym (ap (λ (x : NetHost). x.id) second))))
]

-- what is at the place of an entry's host and device when the entry came, and becomes of it
pub record IsTaken (network : Network) (before after : Progress) (e : Entry) (h : ℕ) (host : NetHost) (next later : NextWord) : Type 0 where
  pub at : slice_get network.hosts h ≡ Some host
  pub own : host.id ≡ e.packet.cmd.host
  pub was : next_at before h e.device ≡ Some next
  pub place : IsWordAt network host e.device later
  pub left : words_left network host e.device next ≡ accesses_of e.packet ++ words_left network host e.device later
  pub here : next_at after h e.device ≡ Some later
  pub other_hosts : (k d : ℕ) → k ≢ h → next_at after k d ≡ next_at before k d
  pub other_devices : (k d : ℕ) → d ≢ e.device → next_at after k d ≡ next_at before k d
  pub last : after.last ≡ Some e
  pub order : may_stand before.last e ≡ true
  pub narrow : span_of e.packet.cmd ≤ width_to network e.device

-- a word is of a host, and at a device
abbrev is_of : Network → NetHost → ℕ → Access → Bool
is_of network host d a = (a.host == host.id) && is_at network d a

-- an entry's words are not another host's
not_of_other : (network : Network) (e : Entry) (other : NetHost) (d : ℕ) → (e.packet.cmd.host == other.id) ≡ false → flow_part network other d (accesses_of e.packet) ≡ []
not_of_other network e other d differ =
    let m = message_of e.packet in
    filter_none (is_of network other d) (accesses_of e.packet) (All-made (λ a. is_of network other d a ≡ false) (access_at m) m.count (λ j below. rw differ refl))

module _ (network : Network) (before : Progress) (journal : List Entry) (e : Entry) (ids : repeated_id network ≡ None) (reached : HasReached network before journal) (range : IsEntryInRange network e) where
  pub next_word : (h : ℕ) (host : NetHost) (next : NextWord) → slice_get network.hosts h ≡ Some host → next_at before h e.device ≡ Some next → IsNextWord network journal host e.device next
  next_word h host next at was = some_has (next_at before h e.device) (IsNextWord network journal host e.device) next was (reached.words h e.device host at range.device)

  -- the words of the flow of a host at the entry's device, with the entry
  flow_grows : (host : NetHost) (words : List Access) → flow_part network host e.device (accesses_of e.packet) ≡ words → flow_part network host e.device (journal_accesses (journal ++ e ∷ []) e.device) ≡ flow_part network host e.device (journal_accesses journal e.device) ++ words
  flow_grows host words own =
      ap (flow_part network host e.device) (grows_here journal e) ∙ filter-append (is_of network host e.device) (journal_accesses journal e.device) (accesses_of e.packet)
      ∙ ap (λ (l : List Access). flow_part network host e.device (journal_accesses journal e.device) ++ l) own

  module _ (after : Progress) (h : ℕ) (host : NetHost) (next later : NextWord) (taken : IsTaken network before after e h host next later) where
    -- all words of the entry are its host's, at its device
    own_words : All (λ a. is_of network host e.device a ≡ true) (accesses_of e.packet)
    own_words = All-left (λ a. is_of network host e.device a ≡ true) (accesses_of e.packet) (words_left network host e.device later)
        (subst (All (λ a. is_of network host e.device a ≡ true)) taken.left (filter_passes (is_of network host e.device) _))

    -- the next word there is the one behind
    here_next : IsNextWord network (journal ++ e ∷ []) host e.device later
    here_next =
        let old = next_word h host next taken.at taken.was in
        let came = flow_part network host e.device (journal_accesses journal e.device) in
        record {
          place = taken.place;
          joined = ap (λ (l : List Access). l ++ words_left network host e.device later) (flow_grows host (accesses_of e.packet) (filter_all (is_of network host e.device) (accesses_of e.packet) own_words))
              ∙ append_assoc came (accesses_of e.packet) (words_left network host e.device later) ∙ ap (λ (l : List Access). came ++ l) (sym taken.left) ∙ old.joined;
        }

    -- the next words of other hosts there are the same
    other_host_next : (k : ℕ) (other : NetHost) (word : NextWord) → slice_get network.hosts k ≡ Some other → k ≢ h → IsNextWord network journal other e.device word → IsNextWord network (journal ++ e ∷ []) other e.device word
    other_host_next k other word at apart old =
        let differ : (e.packet.cmd.host == other.id) ≡ false = ap (λ (n : ℕ). n == other.id) (sym taken.own) ∙ other_id network h k host other ids taken.at at apart in
        record {
          place = old.place;
          joined = ap (λ (l : List Access). l ++ words_left network other e.device word)
              (flow_grows other [] (not_of_other network e other e.device differ) ∙ append-nil (flow_part network other e.device (journal_accesses journal e.device))) ∙ old.joined;
        }

    -- and so are those at other devices
    other_device_next : (d : ℕ) (other : NetHost) (word : NextWord) → d ≢ e.device → IsNextWord network journal other d word → IsNextWord network (journal ++ e ∷ []) other d word
    other_device_next d other word apart old = record {
      place = old.place;
      joined = ap (λ (l : List Access). flow_part network other d l ++ words_left network other d word) (grows_elsewhere journal e d apart) ∙ old.joined;
    }

    -- all together
    all_next : (k d : ℕ) (other : NetHost) → slice_get network.hosts k ≡ Some other → d < length network.devices → IsSomeAnd (next_at after k d) (IsNextWord network (journal ++ e ∷ []) other d)
    all_next k d other at there = elim (cases_eq d e.device) [
      | inr apart ↦ subst (λ (o : Option NextWord). IsSomeAnd o (IsNextWord network (journal ++ e ∷ []) other d)) (sym (taken.other_devices k d apart))
          (some_then (next_at before k d) (IsNextWord network journal other d) (IsNextWord network (journal ++ e ∷ []) other d) (λ word old. other_device_next d other word apart old) (reached.words k d other at there))
      | inl same ↦ subst (λ (n : ℕ). IsSomeAnd (next_at after k n) (IsNextWord network (journal ++ e ∷ []) other n)) (sym same) (at_device k other at)
    ]
      where
        at_device : (k : ℕ) (other : NetHost) → slice_get network.hosts k ≡ Some other → IsSomeAnd (next_at after k e.device) (IsNextWord network (journal ++ e ∷ []) other e.device)
        at_device k other at = elim (cases_eq k h) [
          | inr apart ↦ subst (λ (o : Option NextWord). IsSomeAnd o (IsNextWord network (journal ++ e ∷ []) other e.device)) (sym (taken.other_hosts k e.device apart))
              (some_then (next_at before k e.device) (IsNextWord network journal other e.device) (IsNextWord network (journal ++ e ∷ []) other e.device) (λ word old. other_host_next k other word at apart old) (reached.words k e.device other at range.device))
          | inl same ↦
              let one : Some other ≡ Some host = sym at ∙ ap (slice_get network.hosts) same ∙ taken.at in
              let is : other ≡ host = cc in
              subst (λ (o : Option NextWord). IsSomeAnd o (IsNextWord network (journal ++ e ∷ []) other e.device)) (sym (ap (λ (n : ℕ). next_at after n e.device) same ∙ taken.here))
              (subst (λ (x : NetHost). IsNextWord network (journal ++ e ∷ []) x e.device later) (sym is) here_next)
        ]

    begins_by : (d : ℕ) (other : NetHost) (o : Option NextWord) → IsSomeAnd o (IsNextWord network (journal ++ e ∷ []) other d)
        → IsPrefix (flow_part network other d (journal_accesses (journal ++ e ∷ []) d)) (flow_part network other d (script_accesses other))
    begins_by d other None none = absurd none
    begins_by d other (Some word) at = record { rest = words_left network other d word; joined = at.joined }

    -- The entry was lawful, and the scripts are so far with it.
    pub taken_reached : HasReached network after (journal ++ e ∷ [])
    taken_reached = record {
      lawful = record {
        in_script_order = λ k x below d. elim (cases_eq d e.device) [
          | inr apart ↦ subst (λ (l : List Access). IsPrefix (flow_part network (get_or network.hosts k x) d l) (flow_part network (get_or network.hosts k x) d (script_accesses (get_or network.hosts k x))))
              (sym (grows_elsewhere journal e d apart)) (reached.lawful.in_script_order k x below d)
          | inl same ↦ begins_by d (get_or network.hosts k x) (next_at after k d) (all_next k d (get_or network.hosts k x) (slice_get-get_or network.hosts k x below) (omega (arith, range.device)))
        ];
        at_target = All-push (IsPlaced network) journal e reached.lawful.at_target (record {
          host = subst (Contains (map (λ h. h.id) network.hosts)) own_id (Contains-get_or (map (λ h. h.id) network.hosts) h 0 (omega (arith, slice_get_within network.hosts h host taken.at, length-map network.hosts (λ (h : NetHost). h.id))));
          device = range.device;
          aimed = λ i x below. (and_parts ((get_or (accesses_of e.packet) i x).host == host.id) (is_at network e.device (get_or (accesses_of e.packet) i x)) (own_words i x below)).1;
          narrow = taken.narrow;
        });
        in_round_order = order_more journal e ∙ ap (λ (b : Bool). b && may_stand (last_entry journal) e) reached.lawful.in_round_order ∙ ap (λ (last : Option Entry). may_stand last e) (sym reached.last) ∙ taken.order;
      };
      words = all_next;
      last = taken.last ∙ sym (last_is journal e);
    }
      where
        own_id : get_or (map (λ h. h.id) network.hosts) h 0 ≡ e.packet.cmd.host
        own_id = get_or-map (λ (h : NetHost). h.id) network.hosts h host 0 (slice_get_within network.hosts h host taken.at) ∙ ap (λ (h : NetHost). h.id) (get_or_from_slice_get network.hosts h host host taken.at) ∙ taken.own

  -- An entry that is lawful so far is at its target.
  pub placed : IsLawfulSoFar network (journal ++ e ∷ []) → IsPlaced network e
  placed lawful = subst (IsPlaced network) (get_or_push journal e e (length journal) refl) (lawful.at_target (length journal) e (omega (arith, length_push journal e)))

  -- it stands behind the last one
  pub not_out_of_order : may_stand before.last e ≡ false → IsLawfulSoFar network (journal ++ e ∷ []) → ⊥
  not_out_of_order out lawful =
      let both = and_parts (is_in_round_order journal) (may_stand (last_entry journal) e) (sym (order_more journal e) ∙ lawful.in_round_order) in
      false≢true (sym out ∙ ap (λ (last : Option Entry). may_stand last e) reached.last ∙ both.1)

  -- there is a next word of its host at its device
  pub next_is_there : (h : ℕ) (host : NetHost) → slice_get network.hosts h ≡ Some host → next_at before h e.device ≡ None → ⊥
  next_is_there h host at none = no_some (next_at before h e.device) (IsNextWord network journal host e.device) none (reached.words h e.device host at range.device)

  -- and its words are those from there on
  pub words_are_next : (h : ℕ) (host : NetHost) (next : NextWord) → slice_get network.hosts h ≡ Some host → host.id ≡ e.packet.cmd.host → next_at before h e.device ≡ Some next → IsLawfulSoFar network (journal ++ e ∷ [])
      → IsPrefix (accesses_of e.packet) (words_left network host e.device next)
  words_are_next h host next at own was lawful =
      let m = message_of e.packet in
      let old = next_word h host next at was in
      let came = flow_part network host e.device (journal_accesses journal e.device) in
      let aimed = (placed lawful).aimed in
      let hosts : All (λ a. a.host ≡ e.packet.cmd.host) (accesses_of e.packet) = All-made (λ a. a.host ≡ e.packet.cmd.host) (access_at m) m.count (λ j below. refl) in
      let own_words : flow_part network host e.device (accesses_of e.packet) ≡ accesses_of e.packet =
      filter_all (is_of network host e.device) (accesses_of e.packet) (λ i x below. both_true ((get_or (accesses_of e.packet) i x).host == host.id) (is_at network e.device (get_or (accesses_of e.packet) i x)) (eq-eqb (get_or (accesses_of e.packet) i x).host host.id (hosts i x below ∙ sym own)) (aimed i x below)) in
      let inside = slice_get_within network.hosts h host at in
      let is : get_or network.hosts h host ≡ host = get_or_from_slice_get network.hosts h host host at in
      let begins = subst (λ (x : NetHost). IsPrefix (flow_part network x e.device (journal_accesses (journal ++ e ∷ []) e.device)) (flow_part network x e.device (script_accesses x))) is (lawful.in_script_order h host inside e.device) in
      record {
        rest = begins.rest;
        joined = append_cancel_left came (accesses_of e.packet ++ begins.rest) (words_left network host e.device next)
            (sym (append_assoc came (accesses_of e.packet) begins.rest) ∙ ap (λ (l : List Access). l ++ begins.rest) (sym (flow_grows host (accesses_of e.packet) own_words)) ∙ begins.joined ∙ sym old.joined);
      }
