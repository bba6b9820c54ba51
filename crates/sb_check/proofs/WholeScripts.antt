-- Before anything has come, and when all has.
use Rattle.std.proofs.Common.{◌≡◌, ◌≤◌, ◌<◌, ℕ, zero, suc, ◌+◌, Bool, true, false, cond, List, [], ◌∷◌, ◌++◌, length, get_or, drop, refl, ap, sym, ◌∙◌, subst, arith, inl, inr, Option, Some, None, append-nil, length-append, ne_eqb}
use Rattle.std.specs.Prelude.{◌==◌, ◌&&◌, All, IsSomeAnd, option_and_then, slice_get}
use Rattle.std.specs.List.{position_from}
use Rattle.std.specs.Option.{option_map_or}
use Rattle.std.proofs.lemmas.Bool.{cases_lt}
use Rattle.std.proofs.lemmas.List.{length-drop}
use Rattle.std.proofs.lemmas.List.Elements.{All-nil}
use Rattle.std.proofs.lemmas.Option.{slice_get-get_or, slice_get_within, get_or_from_slice_get}
use Rattle.sb_packet.specs.Accesses.{Access}
use Rattle.sb_packet.specs.Networks.{NetHost, Network, device_at, has_address}
use Rattle.sb_packet.specs.Scripts.{IsTransaction, script_accesses, transaction_accesses, transaction_message}
use Rattle.sb_packet.specs.Journals.{IsLawful, IsPlaced, device_address, flow_part, is_at, journal_accesses}
use Rattle.sb_packet.specs.declared.entry.Entry.{Entry}
use Rattle.sb_packet.specs.declared.transaction.Txn.{Txn}
use Rattle.sb_packet.proofs.Lists.{filter_none}
use Rattle.sb_flow.specs.Accepted.{misplaced_device}
use Rattle.sb_check.specs.Progresses.{HasReached, IsDoneAt, IsNextWord, IsWordAt, next_at, row_next, script_from, words_left}
use Rattle.sb_check.specs.declared.host_progress.HostProgress.{HostProgress}
use Rattle.sb_check.specs.declared.next_word.NextWord.{NextWord}
use Rattle.sb_check.specs.declared.progress.Progress.{Progress}
use Rattle.sb_check.proofs.MessageParts.{word_number}
use Rattle.sb_check.proofs.ScriptWords.{at_place, left_here, left_none}

-- Before anything has come, all words of a flow are left.
pub first_next : (network : Network) (host : NetHost) (d : ℕ) (next : NextWord) → IsWordAt network host d next → words_left network host d next ≡ flow_part network host d (script_from host 0) → IsNextWord network [] host d next
first_next network host d next place left = record { place = place; joined = left }

pub nothing_reached : (network : Network) (progress : Progress) → ((h d : ℕ) (host : NetHost) → slice_get network.hosts h ≡ Some host → d < length network.devices → IsSomeAnd (next_at progress h d) (IsNextWord network [] host d)) → progress.last ≡ None
    → HasReached network progress []
nothing_reached network progress words none = record {
  lawful = record {
    in_script_order = λ k x below d. record { rest = flow_part network (get_or network.hosts k x) d (script_accesses (get_or network.hosts k x)); joined = refl };
    at_target = All-nil (IsPlaced network);
    in_round_order = refl;
  };
  words = words;
  last = none;
}

-- a table with an item more, of which something holds at each place
pub item_more : {A : Type 0} (P : ℕ → A → Type 0) (items : List A) (x : A) (n : ℕ) → length items ≡ n → ((k : ℕ) → k < n → IsSomeAnd (slice_get items k) (P k)) → P n x → (k : ℕ) → k < n + 1 → IsSomeAnd (slice_get (items ++ x ∷ []) k) (P k)
item_more P [] x n long each this zero below = let none : n ≡ zero = omega (arith, long) in subst (λ (m : ℕ). P m x) none this
item_more P [] x n long each this (suc k) below = absurd (omega (arith, long))
item_more P (y ∷ items) x n long each this zero below = each zero (omega (arith, long))
item_more P (y ∷ items) x n long each this (suc k) below =
    let m = length items in
    let is : n ≡ suc m = sym long in
    item_more (λ j. P (suc j)) items x m refl (λ j less. each (suc j) (omega (arith, is))) (subst (λ (i : ℕ). P i x) is this) k (omega (arith, is))

-- the rows of hosts for which nothing has come
abbrev pub IsFirstRow : Network → ℕ → HostProgress → Type 0
IsFirstRow network h row = (d : ℕ) (host : NetHost) → slice_get network.hosts h ≡ Some host → d < length network.devices → IsSomeAnd (row_next row d) (IsNextWord network [] host d)

pub first_row : (network : Network) (h : ℕ) (own : NetHost) (row : HostProgress) → slice_get network.hosts h ≡ Some own → ((d : ℕ) → d < length network.devices → IsSomeAnd (row_next row d) (IsNextWord network [] own d)) → IsFirstRow network h row
first_row network h own row at_own first d host at there =
    let one : Some own ≡ Some host = sym at_own ∙ at in
    let same : own ≡ host = cc in
    subst (λ (x : NetHost). IsSomeAnd (row_next row d) (IsNextWord network [] x d)) same (first d there)

pub first_rows : (network : Network) (progress : Progress) (h d : ℕ) (host : NetHost) → IsSomeAnd (slice_get progress.hosts.items h) (IsFirstRow network h) → slice_get network.hosts h ≡ Some host → d < length network.devices → IsSomeAnd (next_at progress h d) (IsNextWord network [] host d)
first_rows network progress h d host rows at there = by (slice_get progress.hosts.items h) rows
  where
    by : (o : Option HostProgress) → IsSomeAnd o (IsFirstRow network h) → IsSomeAnd (option_and_then (λ row. row_next row d) o) (IsNextWord network [] host d)
    by None none = none
    by (Some row) first = first d host at there

-- a place that is found is one of the list
place_below : {A : Type 0} (test : A → Bool) (s k : ℕ) (xs : List A) → position_from test s xs ≡ Some k → k < s + length xs
place_below test s k [] found = absurd (cc)
place_below {A} test s k (x ∷ xs) found = by (test x) found (place_below test (s + 1) k xs)
  where
    by : (b : Bool) → cond b (Some s) (position_from test (s + 1) xs) ≡ Some k → (position_from test (s + 1) xs ≡ Some k → k < s + 1 + length xs) → k < s + length (x ∷ xs)
    by true found later = let same : s ≡ k = cc in omega arith
    by false found later = let below = later found in omega arith

module _ (network : Network) where
  -- no word is at a device that there isn't
  not_beyond : (d : ℕ) (a : Access) → length network.devices ≤ d → is_at network d a ≡ false
  not_beyond d a beyond = by (device_at network (device_address a)) refl
    where
      by : (o : Option ℕ) → device_at network (device_address a) ≡ o → option_map_or (λ k. k == d) o false ≡ false
      by None found = refl
      by (Some k) found = let below = place_below (has_address (device_address a)) 0 k network.devices found in ne_eqb k d (λ same. omega arith)

  no_flow_beyond : (host : NetHost) (d : ℕ) (words : List Access) → length network.devices ≤ d → flow_part network host d words ≡ []
  no_flow_beyond host d words beyond =
      filter_none (λ a. (a.host == host.id) && is_at network d a) words
      (λ i x below. ap (λ (b : Bool). ((get_or words i x).host == host.id) && b) (not_beyond d (get_or words i x) beyond) ∙ and_false ((get_or words i x).host == host.id))
    where
      and_false : (b : Bool) → (b && false) ≡ false
      and_false true = refl
      and_false false = refl

module _ (network : Network) (progress : Progress) (journal : List Entry) (reached : HasReached network progress journal) (placed : misplaced_device network ≡ None) where
  -- where no word of a flow is left, the journal has all of them
  flow_done : (host : NetHost) (d : ℕ) (o : Option NextWord) → IsSomeAnd o (λ next. slice_get host.script next.transaction ≡ None) → IsSomeAnd o (IsNextWord network journal host d) → flow_part network host d (journal_accesses journal d) ≡ flow_part network host d (script_accesses host)
  flow_done host d None none next = absurd none
  flow_done host d (Some word) done next =
      sym (append-nil (flow_part network host d (journal_accesses journal d))) ∙ ap (λ (l : List Access). flow_part network host d (journal_accesses journal d) ++ l) (sym (left_none network host d placed word done)) ∙ next.joined

  -- Where none is left of any flow, the journal is lawful.
  pub all_done : ((h d : ℕ) → h < length network.hosts → d < length network.devices → IsDoneAt network progress h d) → IsLawful network journal
  all_done done = record {
    in_script_order = λ k x below d. elim (cases_lt d (length network.devices)) [
      | inl there ↦
          let host = get_or network.hosts k x in
          let at = slice_get-get_or network.hosts k x below in
          flow_done host d (next_at progress k d) (done k d below there host at) (reached.words k d host at there)
      | inr beyond ↦
          let host = get_or network.hosts k x in
          no_flow_beyond network host d (journal_accesses journal d) beyond ∙ sym (no_flow_beyond network host d (script_accesses host) beyond)
    ];
    at_target = reached.lawful.at_target;
    in_round_order = reached.lawful.in_round_order;
  }

  -- what is left of a flow that the journal has whole
  none_left : (host : NetHost) (d : ℕ) (word : NextWord) → All IsTransaction host.script → flow_part network host d (journal_accesses journal d) ≡ flow_part network host d (script_accesses host) → IsNextWord network journal host d word → slice_get host.script word.transaction ≡ None
  none_left host d word lines whole next = by (slice_get host.script word.transaction) refl
    where
      by : (o : Option Txn) → slice_get host.script word.transaction ≡ o → slice_get host.script word.transaction ≡ None
      by None got = got
      by (Some t) got =
          let i = word.transaction in
          let inside : word.word < t.count = next.place.within t got in
          let came = flow_part network host d (journal_accesses journal d) in
          let behind = flow_part network host d (script_from host (i + 1)) in
          let front = drop word.word (transaction_accesses host i t) in
          let some : 0 < length front = omega (arith, length-drop word.word (transaction_accesses host i t), word_number (transaction_message host i t)) in
          let same : came ++ (front ++ behind) ≡ came = ap (λ (l : List Access). came ++ l) (sym (left_here network host d placed word t lines next.place got)) ∙ next.joined ∙ sym whole in
          absurd (omega (arith, length-append came (front ++ behind), length-append front behind, ap length same))

  -- Where the journal is lawful, none is.
  pub lawful_done : All (λ h. All IsTransaction h.script) network.hosts → IsLawful network journal → (h d : ℕ) → d < length network.devices → IsDoneAt network progress h d
  lawful_done lines lawful h d there host at = by (next_at progress h d) (reached.words h d host at there)
    where
      own : get_or network.hosts h host ≡ host
      own = get_or_from_slice_get network.hosts h host host at

      whole : flow_part network host d (journal_accesses journal d) ≡ flow_part network host d (script_accesses host)
      whole = subst (λ (x : NetHost). flow_part network x d (journal_accesses journal d) ≡ flow_part network x d (script_accesses x)) own (lawful.in_script_order h host (slice_get_within network.hosts h host at) d)

      by : (o : Option NextWord) → IsSomeAnd o (IsNextWord network journal host d) → IsSomeAnd o (λ next. slice_get host.script next.transaction ≡ None)
      by None none = none
      by (Some word) next = none_left host d word (at_place (λ (h : NetHost). All IsTransaction h.script) network.hosts h host lines at) whole next
