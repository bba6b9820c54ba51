-- The words of a host's script at a device, transaction by transaction.
use Rattle.std.proofs.Common.{◌≡◌, ◌≤◌, ◌<◌, ℕ, zero, suc, ◌+◌, ◌*◌, ◌%◌, ◌^◌, Bool, true, false, List, [], ◌∷◌, ◌++◌, length, drop, refl, ap, sym, ◌∙◌, subst, arith, inl, inr, Some, None, eq-eqb, append-nil, append_assoc, length-append}
use Rattle.std.specs.Prelude.{◌==◌, ◌&&◌, All, flat_map, slice_get}
use Rattle.std.specs.List.{enumerate_from}
use Rattle.std.proofs.Math.Nat.{mul-le-mul_right}
use Rattle.std.proofs.lemmas.Nat.{pow_pos}
use Rattle.std.proofs.lemmas.List.{drop-append-le, drop_all, drop_more}
use Rattle.std.proofs.lemmas.List.Elements.{All-drop, filter-append}
use Rattle.std.proofs.lemmas.Option.{get_or_from_slice_get, slice_get_within}
use Rattle.sb_packet.specs.Accesses.{Access, access_at, accesses_of}
use Rattle.sb_packet.specs.Messages.{message_of, message_span}
use Rattle.sb_packet.specs.Networks.{NetHost, Network}
use Rattle.sb_packet.specs.Scripts.{IsTransaction, transaction_accesses, transaction_message}
use Rattle.sb_packet.specs.Journals.{flow_part, is_at}
use Rattle.sb_packet.specs.declared.packet.Packet.{Packet}
use Rattle.sb_packet.specs.declared.transaction.Txn.{Txn}
use Rattle.sb_packet.proofs.Lists.{All-made, filter_all, filter_none}
use Rattle.sb_packet.proofs.Opcodes.{carries_none_or_all, some_words}
use Rattle.sb_packet.proofs.FineParts.{packet_whole}
use Rattle.sb_flow.specs.Accepted.{misplaced_device}
use Rattle.sb_flow.specs.Ways.{is_aimed_at}
use Rattle.sb_flow.proofs.FlowWords.{request_asks}
use Rattle.sb_flow.proofs.Pages.{device_at-page}
use Rattle.sb_link.specs.Prefixes.{IsPrefix}
use Rattle.sb_check.specs.Progresses.{IsPartFrom, IsWordAt, script_from, words_left}
use Rattle.sb_check.specs.declared.next_word.NextWord.{NextWord}
use Rattle.sb_check.proofs.MessageParts.{is_part_from, part_then_others, word_number}

-- what holds of all items holds of one that was read
pub at_place : {A : Type 0} (P : A → Type 0) (xs : List A) (i : ℕ) (x : A) → All P xs → slice_get xs i ≡ Some x → P x
at_place P xs i x all got = subst P (get_or_from_slice_get xs i x x got) (all i x (slice_get_within xs i x got))

-- a list has an item at each place below its length
pub item_there : {A : Type 0} (xs : List A) (i : ℕ) → i < length xs → (x : A) × (slice_get xs i ≡ Some x)
item_there [] i below = absurd (omega arith)
item_there (x ∷ xs) zero below = (x, refl)
item_there (x ∷ xs) (suc i) below = item_there xs i (omega arith)

-- and none behind
pub none_behind : {A : Type 0} (xs : List A) (i : ℕ) → slice_get xs i ≡ None → length xs ≤ i
none_behind [] i none = omega arith
none_behind (x ∷ xs) zero none = absurd (cc)
none_behind (x ∷ xs) (suc i) none = let more = none_behind xs i none in omega arith

drop_here : {A : Type 0} (xs : List A) (i : ℕ) (x : A) → slice_get xs i ≡ Some x → drop i xs ≡ x ∷ drop (i + 1) xs
drop_here xs i x got = drop_more xs i x (slice_get_within xs i x got) ∙ ap (λ y. y ∷ drop (i + 1) xs) (get_or_from_slice_get xs i x x got)

-- the words from a transaction on are its own and those from the next one on
pub script_more : (host : NetHost) (i : ℕ) (t : Txn) → slice_get host.script i ≡ Some t → script_from host i ≡ transaction_accesses host i t ++ script_from host (i + 1)
script_more host i t got = ap (λ (script : List Txn). flat_map (λ p. transaction_accesses host p.0 p.1) (enumerate_from i script)) (drop_here host.script i t got)

-- behind the last one there are none
pub script_end : (host : NetHost) (i : ℕ) → slice_get host.script i ≡ None → script_from host i ≡ []
script_end host i none = ap (λ (script : List Txn). flat_map (λ p. transaction_accesses host p.0 p.1) (enumerate_from i script)) (drop_all i host.script (none_behind host.script i none))

-- a word of a transaction begins in the transaction's page
in_page : (j count word at : ℕ) → j < count → 0 < word → at + count * word ≤ 4096 → at + j * word < 4096
in_page j count word at below some page = let most : suc j * word ≤ count * word = mul-le-mul_right word below in omega arith

module _ (network : Network) (host : NetHost) (d : ℕ) (placed : misplaced_device network ≡ None) where
  -- a word is of the host, and at the device
  abbrev in_flow : Access → Bool
  in_flow a = (a.host == host.id) && is_at network d a

  -- a word of a transaction is so just where the transaction is aimed at the device
  word_in_flow : (i j : ℕ) (t : Txn) → IsTransaction t → j < t.count → in_flow (access_at (transaction_message host i t) j) ≡ is_aimed_at network d t
  word_in_flow i j t line below =
      rw (eq-eqb host.id host.id refl, request_asks t.kind, device_at-page network t.addr (j * 2 ^ t.size) placed (in_page j t.count (2 ^ t.size) (t.addr % 4096) below (pow_pos t.size) line.page)) refl

  -- so the words of an aimed transaction are all in the flow, and those of another aren't
  aimed_words : (i from : ℕ) (t : Txn) → IsTransaction t → is_aimed_at network d t ≡ true → flow_part network host d (drop from (transaction_accesses host i t)) ≡ drop from (transaction_accesses host i t)
  aimed_words i from t line aimed =
      filter_all in_flow (drop from (transaction_accesses host i t))
      (All-drop (λ a. in_flow a ≡ true) from (transaction_accesses host i t) (All-made (λ a. in_flow a ≡ true) (access_at (transaction_message host i t)) t.count (λ j below. word_in_flow i j t line below ∙ aimed)))

  other_words : (i : ℕ) (t : Txn) → IsTransaction t → is_aimed_at network d t ≡ false → flow_part network host d (transaction_accesses host i t) ≡ []
  other_words i t line other =
      filter_none in_flow (transaction_accesses host i t) (All-made (λ a. in_flow a ≡ false) (access_at (transaction_message host i t)) t.count (λ j below. word_in_flow i j t line below ∙ other))

  -- transactions that are aimed elsewhere are passed over
  pub passed_over : (n from : ℕ) → All IsTransaction host.script → from + n ≤ length host.script → ((i : ℕ) (t : Txn) → from ≤ i → i < from + n → slice_get host.script i ≡ Some t → is_aimed_at network d t ≡ false)
      → flow_part network host d (script_from host (from + n)) ≡ flow_part network host d (script_from host from)
  passed_over zero from lines within others = let z : from + 0 ≡ from = omega arith in rw z refl
  passed_over (suc n) from lines within others =
      let next : from + suc n ≡ from + 1 + n = omega arith in
      let here = item_there host.script from (omega arith) in
      ap (λ (k : ℕ). flow_part network host d (script_from host k)) next
      ∙ passed_over n (from + 1) lines (omega arith) (λ i t low high got. others i t (omega arith) (omega arith) got)
      ∙ ap (λ (words : List Access). words ++ flow_part network host d (script_from host (from + 1))) (sym (other_words from here.0 (at_place IsTransaction host.script from here.0 lines here.1) (others from here.0 (omega arith) (omega arith) here.1)))
      ∙ sym (filter-append in_flow (transaction_accesses host from here.0) (script_from host (from + 1)))
      ∙ ap (flow_part network host d) (sym (script_more host from here.0 here.1))

  -- what is left from a word on: the words of its transaction from it on, and those at the device behind the transaction
  pub left_here : (next : NextWord) (t : Txn) → All IsTransaction host.script → IsWordAt network host d next → slice_get host.script next.transaction ≡ Some t
      → words_left network host d next ≡ drop next.word (transaction_accesses host next.transaction t) ++ flow_part network host d (script_from host (next.transaction + 1))
  left_here next t lines at got =
      let i = next.transaction in
      let long : length (transaction_accesses host i t) ≡ t.count = word_number (transaction_message host i t) in
      let inside : next.word < t.count = at.within t got in
      ap (λ (words : List Access). flow_part network host d (drop next.word words)) (script_more host i t got)
      ∙ ap (flow_part network host d) (drop-append-le next.word (transaction_accesses host i t) (script_from host (i + 1)) (omega arith))
      ∙ filter-append in_flow (drop next.word (transaction_accesses host i t)) (script_from host (i + 1))
      ∙ ap (λ (words : List Access). words ++ flow_part network host d (script_from host (i + 1))) (aimed_words i next.word t (at_place IsTransaction host.script i t lines got) (at.aimed t got))

  -- nothing is left behind the script
  pub left_none : (next : NextWord) → slice_get host.script next.transaction ≡ None → words_left network host d next ≡ []
  left_none next none =
      ap (λ (words : List Access). flow_part network host d (drop next.word words)) (script_end host next.transaction none) ∙ ap (flow_part network host d) (drop_all next.word [] (omega arith))

  -- a packet that is a part from that word on: behind it the transaction goes on
  pub left_within : (next later : NextWord) (t : Txn) (part : Packet) → All IsTransaction host.script → IsWordAt network host d next → slice_get host.script next.transaction ≡ Some t → IsPartFrom (transaction_message host next.transaction t) next.word (message_of part)
      → later.transaction ≡ next.transaction → later.word ≡ next.word + (message_of part).count → IsWordAt network host d later → words_left network host d next ≡ accesses_of part ++ words_left network host d later
  left_within next later t part lines at got is same on later_at =
      let i = next.transaction in
      let behind = flow_part network host d (script_from host (i + 1)) in
      let got_later : slice_get host.script later.transaction ≡ Some t = ap (slice_get host.script) same ∙ got in
      let rest : words_left network host d later ≡ drop (next.word + (message_of part).count) (transaction_accesses host i t) ++ behind =
      left_here later t lines later_at got_later ∙ ap (λ (k : ℕ). drop later.word (transaction_accesses host k t) ++ flow_part network host d (script_from host (k + 1))) same ∙ ap (λ (k : ℕ). drop k (transaction_accesses host i t) ++ behind) on in
      left_here next t lines at got
      ∙ ap (λ (words : List Access). words ++ behind) (part_then_others (transaction_message host i t) (message_of part) next.word refl is)
      ∙ append_assoc (accesses_of part) (drop (next.word + (message_of part).count) (transaction_accesses host i t)) behind
      ∙ ap (λ (words : List Access). accesses_of part ++ words) (sym rest)

  -- or it ends
  pub left_behind : (next : NextWord) (t : Txn) (part : Packet) → All IsTransaction host.script → IsWordAt network host d next → slice_get host.script next.transaction ≡ Some t → IsPartFrom (transaction_message host next.transaction t) next.word (message_of part)
      → t.count ≤ next.word + (message_of part).count → words_left network host d next ≡ accesses_of part ++ flow_part network host d (script_from host (next.transaction + 1))
  left_behind next t part lines at got is end =
      let i = next.transaction in
      let behind = flow_part network host d (script_from host (i + 1)) in
      let none : drop (next.word + (message_of part).count) (transaction_accesses host i t) ≡ [] =
      drop_all (next.word + (message_of part).count) (transaction_accesses host i t) (omega (arith, word_number (transaction_message host i t))) in
      left_here next t lines at got
      ∙ ap (λ (words : List Access). words ++ behind) (part_then_others (transaction_message host i t) (message_of part) next.word refl is ∙ ap (λ (words : List Access). accesses_of part ++ words) none ∙ append-nil (accesses_of part))

  -- each packet has a word
  pub not_none : (part : Packet) (rest : List Access) → accesses_of part ++ rest ≡ [] → ⊥
  not_none part rest is =
      let some : 0 < (message_of part).count = some_words part.cmd.op part.cmd.len in
      omega (arith, word_number (message_of part), length-append (accesses_of part) rest, ap length is)

  -- where the words of a packet are the next ones, it is a part of their transaction
  pub begins_as_part : (next : NextWord) (t : Txn) (part : Packet) → All IsTransaction host.script → IsWordAt network host d next → slice_get host.script next.transaction ≡ Some t → IsPrefix (accesses_of part) (words_left network host d next)
      → IsPartFrom (transaction_message host next.transaction t) next.word (message_of part)
  begins_as_part next t part lines at got begins =
      is_part_from (transaction_message host next.transaction t) (message_of part) next.word begins.rest (flow_part network host d (script_from host (next.transaction + 1)))
      (begins.joined ∙ left_here next t lines at got) refl (at.within t got) (some_words part.cmd.op part.cmd.len) short
    where
      short : length (message_of part).bytes ≤ message_span (message_of part)
      short = elim (carries_none_or_all part.cmd.op) [
        | inl none ↦ omega (arith, (packet_whole part).carried, none (message_span (message_of part)))
        | inr all ↦ omega (arith, (packet_whole part).carried, all (message_span (message_of part)))
      ]
