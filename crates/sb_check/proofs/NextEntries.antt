-- An entry that comes rightly brings words of one transaction of its host, to the device at which that is aimed.
use Rattle.std.proofs.Common.{◌≡◌, ◌≢◌, ◌≤◌, ◌<◌, ℕ, zero, suc, ◌+◌, ◌-◌, ◌*◌, ◌%◌, ◌^◌, Bool, true, false, cond, List, [], ◌∷◌, ◌++◌, length, refl, ap, sym, ◌∙◌, arith, subst, Option, Some, None}
use Rattle.std.specs.Prelude.{◌==◌, ◌&&◌, All, Contains, filter, get_or, map, nat_le, nat_lt, slice_get}
use Rattle.std.specs.List.{position_from, range_with_len}
use Rattle.std.specs.Option.{option_map_or}
use Rattle.std.proofs.lemmas.Bool.{and_parts}
use Rattle.std.proofs.lemmas.Bool.Decides.{nat_tests}
use Rattle.std.proofs.lemmas.List.Elements.{All-append, All-filter, All-nil, filter-append}
use Rattle.std.proofs.lemmas.List.FromFn.{get_or-map-range_with_len, length-map-range_with_len}
use Rattle.std.proofs.lemmas.Option.{get_or_from_slice_get, slice_get_within}
use Rattle.sb_packet.specs.Accesses.{Access, access_at, accesses_of}
use Rattle.sb_packet.specs.Journals.{IsPlaced, device_address, flow_part, is_at, is_request, journal_accesses}
use Rattle.sb_packet.specs.Messages.{message_of}
use Rattle.sb_packet.specs.Spans.{span_of}
use Rattle.sb_packet.specs.Networks.{NetDevice, NetHost, Network, device_at, device_size, has_address}
use Rattle.sb_packet.specs.Scripts.{IsTransaction, reply_address, request_of, script_accesses, transaction_accesses, transaction_message}
use Rattle.sb_packet.specs.declared.entry.Entry.{Entry}
use Rattle.sb_packet.specs.declared.packet.Packet.{Packet}
use Rattle.sb_packet.specs.declared.transaction.Txn.{Txn}
use Rattle.sb_packet.proofs.Lists.{All-left, All-made, All-right, filter_all}
use Rattle.sb_packet.proofs.Opcodes.{some_words}
use Rattle.sb_packet.proofs.ReplyAddresses.{words_from}
use Rattle.sb_flow.specs.Accepted.{IsAccepted, is_limited_host}
use Rattle.sb_flow.proofs.Apart.{device_at-is}
use Rattle.sb_flow.proofs.Clashes.{no_clash}
use Rattle.sb_flow.proofs.FlowWords.{request_asks}
use Rattle.sb_flow.proofs.HostLimits.{host_limits, limits_of, passes_at}
use Rattle.sb_check.specs.Beginnings.{IsLawfulSoFar}
use Rattle.sb_link.specs.Prefixes.{IsPrefix}
use Rattle.sb_check.specs.Gathering.{transaction_number}
use Rattle.sb_check.proofs.OwnWords.{is_in_flow, is_word_of, journal_more, number_of_word, same_number, word_place}

-- what holds of all holds of the one at a place
pub at_place : {A : Type 0} (P : A → Type 0) (xs : List A) (k : ℕ) (x : A) → All P xs → slice_get xs k ≡ Some x → P x
at_place P xs k x all at = subst P (get_or_from_slice_get xs k x x at) (all k x (slice_get_within xs k x at))

-- what holds of all made from numbers holds of each
pub at_number : {A : Type 0} (P : A → Type 0) (f : ℕ → A) (n : ℕ) → All P (map f (range_with_len 0 n)) → (j : ℕ) → j < n → P (f j)
at_number P f n all j below =
    let inside : j < length (map f (range_with_len 0 n)) = rw length-map-range_with_len below in
    subst P (get_or-map-range_with_len f 0 n j j (f j) below (omega arith)) (all j (f j) inside)

-- a host of an accepted network has lines that can be issued, and not too many
pub host_lines : (network : Network) → IsAccepted network → (k : ℕ) (host : NetHost) → slice_get network.hosts k ≡ Some host → All IsTransaction host.script
host_lines network good k host at = at_place (λ h. All IsTransaction h.script) network.hosts k host good.lines at

pub host_few : (network : Network) → IsAccepted network → (k : ℕ) (host : NetHost) → slice_get network.hosts k ≡ Some host → length host.script ≤ 65536
host_few network good k host at =
    let inside = slice_get_within network.hosts k host at in
    let passes = passes_at is_limited_host network.hosts k host (host_limits network good.limits) inside in
    (limits_of host (subst (λ (h : NetHost). is_limited_host h ≡ true) (get_or_from_slice_get network.hosts k host host at) passes)).few

-- no two hosts have one id
pub one_host : (network : Network) → IsAccepted network → (j k : ℕ) (x y : NetHost) → slice_get network.hosts j ≡ Some x → slice_get network.hosts k ≡ Some y → j < k → x.id ≢ y.id
one_host network good j k x y first second below same =
    let clash = no_clash (λ (a b : NetHost). a.id == b.id) network.hosts j k x good.ids below (slice_get_within network.hosts k y second) in
    let is_x : get_or network.hosts j x ≡ x = get_or_from_slice_get network.hosts j x x first in
    let is_y : get_or network.hosts k x ≡ y = get_or_from_slice_get network.hosts k y x second in
    let no : (y.id == x.id) ≡ false = subst (λ (a : NetHost). (y.id == a.id) ≡ false) is_x (subst (λ (b : NetHost). (b.id == (get_or network.hosts j x).id) ≡ false) is_y clash) in
    let yes : (y.id == x.id) ≡ true = grind (arith, nat_tests) in
    cc

-- the first host with an id
pub record FoundHost (id : ℕ) (hosts : List NetHost) (from : ℕ) : Type 0 where
  pub place : ℕ
  pub host : NetHost
  pub at : slice_get hosts place ≡ Some host
  pub same : host.id ≡ id
  pub first : position_from (λ h. h.id == id) from hosts ≡ Some (from + place)

found_host : (id : ℕ) (hosts : List NetHost) (from : ℕ) → Contains (map (λ h. h.id) hosts) id → FoundHost id hosts from
found_host id [] from (k, inside, is) = absurd (omega arith)
found_host id (h ∷ hosts) from (k, inside, is) = by_test (h.id == id) refl k inside is (λ c. found_host id hosts (from + 1) c)
  where
    by_test : (t : Bool) → (h.id == id) ≡ t → (k : ℕ) → k < length (map (λ h. h.id) (h ∷ hosts)) → get_or (map (λ h. h.id) (h ∷ hosts)) k id ≡ id → (Contains (map (λ h. h.id) hosts) id → FoundHost id hosts (from + 1)) → FoundHost id (h ∷ hosts) from
    by_test true t k inside is later =
        let here : from ≡ from + 0 = omega arith in
        record { place = 0; host = h; at = refl; same = grind (arith, nat_tests); first = rw t (ap (λ (n : ℕ). Some n) here) }
    by_test false t zero inside is later = absurd (let yes : (h.id == id) ≡ true = grind (arith, nat_tests) in cc)
    by_test false t (suc k) inside is later =
        let rest = later (k, omega arith, is) in
        let there : from + 1 + rest.place ≡ from + suc rest.place = omega arith in
        record { place = suc rest.place; host = rest.host; at = rest.at; same = rest.same; first = rw t (rest.first ∙ ap (λ (n : ℕ). Some n) there) }

-- an access is a word of a host's script
pub record IsScriptWord (host : NetHost) (a : Access) : Type 0 where
  pub number : ℕ
  pub txn : Txn
  pub there : slice_get host.script number ≡ Some txn
  pub word : ℕ
  pub below : word < txn.count
  pub is : a ≡ access_at (transaction_message host number txn) word

script_words : (host : NetHost) (n : ℕ) (txns : List Txn) → ((j : ℕ) (t : Txn) → slice_get txns j ≡ Some t → slice_get host.script (n + j) ≡ Some t) → All (IsScriptWord host) (words_from host n txns)
script_words host n [] whole = All-nil (IsScriptWord host)
script_words host n (t ∷ txns) whole =
    let first : n + 0 ≡ n = omega arith in
    let at : slice_get host.script n ≡ Some t = subst (λ (k : ℕ). slice_get host.script k ≡ Some t) first (whole 0 t refl) in
    All-append (IsScriptWord host) (transaction_accesses host n t) (words_from host (n + 1) txns)
    (All-made (IsScriptWord host) (access_at (transaction_message host n t)) t.count (λ j below. record { number = n; txn = t; there = at; word = j; below = below; is = refl }))
    (script_words host (n + 1) txns (λ j x got. let same : n + suc j ≡ n + 1 + j = omega arith in subst (λ (k : ℕ). slice_get host.script k ≡ Some x) same (whole (suc j) x got)))

module _ (host : NetHost) (lines : All IsTransaction host.script) (few : length host.script ≤ 65536) where
  word_line : (a : Access) (w : IsScriptWord host a) → IsTransaction w.txn
  word_line a w = at_place IsTransaction host.script w.number w.txn lines w.there

  word_few : (a : Access) (w : IsScriptWord host a) → w.number < 65536
  word_few a w = let inside = slice_get_within host.script w.number w.txn w.there in omega (arith, inside, few)

  word_number : (a : Access) (w : IsScriptWord host a) → transaction_number a.src ≡ w.number
  word_number a w = ap (λ (x : Access). transaction_number x.src) w.is ∙ number_of_word host.id w.number w.txn w.word (word_line a w) (word_few a w) w.below

  -- behind a word that isn't the last of its transaction the reply address is of the same one
  number_goes_on : (a : Access) → IsScriptWord host a → a.last ≡ false → transaction_number (a.src + 2 ^ a.size) ≡ transaction_number a.src
  number_goes_on a w unended =
      let s = 2 ^ w.txn.size in
      let not_last : (w.word + 1 == w.txn.count) ≡ false = ap (λ (x : Access). x.last) (sym w.is) ∙ unended in
      let word_below = w.below in
      let next : w.word + 1 < w.txn.count = grind (arith, nat_tests) in
      let src : a.src ≡ reply_address host.id w.number + w.word * s = ap (λ (x : Access). x.src) w.is in
      let size : 2 ^ a.size ≡ s = ap (λ (x : Access). 2 ^ x.size) w.is in
      let behind : a.src + 2 ^ a.size ≡ reply_address host.id w.number + (w.word + 1) * s = omega (arith, src, size) in
      ap transaction_number behind ∙ number_of_word host.id w.number w.txn (w.word + 1) (word_line a w) (word_few a w) next ∙ sym (word_number a w)

  -- so the words of a packet are of one transaction
  one_transaction : (p : Packet) → ((j : ℕ) → j < (message_of p).count → IsScriptWord host (access_at (message_of p) j)) → (j : ℕ) → j < (message_of p).count
      → transaction_number (access_at (message_of p) j).src ≡ transaction_number p.src
  one_transaction p words zero below = let first : p.src + 0 * 2 ^ p.cmd.size ≡ p.src = omega arith in ap transaction_number first
  one_transaction p words (suc j) below =
      let m = message_of p in
      let unended : (access_at m j).last ≡ false = (let other : (j + 1 == m.count) ≡ false = grind (arith, nat_tests) in never m.eom (j + 1 == m.count) other) in
      let next : p.src + suc j * 2 ^ p.cmd.size ≡ p.src + j * 2 ^ p.cmd.size + 2 ^ p.cmd.size = omega arith in
      ap transaction_number next ∙ number_goes_on (access_at m j) (words j (omega arith)) unended ∙ one_transaction p words j (omega arith)
    where
      never : (a b : Bool) → b ≡ false → (a && b) ≡ false
      never true b e = e
      never false b e = refl

-- What an entry brings that comes rightly: the host and the transaction of its words, and where that is aimed.
pub record NextEntry (network : Network) (e : Entry) : Type 0 where
  pub found : FoundHost e.packet.cmd.host network.hosts 0
  pub number : ℕ
  pub txn : Txn
  pub there : slice_get found.host.script number ≡ Some txn
  pub is_number : transaction_number e.packet.src ≡ number
  pub op : e.packet.cmd.op ≡ request_of txn.kind
  pub own : All (λ a. is_word_of found.host.id number a ≡ true) (accesses_of e.packet)
  pub device : device_at network txn.addr ≡ Some e.device

is_placed_last : (network : Network) (journal : List Entry) (e : Entry) → All (IsPlaced network) (journal ++ e ∷ []) → IsPlaced network e
is_placed_last network journal e all = All-right (IsPlaced network) journal (e ∷ []) all 0 e (omega arith)

-- the words that begin a list are among its words
words_begin : (P : Access → Type 0) (first new whole : List Access) → IsPrefix (first ++ new) whole → All P whole → All P new
words_begin P first new whole begins all = All-right P first new (All-left P (first ++ new) begins.rest (subst (All P) (sym begins.joined) all))

-- a number that is found
is_found : (o : Option ℕ) (d : ℕ) → option_map_or (λ k. k == d) o false ≡ true → o ≡ Some d
is_found None d e = absurd (cc)
is_found (Some k) d e = let same : k ≡ d = grind (arith, nat_tests) in ap (λ (n : ℕ). Some n) same

module _ (network : Network) (good : IsAccepted network) (journal : List Entry) (e : Entry) (so : IsLawfulSoFar network (journal ++ e ∷ [])) where
  pub last_placed : IsPlaced network e
  last_placed = is_placed_last network journal e so.at_target

  last_host : FoundHost e.packet.cmd.host network.hosts 0
  last_host = found_host e.packet.cmd.host network.hosts 0 last_placed.host

  last_lines : All IsTransaction last_host.host.script
  last_lines = host_lines network good last_host.place last_host.host last_host.at

  last_few : length last_host.host.script ≤ 65536
  last_few = host_few network good last_host.place last_host.host last_host.at

  last_aimed : All (λ a. is_at network e.device a ≡ true) (accesses_of e.packet)
  last_aimed = last_placed.aimed

  -- all words of the entry are in its host's flow to its device
  last_in_flow : filter (is_in_flow network last_host.host e.device) (accesses_of e.packet) ≡ accesses_of e.packet
  last_in_flow = filter_all (is_in_flow network last_host.host e.device) (accesses_of e.packet)
      (All-made (λ a. is_in_flow network last_host.host e.device a ≡ true) (access_at (message_of e.packet)) (message_of e.packet).count (λ j below.
      let host_same = last_host.same in
      let own : (e.packet.cmd.host == last_host.host.id) ≡ true = grind (arith, nat_tests) in
      let here = at_number (λ a. is_at network e.device a ≡ true) (access_at (message_of e.packet)) (message_of e.packet).count last_aimed j below in
      rw (own, here) refl))

  last_words : All (IsScriptWord last_host.host) (accesses_of e.packet)
  last_words =
      let host = last_host.host in
      let d = e.device in
      let test = is_in_flow network host d in
      let begins : IsPrefix (flow_part network host d (journal_accesses (journal ++ e ∷ []) d)) (flow_part network host d (script_accesses host)) =
      at_place (λ h. (d : ℕ) → IsPrefix (flow_part network h d (journal_accesses (journal ++ e ∷ []) d)) (flow_part network h d (script_accesses h))) network.hosts last_host.place host so.in_script_order last_host.at d in
      let more : flow_part network host d (journal_accesses (journal ++ e ∷ []) d) ≡ flow_part network host d (journal_accesses journal d) ++ accesses_of e.packet =
      ap (filter test) (journal_more journal e d refl) ∙ filter-append test (journal_accesses journal d) (accesses_of e.packet)
      ∙ ap (λ (l : List Access). filter test (journal_accesses journal d) ++ l) last_in_flow in
      let all : All (IsScriptWord host) (script_accesses host) = script_words host 0 host.script (λ j t at. let same : j ≡ 0 + j = omega arith in subst (λ (k : ℕ). slice_get host.script k ≡ Some t) same at) in
      words_begin (IsScriptWord host) (flow_part network host d (journal_accesses journal d)) (accesses_of e.packet) (flow_part network host d (script_accesses host))
      (subst (λ (l : List Access). IsPrefix l (flow_part network host d (script_accesses host))) more begins) (All-filter test (IsScriptWord host) (script_accesses host) all)

  last_word : (j : ℕ) → j < (message_of e.packet).count → IsScriptWord last_host.host (access_at (message_of e.packet) j)
  last_word = at_number (IsScriptWord last_host.host) (access_at (message_of e.packet)) (message_of e.packet).count last_words

  some_word : 0 < (message_of e.packet).count
  some_word = some_words e.packet.cmd.op e.packet.cmd.len

  -- The entry's words are of one transaction.
  pub next_entry : NextEntry network e
  next_entry =
      let m = message_of e.packet in
      let host = last_host.host in
      let w = last_word 0 some_word in
      let first : e.packet.src + 0 * 2 ^ e.packet.cmd.size ≡ e.packet.src = omega arith in
      let start : e.packet.dst + 0 * 2 ^ e.packet.cmd.size ≡ e.packet.dst = omega arith in
      let number : transaction_number e.packet.src ≡ w.number = ap transaction_number (sym first) ∙ word_number host last_lines last_few (access_at m 0) w in
      let op : e.packet.cmd.op ≡ request_of w.txn.kind = ap (λ (a : Access). a.op) w.is in
      let at : device_at network (device_address (access_at m 0)) ≡ Some e.device =
      is_found (device_at network (device_address (access_at m 0))) e.device (at_number (λ a. is_at network e.device a ≡ true) (access_at m) m.count last_aimed 0 some_word) in
      let asks : is_request e.packet.cmd.op ≡ true = ap is_request op ∙ request_asks w.txn.kind in
      let address : device_address (access_at m 0) ≡ w.txn.addr + w.word * 2 ^ w.txn.size =
      ap (λ (b : Bool). cond b (access_at m 0).dst (access_at m 0).src) asks ∙ ap (λ (a : Access). a.dst) w.is in
      record {
        found = last_host;
        number = w.number;
        txn = w.txn;
        there = w.there;
        is_number = number;
        op = op;
        own = All-made (λ a. is_word_of host.id w.number a ≡ true) (access_at m) m.count (λ j below.
            let host_same = last_host.same in
            let own : (e.packet.cmd.host == host.id) ≡ true = grind (arith, nat_tests) in
            let one : transaction_number (access_at m j).src ≡ w.number = one_transaction host last_lines last_few e.packet last_word j below ∙ number in
            rw (own, one) (same_number w.number));
        device = sym (word_place network good.placed w.txn (word_line host last_lines last_few (access_at m 0) w) w.word w.below) ∙ ap (device_at network) (sym address) ∙ at;
      }

  -- each of its words is at its device
  pub word_has : (dev : NetDevice) → slice_get network.devices e.device ≡ Some dev → (j : ℕ) → j < (message_of e.packet).count → has_address (e.packet.dst + j * 2 ^ e.packet.cmd.size) dev ≡ true
  word_has dev got j below =
      let m = message_of e.packet in
      let op : e.packet.cmd.op ≡ request_of (last_word 0 some_word).txn.kind = ap (λ (a : Access). a.op) (last_word 0 some_word).is in
      let asks : is_request e.packet.cmd.op ≡ true = ap is_request op ∙ request_asks (last_word 0 some_word).txn.kind in
      let here = at_number (λ a. is_at network e.device a ≡ true) (access_at m) m.count last_aimed j below in
      let at : option_map_or (λ k. k == e.device) (device_at network (e.packet.dst + j * 2 ^ e.packet.cmd.size)) false ≡ true =
      ap (λ (b : Bool). option_map_or (λ k. k == e.device) (device_at network (cond b (access_at m j).dst (access_at m j).src)) false) (sym asks) ∙ here in
      let is_dev : get_or network.devices e.device dev ≡ dev = get_or_from_slice_get network.devices e.device dev dev got in
      ap (has_address (e.packet.dst + j * 2 ^ e.packet.cmd.size)) (sym is_dev)
      ∙ sym (device_at-is network (e.packet.dst + j * 2 ^ e.packet.cmd.size) e.device dev good.apart last_placed.device) ∙ at

-- where whole pages have the last word of some, they have all its bytes
ends_in_page : (size dst n end : ℕ) → size ≤ 3 → dst % 2 ^ size ≡ 0 → end % 4096 ≡ 0 → dst + n * 2 ^ size < end → dst + (n + 1) * 2 ^ size ≤ end
ends_in_page zero dst n end few aligned page last = omega arith
ends_in_page (suc zero) dst n end few aligned page last = omega arith
ends_in_page (suc (suc zero)) dst n end few aligned page last = omega arith
ends_in_page (suc (suc (suc zero))) dst n end few aligned page last = omega arith
ends_in_page (suc (suc (suc (suc k)))) dst n end few aligned page last = absurd (omega arith)

-- so all bytes of a packet whose words a device has lie in the device
pub all_in_range : (p : Packet) (dev : NetDevice) → dev.base % 4096 ≡ 0 → ((j : ℕ) → j < (message_of p).count → has_address (p.dst + j * 2 ^ p.cmd.size) dev ≡ true)
    → (dev.base ≤ p.dst) × (p.dst + span_of p.cmd ≤ dev.base + device_size dev)
all_in_range p dev whole has =
    let n = (message_of p).count in
    let s = 2 ^ p.cmd.size in
    let some : 0 < n = some_words p.cmd.op p.cmd.len in
    let first = and_parts (nat_le dev.base (p.dst + 0 * s)) (nat_lt (p.dst + 0 * s) (dev.base + device_size dev)) (has 0 some) in
    let last = and_parts (nat_le dev.base (p.dst + (n - 1) * s)) (nat_lt (p.dst + (n - 1) * s) (dev.base + device_size dev)) (has (n - 1) (omega (arith, some))) in
    let low_test = first.0 in
    let high_test = last.1 in
    let start : p.dst + 0 * s ≡ p.dst = omega arith in
    let low : dev.base ≤ p.dst + 0 * s = grind (arith, nat_tests) in
    let high : p.dst + (n - 1) * s < dev.base + device_size dev = grind (arith, nat_tests) in
    let page : (dev.base + dev.pages * 4096) % 4096 ≡ 0 = omega (arith, whole) in
    let all = ends_in_page p.cmd.size p.dst (n - 1) (dev.base + device_size dev) p.cmd.size_fits p.dst_aligned page high in
    let count : n - 1 + 1 ≡ n = omega (arith, some) in
    (omega (arith, low, start), subst (λ (k : ℕ). p.dst + k * s ≤ dev.base + device_size dev) count all)
