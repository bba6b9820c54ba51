-- What a host has offered, and what its script aims at devices.
use Rattle.std.proofs.Common.{◌≡◌, ◌<◌, ◌+◌, ◌*◌, ◌^◌, ◌%◌, ℕ, arith, refl, sym, ap, ◌∙◌, length, List, [], ◌∷◌, ◌++◌, Bool, true, false, None, drop, append-nil}
use Rattle.std.specs.Prelude.{All, filter, flat_map, map, is_some, if◌then◌else◌}
use Rattle.std.specs.List.{enumerate_from}
use Rattle.std.proofs.Math.Pow.{pow_pos}
use Rattle.std.proofs.Math.Seq.{drop-length, drop-nil}
use Rattle.std.proofs.lemmas.List.Elements.{All-head, All-tail, filter-append}
use Rattle.sb_packet.specs.Accesses.{Access, access_at, message_accesses}
use Rattle.sb_packet.specs.Networks.{NetHost, Network, device_at}
use Rattle.sb_link.specs.Prefixes.{IsPrefix}
use Rattle.sb_packet.specs.Scripts.{IsTransaction, script_accesses, transaction_accesses, transaction_message}
use Rattle.sb_packet.specs.Messages.{Message}
use Rattle.sb_link.specs.Traffic.{MayPass, has_close}
use Rattle.sb_packet.specs.declared.transaction.Txn.{Txn}
use Rattle.sb_packet.proofs.Lists.{All-made, filter_all, filter_none}
use Rattle.sb_packet.proofs.ReplyAddresses.{word_within}
use Rattle.sb_flow.specs.Accepted.{misplaced_device}
use Rattle.sb_flow.proofs.Pages.{device_at-page}
use Rattle.sb_port.specs.Ports.{offered_words}
use Rattle.sb_host.specs.declared.transaction_plan.TransactionPlan.{TransactionPlan}
use Rattle.sb_host.specs.Asked.{Asked, accesses_from, asked_accesses, asked_by, line_in, packets_from, sent_accesses}
use Rattle.sb_host.specs.Hosts.{HostSide, IsWholeHost}
use Rattle.sb_host.specs.Progress.{HasOffered, left_of, packets_left}
use Rattle.sb_host.proofs.Passing.{next_passes}

-- what was offered begins all words
offered_begins : (asked : Asked) (next part : ℕ) (offered : List Access) → HasOffered asked next part offered → IsPrefix offered (asked_accesses asked)
offered_begins asked next part offered h = record { rest = flat_map message_accesses (packets_left asked next part); joined = h }

-- behind the last transaction no packet is left
pub none_left : (asked : Asked) (next part : ℕ) → next ≡ length asked.lines → packets_left asked next part ≡ []
none_left asked next part end =
    ap (λ (lines : List TransactionPlan). drop part (packets_from asked next lines)) (ap (λ (n : ℕ). drop n asked.lines) end ∙ drop-length asked.lines) ∙ drop-nil part

-- all was offered
offered_all : (asked : Asked) (next part : ℕ) (offered : List Access) → next ≡ length asked.lines → HasOffered asked next part offered → offered ≡ asked_accesses asked
offered_all asked next part offered end h =
    sym (append-nil offered) ∙ ap (λ list. offered ++ flat_map message_accesses list) (sym (none_left asked next part end)) ∙ h

pub offers_in_order : (h : HostSide) → IsWholeHost h → IsPrefix (offered_words h.requests) (asked_accesses h.transactions.asked)
offers_in_order h w = offered_begins h.transactions.asked h.transactions.next h.transactions.part (offered_words h.requests) w.in_order.offered

pub offers_all : (h : HostSide) → IsWholeHost h → h.requests.state.close_requested ≡ true → offered_words h.requests ≡ asked_accesses h.transactions.asked
offers_all h w told = offered_all h.transactions.asked h.transactions.next h.transactions.part (offered_words h.requests) (w.in_order.closes told) w.in_order.offered

pub closes_behind_all : (h : HostSide) → IsWholeHost h → has_close h.requests.state.sent ≡ true → offered_words h.requests ≡ asked_accesses h.transactions.asked
closes_behind_all h w closed = offers_all h w (w.fit.told (w.fit.close ∙ closed))

-- each packet passes at its turn
pub passes_next : (h : HostSide) (m : Message) (rest : List Message) → IsWholeHost h → left_of h.transactions ≡ m ∷ rest → MayPass h.requests.plan (length (offered_words h.requests)) m
passes_next h m rest w left =
    let t = h.transactions in
    let o = w.in_order in next_passes t.asked h.requests.plan t.next t.part (offered_words h.requests) m rest o.issuable o.made o.offered left

-- a word begins within its transaction's page
pub within_page : (t : Txn) (j : ℕ) → IsTransaction t → j < t.count → t.addr % 4096 + j * 2 ^ t.size < 4096
within_page t j is below =
    let word = word_within t.size t.count j below in
    let some = pow_pos t.size in
    let page = is.page in
    omega (arith, word, some, page)

-- a word is aimed at a device
abbrev is_aimed : Network → Access → Bool
is_aimed network a = is_some (device_at network a.dst)

module _ (network : Network) (host : NetHost) (placed : misplaced_device network ≡ None) where
  word_aimed : (i j : ℕ) (t : Txn) → IsTransaction t → j < t.count → is_aimed network (access_at (transaction_message host i t) j) ≡ is_some (device_at network t.addr)
  word_aimed i j t is below = ap is_some (device_at-page network t.addr (j * 2 ^ t.size) placed (within_page t j is below))

  line_aimed : (i : ℕ) (t : Txn) → IsTransaction t → sent_accesses (asked_by network host) i (line_in network t) ≡ filter (is_aimed network) (transaction_accesses host i t)
  line_aimed i t is =
      let words = transaction_accesses host i t in
      elim (is_some (device_at network t.addr)) as (λ b. is_some (device_at network t.addr) ≡ b → (if b then words else []) ≡ filter (is_aimed network) words) [
        | true ↦ λ e. sym (filter_all (is_aimed network) words (All-made (λ a. is_aimed network a ≡ true) (access_at (transaction_message host i t)) t.count (λ j below. word_aimed i j t is below ∙ e)))
        | false ↦ λ e. sym (filter_none (is_aimed network) words (All-made (λ a. is_aimed network a ≡ false) (access_at (transaction_message host i t)) t.count (λ j below. word_aimed i j t is below ∙ e)))
      ] refl

  lines_aimed : (i : ℕ) (script : List Txn) → All IsTransaction script
      → accesses_from (asked_by network host) i (map (line_in network) script) ≡ filter (is_aimed network) (flat_map (λ p. transaction_accesses host p.0 p.1) (enumerate_from i script))
  lines_aimed i [] all = refl
  lines_aimed i (t ∷ script) all =
      let rest = flat_map (λ (p : ℕ × Txn). transaction_accesses host p.0 p.1) (enumerate_from (i + 1) script) in
      ap (λ (words : List Access). words ++ accesses_from (asked_by network host) (i + 1) (map (line_in network) script)) (line_aimed i t (All-head IsTransaction t script all))
      ∙ ap (λ (words : List Access). filter (is_aimed network) (transaction_accesses host i t) ++ words) (lines_aimed (i + 1) script (All-tail IsTransaction t script all))
      ∙ sym (filter-append (is_aimed network) (transaction_accesses host i t) rest)

-- what a host asks of devices is what its script aims at them
pub asks_what_is_aimed : (network : Network) (host : NetHost) → misplaced_device network ≡ None → All IsTransaction host.script
    → asked_accesses (asked_by network host) ≡ filter (λ a. is_some (device_at network a.dst)) (script_accesses host)
asks_what_is_aimed network host placed all = lines_aimed network host placed 0 host.script all
