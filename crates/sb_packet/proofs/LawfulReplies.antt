-- In a lawful journal no two words that a device stepped are answered at one address.
use Rattle.std.proofs.Common.{◌≡◌, ◌≢◌, ◌≤◌, ◌<◌, ℕ, zero, suc, ◌/◌, ◌^◌, List, [], ◌∷◌, ap, sym, ◌∙◌, refl, arith, subst, Bool, true, length}
use Rattle.std.specs.Prelude.{◌==◌, ◌&&◌, map, filter, All, AllPairs, Contains, IsTrue, get_or}
use Rattle.std.proofs.lemmas.Bool.Decides.{nat_tests}
use Rattle.std.proofs.lemmas.List.Elements.{All-head, All-tail, All-filter, filter_passes}
use Rattle.std.proofs.lemmas.List.Kept.{AllPairs-filter}
use Rattle.sb_packet.specs.Accesses.{Access, access_at, accesses_of}
use Rattle.sb_packet.specs.Messages.{message_of}
use Rattle.sb_packet.specs.Spans.{word_count_of}
use Rattle.sb_packet.specs.Networks.{NetHost, Network}
use Rattle.sb_packet.specs.Scripts.{IsTransaction, script_accesses}
use Rattle.sb_packet.specs.Journals.{journal_accesses, flow_part, is_at, IsPlaced, IsLawful}
use Rattle.sb_packet.specs.declared.entry.Entry.{Entry}
use Rattle.sb_packet.proofs.Lists.{All-made, All-joined, All-kept, AllPairs-kept}
use Rattle.sb_packet.proofs.ReplyAddresses.{reply_addresses_rise, reply_addresses_tell}

-- an access of a host, in its flow to a device
abbrev pub is_of_flow : Network → ℕ → NetHost → Access → Bool
is_of_flow network d host a = (a.host == host.id) && is_at network d a

-- the host with an id that some host has, and what holds of all hosts
host_with : (P : NetHost → Type 0) (hosts : List NetHost) (id n : ℕ) → n < length (map (λ (h : NetHost). h.id) hosts) → get_or (map (λ (h : NetHost). h.id) hosts) n id ≡ id → All P hosts → (host : NetHost) × (host.id ≡ id) × P host
host_with P [] id n inside at all = absurd (omega arith)
host_with P (host ∷ hosts) id zero inside at all = (host, at, All-head P host hosts all)
host_with P (host ∷ hosts) id (suc n) inside at all = host_with P hosts id n (omega arith) at (All-tail P host hosts all)

-- the words of an entry at its device are at it, and of a host that there is
entry_words : (network : Network) (d : ℕ) (e : Entry) → e.device ≡ d → IsPlaced network e → All (λ a. IsTrue (is_at network d a) × Contains (map (λ (h : NetHost). h.id) network.hosts) a.host) (accesses_of e.packet)
entry_words network d e there placed k a inside =
    let aimed : All (λ a. IsTrue (is_at network d a)) (accesses_of e.packet) = rw there at placed.aimed in
    let host : All (λ a. Contains (map (λ (h : NetHost). h.id) network.hosts) a.host) (accesses_of e.packet) =
    All-made (λ a. Contains (map (λ (h : NetHost). h.id) network.hosts) a.host) (access_at (message_of e.packet)) (word_count_of e.packet.cmd) (λ j below. placed.host) in
    (aimed k a inside, host k a inside)

-- so are all words that a placed journal has at a device
placed_words : (network : Network) (d : ℕ) (journal : List Entry) → All (IsPlaced network) journal → All (λ a. IsTrue (is_at network d a) × Contains (map (λ (h : NetHost). h.id) network.hosts) a.host) (journal_accesses journal d)
placed_words network d journal placed =
    let here = filter (λ (e : Entry). e.device == d) journal in
    let all = All-filter (λ (e : Entry). e.device == d) (IsPlaced network) journal placed in
    let there = filter_passes (λ (e : Entry). e.device == d) journal in
    All-joined (λ a. IsTrue (is_at network d a) × Contains (map (λ (h : NetHost). h.id) network.hosts) a.host) (λ (e : Entry). accesses_of e.packet) here
    (λ k e inside. entry_words network d (get_or here k e) (let test : (((get_or here k e).device) == d) ≡ true = there k e inside in grind (arith, nat_tests)) (all k e inside))

-- what a host's flow keeps of the words at a device tells the host, and rises
record Flows (network : Network) (d : ℕ) (words : List Access) (host : NetHost) : Type 0 where
  told : All (λ a. a.src / 2 ^ 40 ≡ host.id) (filter (is_of_flow network d host) words)
  rise : AllPairs (λ a b. a.src < b.src) (filter (is_of_flow network d host) words)

flows_of : (network : Network) (d : ℕ) (words : List Access) (host : NetHost) → All IsTransaction host.script → length host.script ≤ 65536 → flow_part network host d words ≡ flow_part network host d (script_accesses host) → Flows network d words host
flows_of network d words host transactions few same = record {
  told = subst (All (λ a. a.src / 2 ^ 40 ≡ host.id)) (sym same) (All-filter (is_of_flow network d host) (λ a. a.src / 2 ^ 40 ≡ host.id) (script_accesses host) (reply_addresses_tell host transactions few));
  rise = subst (AllPairs (λ a b. a.src < b.src)) (sym same) (AllPairs-filter (λ a b. a.src < b.src) (is_of_flow network d host) (script_accesses host) (reply_addresses_rise host transactions));
}

-- an access of a host, at that device, is in its flow
in_its_flow : (network : Network) (d : ℕ) (host : NetHost) (a : Access) → host.id ≡ a.host → IsTrue (is_at network d a) → is_of_flow network d host a ≡ true
in_its_flow network d host a id aimed =
    let own : (a.host == host.id) ≡ true = grind (arith, nat_tests) in
    rw (own, aimed) refl

pub lawful_replies_differ : (network : Network) (journal : List Entry) → All (λ host. All IsTransaction host.script) network.hosts → All (λ host. length host.script ≤ 65536) network.hosts → IsLawful network journal → (d : ℕ) → AllPairs (λ a b. a.src ≢ b.src) (journal_accesses journal d)
lawful_replies_differ network journal transactions few lawful d i j x below inside same =
    let words = journal_accesses journal d in
    let flows : All (Flows network d words) network.hosts = λ k h inside. flows_of network d words (get_or network.hosts k h) (transactions k h inside) (few k h inside) (lawful.in_script_order k h inside d) in
    let a = get_or words i x in
    let b = get_or words j x in
    let there = placed_words network d journal lawful.at_target in
    let a_is = there i x (omega arith) in
    let b_is = there j x inside in
    let of_a = host_with (Flows network d words) network.hosts a.host a_is.1.0 a_is.1.1 a_is.1.2 flows in
    let of_b = host_with (Flows network d words) network.hosts b.host b_is.1.0 b_is.1.1 b_is.1.2 flows in
    let a_told : a.src / 2 ^ 40 ≡ of_a.0.id = All-kept (is_of_flow network d of_a.0) (λ a. a.src / 2 ^ 40 ≡ of_a.0.id) words of_a.2.told i x (omega arith) (in_its_flow network d of_a.0 a of_a.1 a_is.0) in
    let b_told : b.src / 2 ^ 40 ≡ of_b.0.id = All-kept (is_of_flow network d of_b.0) (λ a. a.src / 2 ^ 40 ≡ of_b.0.id) words of_b.2.told j x inside (in_its_flow network d of_b.0 b of_b.1 b_is.0) in
    let one_host : of_a.0.id ≡ b.host = sym a_told ∙ ap (λ n. n / 2 ^ 40) same ∙ b_told ∙ of_b.1 in
    let rises : a.src < b.src = AllPairs-kept (λ a b. a.src < b.src) (is_of_flow network d of_a.0) words of_a.2.rise i j x below inside (in_its_flow network d of_a.0 a of_a.1 a_is.0) (in_its_flow network d of_a.0 b one_host b_is.0) in
    absurd (omega arith)
