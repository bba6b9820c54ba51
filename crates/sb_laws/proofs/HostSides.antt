-- Hosts as they stand in a network keep the promises of whole runs.
use Rattle.std.proofs.Common.{◌≡◌, ◌≢◌, ◌<◌, ℕ, Bool, ◌+◌, ◌%◌, true, false, List, [], ◌∷◌, ◌++◌, length, refl, sym, ap, ◌∙◌, subst, inl, inr}
use Rattle.std.specs.Prelude.{◌⊎◌, ◌==◌, filter, flat_map, map, All, Contains, Option, Some, None, is_some, get_or, if◌then◌else◌}
use Rattle.std.specs.List.{enumerate_from, find}
use Rattle.std.specs.Option.{option_map_or}
use Rattle.std.proofs.lemmas.List.Elements.{All-head, All-tail, filter-append}
use Rattle.sb_packet.specs.Accesses.{Access, access_at}
use Rattle.sb_link.specs.declared.answers.Turn.{Turn}
use Rattle.sb_link.specs.declared.answers.Turn.TheVariants.{Moved}
use Rattle.sb_packet.specs.Networks.{NetHost, Network, device_at}
use Rattle.sb_packet.specs.Scripts.{IsTransaction, transaction_accesses, transaction_message, script_accesses}
use Rattle.sb_link.specs.Traffic.{has_close, item_accesses}
use Rattle.sb_packet.specs.declared.transaction.Txn.{Txn}
use Rattle.sb_packet.proofs.Lists.{All-made, filter_all, filter_none}
use Rattle.sb_link.specs.RingPlans.{RingPlan}
use Rattle.sb_port.specs.Ports.{IsFit, PortSide, offered_words}
use Rattle.sb_node.specs.Sides.{RingSide, has_ended, has_rest, is_drained, is_full}
use Rattle.sb_host.specs.Asked.{accesses_from, asked_accesses, asked_by, line_in, sent_accesses}
use Rattle.sb_host.specs.Hosts.{HostSide, IsHostTurn, IsKeptHost, IsWholeHost, host_wait}
use Rattle.sb_host.specs.Progress.{TransactionsSide}
use Rattle.sb_host.specs.Rows.{IsTable}
use Rattle.sb_host.specs.Steps.{IsIdleHost}
use Rattle.sb_host.specs.Windows.{window_cause}
use Rattle.sb_node.specs.Steps.{IsBlockedPort}
use Rattle.sb_link.specs.Prefixes.{IsPrefix}
use Rattle.sb_laws.specs.Flows.{aimed_script}
use Rattle.sb_laws.specs.NodeSides.{HasPort, HasRing, IsHostBuiltFor, IsHostOf, ShowsPort, ShowsRing}
use Rattle.sb_laws.specs.Layouts.{HasScripts, Layout}
use Rattle.sb_laws.specs.Moments.{Moment, arrived}
use Rattle.sb_laws.specs.Runs.{IsHost}
use Rattle.sb_laws.specs.Standstills.{IsIdleReceiver, IsIdleSender, IsReceiverBlocked, RoundEnd, Stages}
use Rattle.sb_laws.proofs.AskedWays.{word_device}
use Rattle.sb_laws.proofs.ScriptFacts.{found_by_id}
use Rattle.sb_laws.proofs.SidePromises.{idle_port}

-- what is one of a list has what all of it have
pub at_listed : {X : Type 0} (P : X → Type 0) (xs : List X) (x : X) → All P xs → Contains xs x → P x
at_listed P xs x all inside = subst P inside.2 (all inside.0 x inside.1)

module _ (network : Network) where
  -- a device has the address of a word
  abbrev pub is_aimed : Access → Bool
  is_aimed a = option_map_or (λ d. true) (device_at network a.dst) false

  module _ (pages : All (λ d. d.base % 4096 ≡ 0) network.devices) (host : NetHost) where
    -- a host sends those words of a transaction that a device has: all or none
    aimed_line : (i : ℕ) (t : Txn) → IsTransaction t → sent_accesses (asked_by network host) i (line_in network t) ≡ filter is_aimed (transaction_accesses host i t)
    aimed_line i t is = by_place (device_at network t.addr) refl
      where
        words : List Access
        words = transaction_accesses host i t

        same : (o : Option ℕ) → device_at network t.addr ≡ o → (j : ℕ) → j < t.count → is_aimed (access_at (transaction_message host i t) j) ≡ option_map_or (λ d. true) o false
        same o e j below = ap (λ (k : Option ℕ). option_map_or (λ d. true) k false) (word_device network pages t is j below ∙ e)

        by_place : (o : Option ℕ) → device_at network t.addr ≡ o → (if is_some o then words else []) ≡ filter is_aimed words
        by_place None e = sym (filter_none is_aimed words (All-made (λ a. is_aimed a ≡ false) (access_at (transaction_message host i t)) t.count (same None e)))
        by_place (Some d) e = sym (filter_all is_aimed words (All-made (λ a. is_aimed a ≡ true) (access_at (transaction_message host i t)) t.count (same (Some d) e)))

    aimed_lines : (i : ℕ) (txns : List Txn) → All IsTransaction txns →
        accesses_from (asked_by network host) i (map (line_in network) txns) ≡ filter is_aimed (flat_map (λ p. transaction_accesses host p.0 p.1) (enumerate_from i txns))
    aimed_lines i [] all = refl
    aimed_lines i (t ∷ txns) all =
        let rest : List Access = flat_map (λ p. transaction_accesses host p.0 p.1) (enumerate_from (i + 1) txns) in
        ap (λ (l : List Access). l ++ accesses_from (asked_by network host) (i + 1) (map (line_in network) txns)) (aimed_line i t (All-head IsTransaction t txns all))
        ∙ ap (λ (l : List Access). filter is_aimed (transaction_accesses host i t) ++ l) (aimed_lines (i + 1) txns (All-tail IsTransaction t txns all))
        ∙ sym (filter-append is_aimed (transaction_accesses host i t) rest)

  -- What a host asks for are the words of its script that a device has.
  pub asked_script : (host : NetHost) → HasScripts network → All (λ d. d.base % 4096 ≡ 0) network.devices → Contains network.hosts host → asked_accesses (asked_by network host) ≡ aimed_script network host.id
  asked_script host scripts pages inside =
      aimed_lines pages host 0 host.script (at_listed (λ h. All IsTransaction h.script) network.hosts host scripts.transactions inside)
      ∙ ap (λ (o : Option NetHost). filter is_aimed (option_map_or script_accesses o [])) (sym (at_listed (λ h. find (λ x. x.id == h.id) network.hosts ≡ Some h) network.hosts host (found_by_id network.hosts scripts.ids) inside))

-- what the laws of hosts say: what a whole host offered begins what it asks for, and is all of it once its Close was sent
abbrev pub HostsOffer : Type 0
HostsOffer = (h : HostSide) → IsWholeHost h → IsPrefix (offered_words h.requests) (asked_accesses h.transactions.asked)

abbrev pub HostsOfferAll : Type 0
HostsOfferAll = (h : HostSide) → IsWholeHost h → has_close h.requests.state.sent ≡ true → offered_words h.requests ≡ asked_accesses h.transactions.asked

pub host_promise : HostsOffer → HostsOfferAll → (network : Network) (layout : Layout) (m : Moment) (host : NetHost) (h : HostSide) → HasScripts network → All (λ d. d.base % 4096 ≡ 0) network.devices →
    IsHostOf network layout host h → IsWholeHost h → HasPort m h.requests.plan.ring h.requests → All (λ f. f.host ≡ host.id → IsHost network layout m f) layout.requests.flows
host_promise offer offer_all network layout m host h scripts pages of whole has k f below mine =
    let flow = get_or layout.requests.flows k f in
    let first : layout.requests.first flow ≡ h.requests.plan.ring = of.asks k f below mine in
    let script : asked_accesses h.transactions.asked ≡ aimed_script network flow.host = ap asked_accesses of.asked ∙ asked_script network host scripts pages of.listed ∙ ap (aimed_script network) (sym mine) in
    let offered : m.offered (layout.requests.first flow) ≡ offered_words h.requests = ap m.offered first ∙ has.offered in
    let sent : m.sent (layout.requests.first flow) ≡ h.requests.state.sent = ap m.sent first ∙ has.sent in
    let begins = offer h whole in
    record {
      in_order = record { rest = begins.rest; joined = ap (λ (l : List Access). l ++ begins.rest) offered ∙ begins.joined ∙ script };
      closed = λ close_sent. offered ∙ offer_all h whole (ap has_close (sym sent) ∙ close_sent) ∙ script;
    }

pub idle_host_sends : (stages : Stages) (s : RoundEnd) (r : ℕ) (t : TransactionsSide) (port : PortSide) (ring : RingSide) → ShowsPort s r port → s.waits r ≡ is_some (window_cause t)
    → stages.leaves_host r ≡ true → IsFit port.plan port.state → IsIdleHost t port ring → IsIdleSender stages s r
idle_host_sends stages s r t port ring shows waits leaves fit idle = record {
  port = idle_port s r port fit shows (All-head (λ p. has_rest p ≡ true → is_full p ≡ true) port [] idle.at_rest.owing_ports_are_full);
  host = λ yes untold. by_cause (idle.open_host_is_blocked (sym shows.told ∙ untold));
  node = λ no all. absurd (let never : true ≡ false = sym leaves ∙ no in cc);
}
  where
    by_cause : IsBlockedPort port ⊎ (is_some (window_cause t) ≡ true) → (s.waits r ≡ true) ⊎ (s.full r ≡ true)
    by_cause (inl blocked) = inr (shows.full ∙ blocked.full)
    by_cause (inr waiting) = inl (waits ∙ waiting)

pub idle_host_receives : (stages : Stages) (s : RoundEnd) (r : ℕ) (t : TransactionsSide) (port : PortSide) (ring : RingSide) → ShowsRing s r ring → s.holds r ≡ None → s.at.held r ≡ [] → IsIdleHost t port ring → IsIdleReceiver stages s r
idle_host_receives stages s r t port ring got holds none idle = record {
  held = λ p e. absurd (let never : None ≡ Some p = sym holds ∙ e in cc);
  none_held = λ e. none;
  drained = λ unended. by_cause (All-head (λ x. has_ended x ≡ false → (is_drained x ≡ true) ⊎ ⊥) ring [] idle.at_rest.open_rings_are_drained (ap has_close (sym got.lists.received) ∙ unended));
}
  where
    by_cause : (is_drained ring ≡ true) ⊎ ⊥ → (s.empty r ≡ true) ⊎ (((p : ℕ) × (s.holds r ≡ Some p)) ⊎ IsReceiverBlocked stages s r)
    by_cause (inl empty) = inl (got.empty ∙ empty)
    by_cause (inr never) = absurd never

-- a host that didn't move is idle, at its port and at its ring
pub unmoved_sends : (stages : Stages) (s : RoundEnd) (before after : HostSide) (round : ℕ) (answer : Turn) → IsWholeHost after → IsHostTurn before round answer after → answer ≢ Moved →
    ShowsPort s after.requests.plan.ring after.requests → s.waits after.requests.plan.ring ≡ is_some (host_wait after) → stages.leaves_host after.requests.plan.ring ≡ true → IsIdleSender stages s after.requests.plan.ring
unmoved_sends stages s before after round answer whole turn still shows waits leaves =
    idle_host_sends stages s after.requests.plan.ring after.transactions after.requests after.answers shows waits leaves whole.fit (turn.idle still)

pub unmoved_receives : (stages : Stages) (s : RoundEnd) (before after : HostSide) (round : ℕ) (answer : Turn) → IsWholeHost after → IsHostTurn before round answer after → answer ≢ Moved →
    ShowsRing s after.answers.plan.ring after.answers → s.holds after.answers.plan.ring ≡ None → s.at.held after.answers.plan.ring ≡ [] → IsIdleReceiver stages s after.answers.plan.ring
unmoved_receives stages s before after round answer whole turn still got holds none = idle_host_receives stages s after.answers.plan.ring after.transactions after.requests after.answers got holds none (turn.idle still)

-- a whole host that told its port to close has come to the end of its script
pub told_at_end : (h : HostSide) → IsWholeHost h → h.requests.state.close_requested ≡ true → h.transactions.next ≡ length h.transactions.asked.lines
told_at_end h whole told = whole.in_order.closes told

-- its table has the answers to its words among those that came by its ring
pub table_of_ring : (m : Moment) (h : HostSide) → IsWholeHost h → HasRing m h.answers.plan.ring h.answers → IsTable h.transactions.asked (arrived m h.answers.plan.ring) h.transactions.rows
table_of_ring m h whole got = subst (λ (l : List Access). IsTable h.transactions.asked l h.transactions.rows) (ap item_accesses (sym got.received)) whole.in_order.table

pub stays_built : (network : Network) (place round : ℕ) (before after : HostSide) → IsKeptHost round before after → IsHostBuiltFor network place before → IsHostBuiltFor network place after
stays_built network place round before after kept built = record {
  asked = λ host at. kept.asked ∙ built.asked host at;
  asks_by = λ k e. ap (λ (plan : RingPlan). plan.ring) kept.requests.plan ∙ built.asks_by k e;
  answered_by = λ k e. ap (λ (plan : RingPlan). plan.ring) kept.answers.plan ∙ built.answered_by k e;
}
