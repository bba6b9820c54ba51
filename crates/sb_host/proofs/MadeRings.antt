-- The ring of requests of a host's own link is made for each of its packets.
use Rattle.std.proofs.Common.{◌≡◌, ◌≤◌, ◌<◌, ◌+◌, ◌*◌, ◌/◌, ◌%◌, ◌^◌, ℕ, zero, suc, arith, refl, sym, ap, ◌∙◌, length, List, [], ◌∷◌, Bool, true, false, cond, Option, Some, None}
use Rattle.std.specs.Prelude.{All, map, not, ◌||◌, ◌==◌, is_some, if◌then◌else◌}
use Rattle.std.specs.List.{position_from, AllByRecursion}
use Rattle.std.specs.Option.{option_map, option_map_or}
use Rattle.std.proofs.Math.ListN.{get_or}
use Rattle.std.proofs.lemmas.Bool.Decides.{nat_tests}
use Rattle.std.proofs.lemmas.List.Elements.{All-nil, All-append, All-head, All-tail, All-weaker}
use Rattle.sb_packet.specs.Cuts.{cut_parts, device_place}
use Rattle.sb_packet.specs.Journals.{is_request}
use Rattle.sb_packet.specs.Messages.{Message, message_span}
use Rattle.sb_packet.specs.Networks.{NetHost, Network, device_at, has_address}
use Rattle.sb_link.specs.RingPlans.{NetFlow, device_ranges, goes_home, goes_through, holds_span, message_flow}
use Rattle.sb_flow.specs.Rings.{is_upward, ring_flows, ring_plan}
use Rattle.sb_packet.specs.Scripts.{IsTransaction, request_of}
use Rattle.sb_link.specs.Traffic.{IsPlanned}
use Rattle.sb_flow.specs.Ways.{aims_at, first_link, is_aimed_at}
use Rattle.sb_packet.specs.declared.transaction.Kind.{Kind}
use Rattle.sb_packet.specs.declared.transaction.Kind.TheVariants.{Read, Write, Posted, Atomic}
use Rattle.sb_packet.specs.declared.transaction.Txn.{Txn}
use Rattle.sb_flow.specs.Accepted.{is_placed_device}
use Rattle.sb_flow.proofs.FlowWords.{request_asks}
use Rattle.sb_host.specs.Asked.{asked_by, asked_packets, line_in, line_message, packets_from, sent_packets}
use Rattle.sb_host.proofs.OwnWays.{any_at, own_flow_through}
use Rattle.sb_host.proofs.PlannedParts.{LiesIn, cut_lies, ranges_are, same_device}

words_fit : (size : ℕ) → size ≤ 3 → 0 < 32 / 2 ^ size
words_fit zero small = omega arith
words_fit (suc zero) small = omega arith
words_fit (suc (suc zero)) small = omega arith
words_fit (suc (suc (suc zero))) small = omega arith
words_fit (suc (suc (suc (suc n)))) small = absurd (omega arith)

-- a place that is found is in the list
pub place_below : {X : Type 0} (p : X → Bool) (s : ℕ) (xs : List X) (d : ℕ) → position_from p s xs ≡ Some d → d < s + length xs
place_below p s [] d e = absurd (cc)
place_below p s (x ∷ xs) d e = by_test (p x) e (place_below p (s + 1) xs d) where
  by_test : (b : Bool) → cond b (Some s) (position_from p (s + 1) xs) ≡ Some d → (position_from p (s + 1) xs ≡ Some d → d < s + 1 + length xs) → d < s + suc (length xs)
  by_test true e later = let same : s ≡ d = cc in omega (arith, same)
  by_test false e later = let behind = later e in omega (arith, behind)

pub down : (k : ℕ) → is_upward (2 * k) ≡ false
down k = let even : 2 * k % 2 ≡ 0 = omega arith in rw even refl

-- a host aims at the device of each of its transactions
abbrev pub Aims : Network → NetHost → Txn → Type 0
Aims network host t = (d : ℕ) → device_at network t.addr ≡ Some d → aims_at network host d ≡ true

pub script_aims : (network : Network) (host : NetHost) → All (Aims network host) host.script
script_aims network host j e below d is =
    let test : (d == d) ≡ true = grind (arith, nat_tests) in
    any_at (is_aimed_at network d) host.script j e below (ap (λ (o : Option ℕ). option_map_or (λ k. k == d) o false) is ∙ test)

module _ (network : Network) (h k : ℕ) (host : NetHost) (there : h < length network.hosts) (at : get_or network.hosts h host ≡ host) (first : first_link network h ≡ Some k) (link : k < length network.links)
    (id : host.id < 32) (few : length network.devices ≤ 32) (placed : AllByRecursion (λ d. is_placed_device d ≡ true) network.devices) where
  -- one packet
  planned_packet : (i d : ℕ) (t : Txn) (p : Message) → IsTransaction t → device_at network t.addr ≡ Some d → aims_at network host d ≡ true
      → LiesIn (line_message (asked_by network host) i (line_in network t)) p → IsPlanned (ring_plan network (2 * k)) p
  planned_packet i d t p is device aims lies =
      let flows = ring_flows network (2 * k) in
      let asks_p : is_request p.op ≡ true = ap is_request lies.op ∙ request_asks t.kind in
      let home : goes_home p ≡ true = ap (λ (b : Bool). b || (p.dst / 2 ^ 40 == p.host)) asks_p in
      let place : device_place p ≡ p.dst = ap (λ (b : Bool). if b then p.dst else p.src) asks_p in
      let found : position_from (holds_span (device_place p) (message_span p)) 0 (device_ranges flows) ≡ Some d =
      ap (λ (a : ℕ). position_from (holds_span a (message_span p)) 0 (device_ranges flows)) place
      ∙ ap (position_from (holds_span p.dst (message_span p)) 0) (ranges_are network (2 * k) few)
      ∙ same_device 0 t.addr (t.count * 2 ^ t.size) p.dst (message_span p) network.devices placed is.page lies.first lies.last lies.some
      ∙ device in
      let flow : NetFlow = record { host = host.id; device = d } in
      let found_below = place_below (has_address t.addr) 0 network.devices d device in
      let below : d < length network.devices = omega (arith, found_below) in
      let message : message_flow flows p ≡ Some flow =
      ap (λ (b : Bool). if b then option_map (λ e. record { host = p.host; device = e }) (position_from (holds_span (device_place p) (message_span p)) 0 (device_ranges flows)) else None) home
      ∙ ap (option_map (λ e. record { host = p.host; device = e })) found
      ∙ ap (λ (n : ℕ). Some (let f : NetFlow = record { host = n; device = d } in f)) lies.host in
      record {
        direction = asks_p ∙ sym (ap not (down k));
        allowed = ap (λ (o : Option NetFlow). option_map_or (goes_through flows) o false) message
            ∙ own_flow_through network h k host there at first link id few d below aims;
      }

  -- those of one transaction
  planned_line : (i : ℕ) (t : Txn) → IsTransaction t → Aims network host t → All (IsPlanned (ring_plan network (2 * k))) (sent_packets (asked_by network host) i (line_in network t))
  planned_line i t is aims =
      let message = line_message (asked_by network host) i (line_in network t) in
      elim (device_at network t.addr) as (λ o. device_at network t.addr ≡ o → All (IsPlanned (ring_plan network (2 * k))) (if is_some o then cut_parts 32 message else [])) [
        | None ↦ λ e. All-nil (IsPlanned (ring_plan network (2 * k)))
        | Some d ↦ λ e. All-weaker (LiesIn message) (IsPlanned (ring_plan network (2 * k))) (λ p lies. planned_packet i d t p is e (aims d e) lies) (cut_parts 32 message) (cut_lies 32 message is.some (words_fit t.size is.size))
      ] refl

  planned_lines : (i : ℕ) (script : List Txn) → All IsTransaction script → All (Aims network host) script → All (IsPlanned (ring_plan network (2 * k))) (packets_from (asked_by network host) i (map (line_in network) script))
  planned_lines i [] all aims = All-nil (IsPlanned (ring_plan network (2 * k)))
  planned_lines i (t ∷ script) all aims =
      All-append (IsPlanned (ring_plan network (2 * k))) (sent_packets (asked_by network host) i (line_in network t)) (packets_from (asked_by network host) (i + 1) (map (line_in network) script))
      (planned_line i t (All-head IsTransaction t script all) (All-head (Aims network host) t script aims))
      (planned_lines (i + 1) script (All-tail IsTransaction t script all) (All-tail (Aims network host) t script aims))

  -- all packets of the host
  pub planned_host : All IsTransaction host.script → All (IsPlanned (ring_plan network (2 * k))) (asked_packets (asked_by network host))
  planned_host all = planned_lines 0 host.script all (script_aims network host)
