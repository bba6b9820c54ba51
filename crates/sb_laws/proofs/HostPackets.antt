-- The packets of a transaction that is aimed at a device are of the flow to it.
use Rattle.std.proofs.Common.{◌≡◌, ◌≤◌, ◌<◌, ℕ, ◌+◌, ◌*◌, ◌^◌, ◌%◌, ◌/◌, Bool, true, false, cond, length, refl, sym, ap, ◌∙◌, arith, subst, take, mul-pos}
use Rattle.std.specs.Prelude.{◌&&◌, ◌||◌, ◌==◌, nat_le, nat_lt, not, option_map, All, Option, Some, None, slice_get}
use Rattle.std.specs.List.{position_from}
use Rattle.std.specs.Option.{option_map_or}
use Rattle.std.proofs.Math.Pow.{pow_pos}
use Rattle.std.proofs.lemmas.Bool.Decides.{nat_tests}
use Rattle.std.proofs.lemmas.List.{get_or-take, length-take-le}
use Rattle.std.proofs.lemmas.List.Elements.{All-weaker}
use Rattle.std.proofs.lemmas.List.FromFn.{length-map-range_with_len}
use Rattle.std.proofs.lemmas.Option.{slice_get-get_or}
use Rattle.std.proofs.lemmas.Bool.{and_parts}
use Rattle.sb_packet.specs.Cuts.{cut_parts, device_place}
use Rattle.sb_packet.specs.Journals.{is_request}
use Rattle.sb_packet.specs.Messages.{Message, message_span}
use Rattle.sb_packet.specs.Networks.{NetDevice, NetHost, Network, device_at, device_size, has_address}
use Rattle.sb_link.specs.RingPlans.{AddressRange, device_ranges, goes_through, holds_span}
use Rattle.sb_flow.specs.Rings.{is_upward, network_ranges, range_of, ring_flows, ring_plan}
use Rattle.sb_packet.specs.Scripts.{IsTransaction, transaction_message}
use Rattle.sb_link.specs.Traffic.{IsPlanned}
use Rattle.sb_packet.specs.declared.transaction.Txn.{Txn}
use Rattle.sb_packet.proofs.PacketsOfTransactions.{transaction_is_even}
use Rattle.sb_flow.proofs.AcceptedLinks.{got_below}
use Rattle.sb_flow.proofs.FlowWords.{request_asks}
use Rattle.sb_laws.specs.NetworkLayouts.{IsRouted}
use Rattle.sb_laws.proofs.HostParts.{IsPart, parts_lie_within}
use Rattle.sb_laws.proofs.LinksToDevices.{found_place, none_found}
use Rattle.sb_laws.proofs.NoFaults.{All-at, at_place}
use Rattle.sb_laws.proofs.PlannedWords.{in_span, span_device, table_at}

-- a part of what lies in a page of a device is in the device
part_held : (base pages addr span from bytes : ℕ) → base % 4096 ≡ 0 → addr % 4096 + span ≤ 4096 → addr ≤ from → from + bytes ≤ addr + span → (nat_le base addr && nat_lt addr (base + pages * 4096)) ≡ true →
    (nat_le base from && nat_le (from + bytes) (base + pages * 4096)) ≡ true
part_held base pages addr span from bytes whole page low high e =
    let parts = and_parts (nat_le base addr) (nat_lt addr (base + pages * 4096)) e in
    let low_test = parts.0 in
    let high_test = parts.1 in
    let above : base ≤ addr = grind (arith, nat_tests) in
    let below : addr < base + pages * 4096 = grind (arith, nat_tests) in
    let first : base ≤ from = omega (arith, above, low) in
    let last : from + bytes ≤ base + pages * 4096 = omega (arith, whole, page, low, high, above, below) in
    let first_test : nat_le base from ≡ true = grind (arith, nat_tests) in
    let last_test : nat_le (from + bytes) (base + pages * 4096) ≡ true = grind (arith, nat_tests) in
    rw (first_test, last_test) refl

module _ (network : Network) (routed : IsRouted network) where
  -- a span that a device holds is found there
  span_found : (d : ℕ) (device : NetDevice) (address span : ℕ) → slice_get network.devices d ≡ Some device → holds_span address span (range_of device) ≡ true → 0 < span →
      position_from (holds_span address span) 0 (take (length network.devices) (network_ranges network)) ≡ Some d
  span_found d device address span is holds some = by_place (position_from (holds_span address span) 0 (take (length network.devices) (network_ranges network))) refl
    where
      none : AddressRange
      none = record { base = 0; bytes = 0 }

      there : d < length network.devices
      there = got_below network.devices d device is

      few : length (take (length network.devices) (network_ranges network)) ≡ length network.devices
      few = length-take-le (length network.devices) (network_ranges network) (let h = routed.few in omega (arith, length-map-range_with_len (λ k. option_map_or range_of (slice_get network.devices k) (record { base = 0; bytes = 0 })) 0 32))

      at : slice_get (take (length network.devices) (network_ranges network)) d ≡ Some (range_of device)
      at = slice_get-get_or (take (length network.devices) (network_ranges network)) d none (omega (arith, few, there))
          ∙ ap Some (get_or-take (length network.devices) (network_ranges network) d none there ∙ table_at (λ k. option_map_or range_of (slice_get network.devices k) (record { base = 0; bytes = 0 })) 32 d none (let h = routed.few in omega (arith, there)) ∙ ap (λ (o : Option NetDevice). option_map_or range_of o none) is)

      by_place : (o : Option ℕ) → position_from (holds_span address span) 0 (take (length network.devices) (network_ranges network)) ≡ o → o ≡ Some d
      by_place None e = absurd (none_found (holds_span address span) 0 d (take (length network.devices) (network_ranges network)) e (ap (λ (o : Option AddressRange). option_map_or (holds_span address span) o false) at ∙ holds))
      by_place (Some k) e = ap Some (routed.apart (address + 0) k d (span_device network routed k address span 0 e some)
          (ap (λ (o : Option NetDevice). option_map_or (has_address (address + 0)) o false) is ∙ in_span device.base (device_size device) address span 0 holds some))

  module _ (host : NetHost) (i : ℕ) (t : Txn) (is : IsTransaction t) (d : ℕ) (aimed : device_at network t.addr ≡ Some d) where
    found : (device : NetDevice) × (d < length network.devices) × (slice_get network.devices d ≡ Some device) × (has_address t.addr device ≡ true)
    found =
        let place = found_place (has_address t.addr) 0 d network.devices aimed in
        let same : place.0 ≡ d = omega (arith, place.1) in
        at_place (has_address t.addr) network.devices d (subst (λ (j : ℕ). option_map_or (has_address t.addr) (slice_get network.devices j) false ≡ true) same place.2.passes)

    packet_planned : (ring : ℕ) → is_upward ring ≡ false → goes_through (ring_flows network ring) (record { host = host.id; device = d }) ≡ true →
        (p : Message) → IsPart (transaction_message host i t) p → IsPlanned (ring_plan network ring) p
    packet_planned ring down through p part =
        let device = found.0 in
        let asked : is_request p.op ≡ true = ap is_request part.op ∙ request_asks t.kind in
        let from = part.from in
        let to = part.to in
        let whole : device.base % 4096 ≡ 0 = All-at (λ e. e.base % 4096 ≡ 0) network.devices d device routed.pages found.2 in
        let holds = part_held device.base device.pages t.addr (t.count * 2 ^ t.size) p.dst (message_span p) whole is.page from to found.3 in
        let some : 0 < message_span p = let count = part.some in let word : 0 < 2 ^ p.size = pow_pos p.size in mul-pos count word in
        let at : position_from (holds_span (device_place p) (message_span p)) 0 (device_ranges (ring_flows network ring)) ≡ Some d =
        ap (λ (b : Bool). position_from (holds_span (cond b p.dst p.src) (message_span p)) 0 (device_ranges (ring_flows network ring))) asked ∙ span_found d device p.dst (message_span p) found.2 holds some in
        record {
          direction = asked ∙ ap not (sym down);
          allowed =
              ap (λ (b : Bool). option_map_or (goes_through (ring_flows network ring)) (cond (b || (p.dst / 2 ^ 40 == p.host)) (option_map (λ e. record { host = p.host; device = e }) (position_from (holds_span (device_place p) (message_span p)) 0 (device_ranges (ring_flows network ring)))) None) false) asked
              ∙ ap (λ (o : Option ℕ). option_map_or (goes_through (ring_flows network ring)) (option_map (λ e. record { host = p.host; device = e }) o) false) at
              ∙ ap (λ (h : ℕ). goes_through (ring_flows network ring) (record { host = h; device = d })) part.host ∙ through;
        }

    -- A ring that the flow goes over is made for all packets of the transaction.
    pub packets_planned : (ring : ℕ) → is_upward ring ≡ false → goes_through (ring_flows network ring) (record { host = host.id; device = d }) ≡ true → All (IsPlanned (ring_plan network ring)) (cut_parts 32 (transaction_message host i t))
    packets_planned ring down through =
        let even = transaction_is_even host.id host.qos host.prot i t is in
        All-weaker (IsPart (transaction_message host i t)) (IsPlanned (ring_plan network ring)) (packet_planned ring down through) (cut_parts 32 (transaction_message host i t)) (parts_lie_within 32 (transaction_message host i t) even.some even.word)
