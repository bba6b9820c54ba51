-- What is known of a message's flow, and how its bit is read.
use Rattle.std.proofs.Common.{◌≡◌, ℕ, ◌/◌, ◌%◌, ◌^◌, ◌<◌, [], length, get_or, map, refl, ap, arith, Bool, true, false, Some, None, nat_eq, bit_and, length-take-le}
use Rattle.std.proofs.lemmas.List.{get_or-map}
use Rattle.std.proofs.lemmas.Nat.{and_mask}
use Rattle.std.specs.Prelude.{if◌then◌else◌, Option, slice_index_or}
use Rattle.std.specs.Option.{option_map}
use Rattle.std.proofs.lemmas.List.FromFn.{get_or-map-range_with_len, length-map-range_with_len}
use Rattle.std.specs.List.{position_from}
use Rattle.sb_packet.specs.Messages.{Message, message_span}
use Rattle.sb_packet.specs.Cuts.{device_place}
use Rattle.sb_link.specs.RingPlans.{AddressRange, NetFlow, RingFlows, device_ranges, goes_home, goes_through, holds_span, message_flow}
use Rattle.sb_link.specs.Plans.{bits_of, ranges_of, flow_of}
use Rattle.sb_link.specs.PlanOf.{flows_of}
use Rattle.sb_link.specs.declared.flow.Flow.{Flow}
use Rattle.sb_link.specs.declared.flows.Flows.{Flows}
use Rattle.sb_link.proofs.Ranges.{only_range, position_within}

-- a flow that was found is that of a host and of a device that was found
parts : (host : ℕ) (home : Bool) (device : Option ℕ) (f : NetFlow) → Some f ≡ (if home then option_map (λ d. record { host = host; device = d }) device else None)
    → (f.host ≡ host) × (Some f.device ≡ device)
parts host true None f e = let no_way : ⊥ = cc in absurd no_way
parts host true (Some d) f e = let same : f ≡ record { host = host; device = d } = cc in (ap (λ (f : NetFlow). f.host) same, ap (λ (f : NetFlow). Some f.device) same)
parts host false device f e = let no_way : ⊥ = cc in absurd no_way

-- the flow of a message is of its host, and of one of the devices
pub flow_within : (flows : RingFlows) (m : Message) (f : NetFlow) → Some f ≡ message_flow flows m → (f.host ≡ m.host) × (f.device < length (device_ranges flows))
flow_within flows m f e = let two = parts m.host (goes_home m) (position_from (holds_span (device_place m) (message_span m)) 0 (device_ranges flows)) f e in
    (two.0, omega (arith, position_within (holds_span (device_place m) (message_span m)) 0 (device_ranges flows) f.device two.1))

-- so many ranges as devices
pub device_count : (flows : Flows) → length (device_ranges (flows_of flows)) ≡ flows.count
device_count flows = length-take-le flows.count (ranges_of flows.base flows.bytes) (rw length-map-range_with_len flows.counted)

-- the bit of a flow, as a shift and a mask read it
pub flow_bit : (flows : Flows) (f : Flow) → f.host < 32 → f.device < 32
    → nat_eq (bit_and (get_or flows.through f.host 0 / 2 ^ f.device) 1) 1 ≡ goes_through (flows_of flows) (flow_of f)
flow_bit flows f host device =
    let row : get_or (map bits_of flows.through) f.host [] ≡ bits_of (get_or flows.through f.host 0) = get_or-map bits_of flows.through f.host 0 [] (omega (arith, flows.hosts, host)) in
    let bit : get_or (bits_of (get_or flows.through f.host 0)) f.device false ≡ nat_eq (get_or flows.through f.host 0 / 2 ^ f.device % 2) 1 =
    get_or-map-range_with_len (λ k. nat_eq (get_or flows.through f.host 0 / 2 ^ k % 2) 1) 0 32 f.device f.device false device (omega arith) in
    let low : bit_and (get_or flows.through f.host 0 / 2 ^ f.device) 1 ≡ get_or flows.through f.host 0 / 2 ^ f.device % 2 = and_mask (get_or flows.through f.host 0 / 2 ^ f.device) 1 in
    rw (row, bit, low) refl

-- Where a device has all bytes of a message, its flow is to this device: the devices' ranges are apart, so no other one has them.
pub only_flow : (flows : Flows) (m : Message) (d : ℕ) (none : AddressRange) → goes_home m ≡ true → 0 < message_span m → d < flows.count
    → holds_span (device_place m) (message_span m) (slice_index_or (device_ranges (flows_of flows)) d none) ≡ true
    → message_flow (flows_of flows) m ≡ Some record { host = m.host; device = d }
only_flow flows m d none home some lt holds =
    let found : position_from (holds_span (device_place m) (message_span m)) 0 (device_ranges (flows_of flows)) ≡ Some d =
    only_range (device_ranges (flows_of flows)) (device_place m) (message_span m) d none flows.apart some (omega (arith, lt, device_count flows)) holds in
    rw (home, found) refl
