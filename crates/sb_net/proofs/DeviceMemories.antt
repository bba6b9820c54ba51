-- The memory of a device of an accepted network: whole pages, as many as a ring's plan says, where it says.
use Rattle.std.proofs.Common.{◌≡◌, ◌≤◌, ℕ, ◌+◌, ◌-◌, ◌*◌, ◌%◌, ◌^◌, ◌<◌, ◌==◌, true, false, [], length, sym, ap, ◌∙◌, subst, arith}
use Rattle.std.specs.Prelude.{Option, Some, get_or, map, nat_le, nat_lt, replicate, slice_get}
use Rattle.std.specs.List.{list_all, range_with_len}
use Rattle.std.specs.Option.{option_map_or}
use Rattle.std.proofs.lemmas.Bool.{and_parts}
use Rattle.std.proofs.lemmas.Bool.Decides.{nat_tests}
use Rattle.std.proofs.lemmas.List.{get_or-map, length-append, length-map, length-replicate}
use Rattle.std.proofs.lemmas.List.FromFn.{get_or-map-range_with_len, length-map-range_with_len, take-map-range_with_len}
use Rattle.std.proofs.lemmas.Option.{slice_get-get_or}
use Rattle.sb_packet.specs.Memories.{MemoryState}
use Rattle.sb_packet.specs.Networks.{NetDevice, Network, device_size, opening_memory, opening_of}
use Rattle.sb_link.specs.RingPlans.{AddressRange, device_ranges}
use Rattle.sb_flow.specs.Rings.{range_of, ring_flows}
use Rattle.sb_device.specs.Sides.{held_bytes}
use Rattle.sb_flow.specs.Accepted.{IsAccepted, is_limited, is_limited_device, is_placed_device}
use Rattle.sb_flow.specs.NetworkOf.{network_of}
use Rattle.sb_flow.specs.Rows.{device_of}
use Rattle.sb_flow.specs.declared.bundle.Bundle.{Bundle}
use Rattle.sb_flow.specs.declared.device_plan.DevicePlan.{DevicePlan}
use Rattle.sb_flow.proofs.AcceptedLinks.{at_got}
use Rattle.sb_flow.proofs.Clashes.{all_pass, position_from-None}
use Rattle.sb_flow.proofs.HostLimits.{passes_at}

-- the limits of a device
pub record IsLimitedDevice (d : NetDevice) : Type 0 where
  pub aligned : d.base % 4096 ≡ 0
  pub some : 0 < d.pages
  pub few : d.pages ≤ 256
  pub in_range : d.base + d.pages * 4096 ≤ 2 ^ 56
  pub fits : length d.image ≤ d.pages * 4096

device_limits : (network : Network) → is_limited network ≡ true → list_all is_limited_device network.devices ≡ true
device_limits network h = grind (arith, h)

few_devices : (network : Network) → is_limited network ≡ true → length network.devices ≤ 32
few_devices network h = grind (arith, h)

limits_of_device : (d : NetDevice) → is_limited_device d ≡ true → is_placed_device d ≡ true → nat_lt (device_size d) (length d.image) ≡ false → IsLimitedDevice d
limits_of_device d pages placed image =
    let p = and_parts (nat_le 1 d.pages) (nat_le d.pages 256) pages in
    let q = and_parts (d.base % 4096 == 0) (nat_le (d.base + device_size d) (2 ^ 56)) placed in
    let least = p.0 in
    let most = p.1 in
    let page = q.0 in
    let high = q.1 in
    record { aligned = grind (arith, nat_tests); some = grind (arith, nat_tests); few = grind (arith, nat_tests); in_range = grind (arith, nat_tests); fits = grind (arith, nat_tests) }

pub limited_device : (network : Network) (d : ℕ) (dev : NetDevice) → IsAccepted network → d < length network.devices → slice_get network.devices d ≡ Some dev → IsLimitedDevice dev
limited_device network d dev good lt got =
    let at : get_or network.devices d dev ≡ dev = (let some : Some (get_or network.devices d dev) ≡ Some dev = sym (slice_get-get_or network.devices d dev lt) ∙ got in cc) in
    limits_of_device dev (subst (λ (x : NetDevice). is_limited_device x ≡ true) at (passes_at is_limited_device network.devices d dev (device_limits network good.limits) lt))
    (at_got (λ x. is_placed_device x ≡ true) network.devices d dev (all_pass is_placed_device 0 network.devices good.placed) got)
    (at_got (λ x. nat_lt (device_size x) (length x.image) ≡ false) network.devices d dev (position_from-None (λ x. nat_lt (device_size x) (length x.image)) 0 network.devices good.images) got)

-- the device of a bundle's row
pub device_got : (b : Bundle) (k : ℕ) (row : DevicePlan) → k < length b.devices.items → row ≡ get_or b.devices.items k row → slice_get (network_of b).devices k ≡ Some (device_of row)
device_got b k row lt at = slice_get-get_or (map device_of b.devices.items) k (device_of row) (omega (arith, lt, length-map b.devices.items device_of))
    ∙ ap (λ l. Some l) (get_or-map device_of b.devices.items k row (device_of row) lt ∙ ap device_of (sym at))

pub opening_is : (network : Network) (d : ℕ) (dev : NetDevice) → slice_get network.devices d ≡ Some dev → opening_memory network d ≡ opening_of dev
opening_is network d dev got = ap (λ (o : Option NetDevice). option_map_or opening_of o (record { base = 0; bytes = []; readonly = true })) got

-- a device's memory has all its bytes from the beginning
opening_sized : (network : Network) (d : ℕ) (dev : NetDevice) → IsAccepted network → d < length network.devices → slice_get network.devices d ≡ Some dev → held_bytes (opening_of dev) ≡ device_size dev
opening_sized network d dev good lt got =
    let fits = (limited_device network d dev good lt got).fits in
    let long : length dev.image + (device_size dev - length dev.image) ≡ device_size dev = omega (arith, fits) in
    length-append dev.image (replicate (device_size dev - length dev.image) 0) ∙ ap (λ n. length dev.image + n) (length-replicate (device_size dev - length dev.image) 0) ∙ long

pub opening_held : (network : Network) (d : ℕ) (dev : NetDevice) → IsAccepted network → d < length network.devices → slice_get network.devices d ≡ Some dev → held_bytes (opening_memory network d) ≡ device_size dev
opening_held network d dev good lt got = ap held_bytes (opening_is network d dev got) ∙ opening_sized network d dev good lt got

-- a device's memory lies where the plan of a ring says
pub opening_range : (network : Network) (ring d : ℕ) (dev : NetDevice) → IsAccepted network → d < length network.devices → slice_get network.devices d ≡ Some dev
    → slice_get (device_ranges (ring_flows network ring)) d ≡ Some (record { base = (opening_memory network d).base; bytes = held_bytes (opening_memory network d) })
opening_range network ring d dev good lt got =
    let range : ℕ → AddressRange = λ d. option_map_or range_of (slice_get network.devices d) (record { base = 0; bytes = 0 }) in
    let count = length network.devices in
    let shown : device_ranges (ring_flows network ring) ≡ map range (range_with_len 0 count) = take-map-range_with_len range 0 32 count (few_devices network good.limits) in
    let there : d < length (map range (range_with_len 0 count)) = omega (arith, lt, length-map-range_with_len range 0 count) in
    let none : AddressRange = record { base = 0; bytes = 0 } in
    let zero_d : 0 + d ≡ d = omega arith in
    let held = opening_sized network d dev good lt got in
    ap (λ list. slice_get list d) shown ∙ slice_get-get_or (map range (range_with_len 0 count)) d none there
    ∙ ap (λ x. Some x) (get_or-map-range_with_len range 0 count d d none lt zero_d ∙ ap (λ (o : Option NetDevice). option_map_or range_of o (record { base = 0; bytes = 0 })) got
    ∙ ap (λ (n : ℕ). record { base = dev.base; bytes = n }) (sym held) ∙ ap (λ (m : MemoryState). record { base = m.base; bytes = held_bytes m }) (sym (opening_is network d dev got)))
