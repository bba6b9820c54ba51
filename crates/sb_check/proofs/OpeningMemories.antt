-- The memories of an accepted network's devices: whole pages, in which their images fit.
use Rattle.std.proofs.Common.{◌≡◌, ◌≤◌, ◌<◌, ℕ, ◌+◌, ◌-◌, ◌*◌, ◌%◌, ◌^◌, true, false, [], length, replicate, sym, ap, ◌∙◌, subst, arith, length-append}
use Rattle.std.specs.Prelude.{◌==◌, Option, Some, get_or, map, nat_le, nat_lt, slice_get}
use Rattle.std.specs.List.{list_all}
use Rattle.std.specs.Option.{option_map_or}
use Rattle.std.proofs.lemmas.Bool.{and_parts}
use Rattle.std.proofs.lemmas.Bool.Decides.{nat_tests}
use Rattle.std.proofs.lemmas.List.{get_or-map, length-map, length-replicate}
use Rattle.std.proofs.lemmas.Option.{get_or_from_slice_get, slice_get-get_or, slice_get_within}
use Rattle.sb_packet.specs.Networks.{NetDevice, Network, device_size, opening_memory, opening_of}
use Rattle.sb_flow.specs.Accepted.{IsAccepted, is_limited, is_limited_device, is_placed_device}
use Rattle.sb_flow.specs.NetworkOf.{network_of}
use Rattle.sb_flow.specs.Rows.{device_of}
use Rattle.sb_flow.specs.declared.bundle.Bundle.{Bundle}
use Rattle.sb_flow.specs.declared.device_plan.DevicePlan.{DevicePlan}
use Rattle.sb_flow.proofs.AcceptedLinks.{at_got}
use Rattle.sb_flow.proofs.Clashes.{all_pass, position_from-None}
use Rattle.sb_flow.proofs.HostLimits.{passes_at}

-- the limits of a device
pub record IsPagedDevice (d : NetDevice) : Type 0 where
  pub aligned : d.base % 4096 ≡ 0
  pub some : 0 < d.pages
  pub few : d.pages ≤ 256
  pub in_range : d.base + d.pages * 4096 ≤ 2 ^ 56
  pub fits : length d.image ≤ d.pages * 4096

device_limits : (network : Network) → is_limited network ≡ true → list_all is_limited_device network.devices ≡ true
device_limits network h = grind (arith, h)

limits_of_device : (d : NetDevice) → is_limited_device d ≡ true → is_placed_device d ≡ true → nat_lt (device_size d) (length d.image) ≡ false → IsPagedDevice d
limits_of_device d pages placed image =
    let p = and_parts (nat_le 1 d.pages) (nat_le d.pages 256) pages in
    let q = and_parts (d.base % 4096 == 0) (nat_le (d.base + device_size d) (2 ^ 56)) placed in
    let least = p.0 in
    let most = p.1 in
    let page = q.0 in
    let high = q.1 in
    record { aligned = grind (arith, nat_tests); some = grind (arith, nat_tests); few = grind (arith, nat_tests); in_range = grind (arith, nat_tests); fits = grind (arith, nat_tests) }

pub paged_device : (network : Network) (d : ℕ) (dev : NetDevice) → IsAccepted network → slice_get network.devices d ≡ Some dev → IsPagedDevice dev
paged_device network d dev good got =
    let inside = slice_get_within network.devices d dev got in
    limits_of_device dev
    (subst (λ (x : NetDevice). is_limited_device x ≡ true) (get_or_from_slice_get network.devices d dev dev got) (passes_at is_limited_device network.devices d dev (device_limits network good.limits) inside))
    (at_got (λ x. is_placed_device x ≡ true) network.devices d dev (all_pass is_placed_device 0 network.devices good.placed) got)
    (at_got (λ x. nat_lt (device_size x) (length x.image) ≡ false) network.devices d dev (position_from-None (λ x. nat_lt (device_size x) (length x.image)) 0 network.devices good.images) got)

-- the device of a bundle's row
pub row_got : (b : Bundle) (k : ℕ) (row : DevicePlan) → k < length b.devices.items → row ≡ get_or b.devices.items k row → slice_get (network_of b).devices k ≡ Some (device_of row)
row_got b k row lt at = slice_get-get_or (map device_of b.devices.items) k (device_of row) (omega (arith, lt, length-map b.devices.items device_of))
    ∙ ap (λ l. Some l) (get_or-map device_of b.devices.items k row (device_of row) lt ∙ ap device_of (sym at))

pub opened : (network : Network) (d : ℕ) (dev : NetDevice) → slice_get network.devices d ≡ Some dev → opening_memory network d ≡ opening_of dev
opened network d dev got = ap (λ (o : Option NetDevice). option_map_or opening_of o (record { base = 0; bytes = []; readonly = true })) got

-- a device's memory has all its bytes from the beginning
pub opened_long : (network : Network) (d : ℕ) (dev : NetDevice) → IsAccepted network → slice_get network.devices d ≡ Some dev → length (opening_memory network d).bytes ≡ device_size dev
opened_long network d dev good got =
    let fits = (paged_device network d dev good got).fits in
    let long : length dev.image + (device_size dev - length dev.image) ≡ device_size dev = omega (arith, fits) in
    ap (λ m. length m.bytes) (opened network d dev got)
    ∙ length-append dev.image (replicate (device_size dev - length dev.image) 0) ∙ ap (λ n. length dev.image + n) (length-replicate (device_size dev - length dev.image) 0) ∙ long
