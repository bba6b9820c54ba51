-- The ranges that the code fills in are those of the network's devices.
use Rattle.std.proofs.Common.{◌≡◌, ◌≤◌, ◌<◌, ℕ, zero, suc, ◌+◌, ◌%◌, ◌^◌, Bool, true, false, ◌||◌, List, [], ◌∷◌, length, take, get_or, refl, ap, sym, ◌∙◌, arith, map, Option, Some, None}
use Rattle.std.specs.Prelude.{◌==◌, nat_le, option_map, slice_get, slice_index_or}
use Rattle.std.specs.List.{AllByRecursion, range_with_len}
use Rattle.std.specs.Option.{option_map_or}
use Rattle.std.proofs.Math.Nat.{mul-mod_left}
use Rattle.std.proofs.lemmas.Bool.{and_parts, eqb-true, leb-true}
use Rattle.std.proofs.lemmas.List.{get_or-map, length-map}
use Rattle.std.proofs.lemmas.List.Elements.{All-from_recursion, All-map}
use Rattle.std.proofs.lemmas.List.FromFn.{fill_by_all, get_or-map-range_with_len, take-map-range_with_len}
use Rattle.sb_packet.specs.Networks.{NetDevice, Network, device_size}
use Rattle.sb_link.specs.RingPlans.{AddressRange, AreApart, are_apart}
use Rattle.sb_flow.specs.Rings.{network_ranges, range_of}
use Rattle.sb_link.specs.Plans.{AreInRange, AreWholePages, ranges_of}
use Rattle.sb_flow.specs.Accepted.{IsAccepted, is_placed_device}
use Rattle.sb_flow.specs.Rows.{device_of}
use Rattle.sb_flow.specs.declared.device_plan.DevicePlan.{DevicePlan}
use Rattle.sb_flow.proofs.LinkMarks.{map_range_agree}
use Rattle.sb_flow.proofs.Clashes.{all_pass}
use Rattle.sb_flow.proofs.Apart.{devices_apart}

-- no range, for an unused place
abbrev no_range : AddressRange
no_range = record { base = 0; bytes = 0 }

slice_get-map : {A B : Type 0} (f : A → B) (xs : List A) (k : ℕ) → slice_get (map f xs) k ≡ option_map f (slice_get xs k)
slice_get-map f [] k = refl
slice_get-map f (x ∷ xs) zero = refl
slice_get-map f (x ∷ xs) (suc k) = slice_get-map f xs k

pub slice_get-there : {A : Type 0} (xs : List A) (k : ℕ) (d : A) → k < length xs → slice_get xs k ≡ Some (get_or xs k d)
slice_get-there [] k d h = absurd (omega arith)
slice_get-there (x ∷ xs) zero d h = refl
slice_get-there (x ∷ xs) (suc k) d h = slice_get-there xs k d (omega arith)

-- the first addresses and the numbers of bytes, as ranges
pub ranges_are : (devices : List DevicePlan) (base bytes : List ℕ) → base ≡ map (λ k. option_map_or (λ (d : DevicePlan). d.base) (slice_get devices k) 0) (range_with_len 0 32) → bytes ≡ map (λ k. option_map_or (λ d. device_size (device_of d)) (slice_get devices k) 0) (range_with_len 0 32)
    → ranges_of base bytes ≡ map (λ k. option_map_or range_of (slice_get (map device_of devices) k) no_range) (range_with_len 0 32)
ranges_are devices base bytes bases sizes = map_range_agree (λ k. record { base = slice_index_or base k 0; bytes = slice_index_or bytes k 0 }) (λ k. option_map_or range_of (slice_get (map device_of devices) k) no_range) 0 32 one
  where
    by : (found : Option DevicePlan) → record { base = option_map_or (λ (d : DevicePlan). d.base) found 0; bytes = option_map_or (λ d. device_size (device_of d)) found 0 } ≡ option_map_or range_of (option_map device_of found) no_range
    by None = refl
    by (Some d) = refl

    one : (k : ℕ) → 0 ≤ k → k < 0 + 32 → record { base = slice_index_or base k 0; bytes = slice_index_or bytes k 0 } ≡ option_map_or range_of (slice_get (map device_of devices) k) no_range
    one k low high =
        let there : k < 32 = omega arith in
        let b : slice_index_or base k 0 ≡ option_map_or (λ (d : DevicePlan). d.base) (slice_get devices k) 0 = ap (λ (xs : List ℕ). get_or xs k 0) bases ∙ get_or-map-range_with_len (λ k. option_map_or (λ (d : DevicePlan). d.base) (slice_get devices k) 0) 0 32 k k 0 there (omega arith) in
        let s : slice_index_or bytes k 0 ≡ option_map_or (λ (d : DevicePlan). device_size (device_of d)) (slice_get devices k) 0 = ap (λ (xs : List ℕ). get_or xs k 0) sizes ∙ get_or-map-range_with_len (λ k. option_map_or (λ (d : DevicePlan). device_size (device_of d)) (slice_get devices k) 0) 0 32 k k 0 there (omega arith) in
        ap (λ (n : ℕ). record { base = n; bytes = slice_index_or bytes k 0 }) b ∙ ap (λ (n : ℕ). record { base = option_map_or (λ (d : DevicePlan). d.base) (slice_get devices k) 0; bytes = n }) s
        ∙ by (slice_get devices k) ∙ ap (λ (found : Option NetDevice). option_map_or range_of found no_range) (sym (slice_get-map device_of devices k))

-- the used places have the ranges of the devices
pub used_ranges : (network : Network) → length network.devices ≤ 32 → take (length network.devices) (network_ranges network) ≡ map range_of network.devices
used_ranges network few =
    take-map-range_with_len (λ k. option_map_or range_of (slice_get network.devices k) no_range) 0 32 (length network.devices) few
    ∙ sym (fill_by_all (λ k. option_map_or range_of (slice_get network.devices k) no_range) (map range_of network.devices) (length network.devices) no_range (length-map network.devices range_of) one)
  where
    no_device : NetDevice
    no_device = record { name = []; base = 0; pages = 0; readonly = true; image = [] }

    one : (k : ℕ) → k < length network.devices → get_or (map range_of network.devices) k no_range ≡ option_map_or range_of (slice_get network.devices k) no_range
    one k h = get_or-map range_of network.devices k no_device no_range h ∙ ap (λ (found : Option NetDevice). option_map_or range_of found no_range) (sym (slice_get-there network.devices k no_device h))

-- that two ranges lie apart may be said either way round
apart-swap : (a b : AddressRange) → are_apart a b ≡ true → are_apart b a ≡ true
apart-swap a b h = by (nat_le (a.base + a.bytes) b.base) (nat_le (b.base + b.bytes) a.base) h
  where
    by : (x y : Bool) → (x || y) ≡ true → (y || x) ≡ true
    by true true h = refl
    by true false h = refl
    by false true h = refl
    by false false h = h

-- the ranges of devices lie apart
pub ranges_apart : (network : Network) → IsAccepted network → AreApart (map range_of network.devices)
ranges_apart network good i j none below high =
    let there : j < length network.devices = omega (arith, length-map network.devices range_of) in
    let none_there : NetDevice = record { name = []; base = 0; pages = 0; readonly = true; image = [] } in
    rw (get_or-map range_of network.devices i none_there none (omega arith), get_or-map range_of network.devices j none_there none there)
    (apart-swap (range_of (get_or network.devices j none_there)) (range_of (get_or network.devices i none_there)) (devices_apart network i j none_there good.apart below there))

-- and end at most at 2 ^ 56
pub ranges_in_range : (network : Network) → IsAccepted network → AreInRange (map range_of network.devices)
ranges_in_range network good = All-map (λ (r : AddressRange). r.base + r.bytes ≤ 2 ^ 56) range_of network.devices (All-from_recursion (λ (d : NetDevice). (range_of d).base + (range_of d).bytes ≤ 2 ^ 56) network.devices (each network.devices (all_pass is_placed_device 0 network.devices good.placed)))
  where
    each : (devices : List NetDevice) → AllByRecursion (λ d. is_placed_device d ≡ true) devices → AllByRecursion (λ (d : NetDevice). (range_of d).base + (range_of d).bytes ≤ 2 ^ 56) devices
    each [] h = tt
    each (d ∷ devices) h = (leb-true (d.base + device_size d) (2 ^ 56) (and_parts (d.base % 4096 == 0) (nat_le (d.base + device_size d) (2 ^ 56)) h.0).1, each devices h.1)

-- and are whole pages
pub ranges_paged : (network : Network) → IsAccepted network → AreWholePages (map range_of network.devices)
ranges_paged network good = All-map (λ (r : AddressRange). (r.base % 4096 ≡ 0) × (r.bytes % 4096 ≡ 0)) range_of network.devices (All-from_recursion (λ (d : NetDevice). ((range_of d).base % 4096 ≡ 0) × ((range_of d).bytes % 4096 ≡ 0)) network.devices (each network.devices (all_pass is_placed_device 0 network.devices good.placed)))
  where
    each : (devices : List NetDevice) → AllByRecursion (λ d. is_placed_device d ≡ true) devices → AllByRecursion (λ (d : NetDevice). ((range_of d).base % 4096 ≡ 0) × ((range_of d).bytes % 4096 ≡ 0)) devices
    each [] h = tt
    each (d ∷ devices) h = ((eqb-true (d.base % 4096) 0 (and_parts (d.base % 4096 == 0) (nat_le (d.base + device_size d) (2 ^ 56)) h.0).0, mul-mod_left d.pages 4096), each devices h.1)
