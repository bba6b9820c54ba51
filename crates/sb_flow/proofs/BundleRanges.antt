-- The ranges of a bundle's devices, as a ring's plan has them.
use Rattle.std.proofs.Common.{◌≡◌, ℕ, List, length, take, ap, sym, ◌∙◌, map, subst}
use Rattle.std.specs.Prelude.{slice_get}
use Rattle.std.specs.List.{range_with_len}
use Rattle.std.specs.Option.{option_map_or}
use Rattle.std.specs.Vec.{vec_len}
use Rattle.sb_packet.specs.Networks.{device_size}
use Rattle.sb_link.specs.RingPlans.{AddressRange, AreApart, RingFlows}
use Rattle.sb_flow.specs.Rings.{network_ranges, range_of}
use Rattle.sb_link.specs.Plans.{AreInRange, AreWholePages, bits_of, ranges_of}
use Rattle.sb_flow.specs.Rows.{device_of}
use Rattle.sb_flow.specs.NetworkOf.{network_of}
use Rattle.sb_flow.specs.declared.bundle.Bundle.{Bundle}
use Rattle.sb_flow.specs.declared.device_plan.DevicePlan.{DevicePlan}
use Rattle.sb_flow.proofs.Bundles.{accepted, device_count, few_devices}
use Rattle.sb_flow.proofs.RangeTables.{ranges_apart, ranges_are, ranges_in_range, ranges_paged, used_ranges}

-- what the code fills in of a bundle's devices
pub record IsFilled (b : Bundle) (count : ℕ) (base bytes : List ℕ) : Type 0 where
  pub counted : count ≡ vec_len b.devices
  pub bases : base ≡ map (λ k. option_map_or (λ (d : DevicePlan). d.base) (slice_get b.devices.items k) 0) (range_with_len 0 32)
  pub sizes : bytes ≡ map (λ k. option_map_or (λ d. device_size (device_of d)) (slice_get b.devices.items k) 0) (range_with_len 0 32)

-- all places
pub all_places : (b : Bundle) (count : ℕ) (base bytes : List ℕ) → IsFilled b count base bytes → ranges_of base bytes ≡ network_ranges (network_of b)
all_places b count base bytes filled = ranges_are b.devices.items base bytes filled.bases filled.sizes

-- the used ones
pub used_places : (b : Bundle) (count : ℕ) (base bytes : List ℕ) → IsFilled b count base bytes → take count (ranges_of base bytes) ≡ map range_of (network_of b).devices
used_places b count base bytes filled =
    ap (λ (n : ℕ). take n (ranges_of base bytes)) (filled.counted ∙ sym (device_count b)) ∙ ap (take (length (network_of b).devices)) (all_places b count base bytes filled) ∙ used_ranges (network_of b) (few_devices b)

pub filled_apart : (b : Bundle) (count : ℕ) (base bytes : List ℕ) → IsFilled b count base bytes → AreApart (take count (ranges_of base bytes))
filled_apart b count base bytes filled = subst (λ (ranges : List AddressRange). AreApart ranges) (sym (used_places b count base bytes filled)) (ranges_apart (network_of b) (accepted b))

pub filled_in_range : (b : Bundle) (count : ℕ) (base bytes : List ℕ) → IsFilled b count base bytes → AreInRange (take count (ranges_of base bytes))
filled_in_range b count base bytes filled = subst (λ (ranges : List AddressRange). AreInRange ranges) (sym (used_places b count base bytes filled)) (ranges_in_range (network_of b) (accepted b))

pub filled_paged : (b : Bundle) (count : ℕ) (base bytes : List ℕ) → IsFilled b count base bytes → AreWholePages (take count (ranges_of base bytes))
filled_paged b count base bytes filled = subst (λ (ranges : List AddressRange). AreWholePages ranges) (sym (used_places b count base bytes filled)) (ranges_paged (network_of b) (accepted b))

-- the flows of a plan
pub filled_flows : (b : Bundle) (count : ℕ) (base bytes through : List ℕ) → IsFilled b count base bytes → let flows : RingFlows = record { devices = count; ranges = ranges_of base bytes; through = map bits_of through } in flows ≡ record { devices = length (network_of b).devices; ranges = network_ranges (network_of b); through = map bits_of through }
filled_flows b count base bytes through filled =
    ap (λ (n : ℕ). let flows : RingFlows = record { devices = n; ranges = ranges_of base bytes; through = map bits_of through } in flows) (filled.counted ∙ sym (device_count b))
    ∙ ap (λ (ranges : List AddressRange). let flows : RingFlows = record { devices = length (network_of b).devices; ranges = ranges; through = map bits_of through } in flows) (all_places b count base bytes filled)
