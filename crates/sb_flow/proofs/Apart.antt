-- An address is of one device at most.
use Rattle.std.proofs.Common.{◌≡◌, ◌<◌, ℕ, ◌+◌, true, length, get_or, arith, None, ltb-true}
use Rattle.std.specs.Prelude.{nat_le, nat_lt, not}
use Rattle.std.proofs.lemmas.Bool.{and_parts, leb-true, not-false, or_cases}
use mathlib.Core.Logic.{inl, inr}
use Rattle.sb_packet.specs.Networks.{NetDevice, Network, device_at, device_size, has_address}
use Rattle.sb_link.specs.RingPlans.{are_apart}
use Rattle.sb_flow.specs.Ways.{is_some_number}
use Rattle.sb_flow.specs.Rings.{range_of}
use Rattle.sb_flow.specs.Accepted.{overlapping_device}
use Rattle.sb_flow.proofs.Clashes.{no_clash}
use Rattle.sb_flow.proofs.Singles.{IsSingle, position_from-is}

-- each two devices lie apart
pub devices_apart : (network : Network) (i j : ℕ) (d : NetDevice) → overlapping_device network ≡ None → i < j → j < length network.devices → are_apart (range_of (get_or network.devices j d)) (range_of (get_or network.devices i d)) ≡ true
devices_apart network i j d apart below high = not-false (are_apart (range_of (get_or network.devices j d)) (range_of (get_or network.devices i d))) (no_clash (λ x y. not (are_apart (range_of x) (range_of y))) network.devices i j d apart below high)

-- two devices that lie apart have no address in common
not_both : (x y : NetDevice) (a : ℕ) → are_apart (range_of x) (range_of y) ≡ true → has_address a y ≡ true → has_address a x ≡ true → ⊥
not_both x y a apart in_y in_x =
    let ys = and_parts (nat_le y.base a) (nat_lt a (y.base + device_size y)) in_y in
    let xs = and_parts (nat_le x.base a) (nat_lt a (x.base + device_size x)) in_x in
    let y_low = leb-true y.base a ys.0 in
    let x_low = leb-true x.base a xs.0 in
    let y_high = ltb-true a (y.base + device_size y) ys.1 in
    let x_high = ltb-true a (x.base + device_size x) xs.1 in
    elim (or_cases (nat_le (x.base + device_size x) y.base) (nat_le (y.base + device_size y) x.base) apart) [
      | inl before ↦ omega (arith, leb-true (x.base + device_size x) y.base before, y_low, x_high)
      | inr behind ↦ omega (arith, leb-true (y.base + device_size y) x.base behind, x_low, y_high)
    ]

-- so an address is of one of them at most
pub one_device : (network : Network) (a : ℕ) → overlapping_device network ≡ None → IsSingle (has_address a) network.devices
one_device network a apart i j d below high in_i in_j = not_both (get_or network.devices j d) (get_or network.devices i d) a (devices_apart network i j d apart below high) in_i in_j

-- the device that has an address is the one in whose range it lies
pub device_at-is : (network : Network) (a k : ℕ) (d : NetDevice) → overlapping_device network ≡ None → k < length network.devices → is_some_number k (device_at network a) ≡ has_address a (get_or network.devices k d)
device_at-is network a k d apart h = let e : 0 + k ≡ k = omega arith in rw e at (position_from-is (has_address a) 0 k network.devices d (one_device network a apart) h)
