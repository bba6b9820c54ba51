-- All addresses of a page are one device's, or no device's.
use Rattle.std.proofs.Common.{◌≡◌, ◌<◌, ℕ, ◌+◌, ◌*◌, ◌%◌, ◌^◌, Bool, true, false, List, [], ◌∷◌, refl, arith, None, le-leb, ltb-true, ltb-false, leb-false}
use Rattle.std.specs.Prelude.{◌==◌, nat_le, nat_lt}
use Rattle.std.specs.List.{AllByRecursion, position_from}
use Rattle.std.proofs.lemmas.Bool.{and_parts, eqb-true, leb-true, lt-leb, lt-ltb, le-ltb}
use Rattle.sb_packet.specs.Networks.{NetDevice, Network, device_at, device_size, has_address}
use Rattle.sb_flow.specs.Accepted.{is_placed_device, misplaced_device}
use Rattle.sb_flow.proofs.Clashes.{all_pass}

-- a page begins at or below an address just where it does so for one further on in the same page
nat_le-page : (base a x : ℕ) → base % 4096 ≡ 0 → a % 4096 + x < 4096 → nat_le base (a + x) ≡ nat_le base a
nat_le-page base a x whole within = by (nat_le base a) refl
  where
    by : (b : Bool) → nat_le base a ≡ b → nat_le base (a + x) ≡ b
    by true e = le-leb base (a + x) (omega (arith, leb-true base a e))
    by false e = lt-leb base (a + x) (omega (arith, leb-false base a e))

nat_lt-page : (end a x : ℕ) → end % 4096 ≡ 0 → a % 4096 + x < 4096 → nat_lt (a + x) end ≡ nat_lt a end
nat_lt-page end a x whole within = by (nat_lt a end) refl
  where
    by : (b : Bool) → nat_lt a end ≡ b → nat_lt (a + x) end ≡ b
    by true e = lt-ltb (a + x) end (omega (arith, ltb-true a end e))
    by false e = le-ltb (a + x) end (omega (arith, ltb-false a end e))

-- a device has all addresses of a page or none
has_address-page : (d : NetDevice) (a x : ℕ) → is_placed_device d ≡ true → a % 4096 + x < 4096 → has_address (a + x) d ≡ has_address a d
has_address-page d a x placed within =
    let whole : d.base % 4096 ≡ 0 = eqb-true (d.base % 4096) 0 (and_parts (d.base % 4096 == 0) (nat_le (d.base + device_size d) (2 ^ 56)) placed).0 in
    let end : (d.base + d.pages * 4096) % 4096 ≡ 0 = omega arith in
    rw (nat_le-page d.base a x whole within, nat_lt-page (d.base + d.pages * 4096) a x end within) refl

position_from-page : (s a x : ℕ) (devices : List NetDevice) → AllByRecursion (λ d. is_placed_device d ≡ true) devices → a % 4096 + x < 4096 → position_from (has_address (a + x)) s devices ≡ position_from (has_address a) s devices
position_from-page s a x [] placed within = refl
position_from-page s a x (d ∷ devices) placed within = rw (has_address-page d a x placed.0 within, position_from-page (s + 1) a x devices placed.1 within) refl

-- an address and one further on in its page are of one device
pub device_at-page : (network : Network) (a x : ℕ) → misplaced_device network ≡ None → a % 4096 + x < 4096 → device_at network (a + x) ≡ device_at network a
device_at-page network a x placed within = position_from-page 0 a x network.devices (all_pass is_placed_device 0 network.devices placed) within
