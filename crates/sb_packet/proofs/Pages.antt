-- A device is made of whole pages, and a transaction lies within one.
use Rattle.std.proofs.Common.{◌≡◌, ◌≤◌, ◌<◌, ℕ, ◌+◌, ◌*◌, ◌%◌, arith, refl}
use Rattle.std.specs.Prelude.{nat_le, nat_lt}
use Rattle.std.proofs.lemmas.Bool.Decides.{nat_tests}
use Rattle.sb_packet.specs.Networks.{NetDevice, has_address}

-- an address with others behind it in its page: a device has all of them or none
pub has_all_or_none : (d : NetDevice) (address n k : ℕ) → d.base % 4096 ≡ 0 → address % 4096 + n ≤ 4096 → k < n → has_address (address + k) d ≡ has_address address d
has_all_or_none d address n k whole page inside =
    let low : nat_le d.base (address + k) ≡ nat_le d.base address = grind (arith, nat_tests) in
    let high : nat_lt (address + k) (d.base + d.pages * 4096) ≡ nat_lt address (d.base + d.pages * 4096) = grind (arith, nat_tests) in
    rw (low, high) refl
