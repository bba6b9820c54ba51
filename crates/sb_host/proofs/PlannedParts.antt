-- The packets of a transaction lie in the range of the device that has its address.
use Rattle.std.proofs.Common.{◌≡◌, ◌≤◌, ◌<◌, ◌+◌, ◌-◌, ◌*◌, ◌%◌, ◌^◌, ℕ, zero, suc, arith, refl, sym, ap, ◌∙◌, length, List, [], ◌∷◌, true, false, Option, take}
use Rattle.std.specs.Prelude.{All, map, nat_le, nat_lt, ◌==◌, slice_get, if◌then◌else◌}
use Rattle.std.specs.List.{position_from, range_with_len, AllByRecursion}
use Rattle.std.specs.Option.{option_map_or}
use Rattle.std.proofs.Math.ListN.{get_or}
use Rattle.std.proofs.Math.Nat.{mul-le-mul_right}
use Rattle.std.proofs.Math.Pow.{pow_pos}
use Rattle.std.proofs.lemmas.Bool.Decides.{nat_tests}
use Rattle.std.proofs.lemmas.List.{length-map, length-take-le, get_or-take, get_or-map, same_lists}
use Rattle.std.proofs.lemmas.List.Elements.{All-nil, All-cons, All-weaker}
use Rattle.std.proofs.lemmas.List.FromFn.{get_or-map-range_with_len, length-map-range_with_len}
use Rattle.std.proofs.lemmas.Option.{slice_get-get_or}
use Rattle.std.proofs.lemmas.Bool.{and_parts}
use Rattle.sb_packet.specs.Cuts.{cut_parts, first_part, is_one_part, other_parts, parts_in, words_in}
use Rattle.sb_packet.specs.Messages.{Message, message_span}
use Rattle.sb_packet.specs.Networks.{NetDevice, Network, device_size, has_address}
use Rattle.sb_link.specs.RingPlans.{AddressRange, device_ranges, holds_span}
use Rattle.sb_flow.specs.Rings.{range_of, ring_flows}
use Rattle.sb_packet.proofs.CutWords.{more_than_fit}
use Rattle.sb_link.proofs.Truths.{same_test}
use Rattle.sb_flow.specs.Accepted.{is_placed_device}

-- a part lies within its message
pub record LiesIn (m p : Message) : Type 0 where
  pub op : p.op ≡ m.op
  pub host : p.host ≡ m.host
  pub first : m.dst ≤ p.dst
  pub last : p.dst + message_span p ≤ m.dst + message_span m
  pub some : 0 < message_span p

some_span : (count size : ℕ) → 0 < count → 0 < count * 2 ^ size
some_span count size some =
    let one = pow_pos size in
    let more : 1 * 2 ^ size ≤ count * 2 ^ size = mul-le-mul_right (2 ^ size) some in
    omega (arith, one, more)

parts_lie : (n width : ℕ) (m : Message) → 0 < m.count → 0 < words_in width m → All (LiesIn m) (parts_in n width m)
parts_lie zero width m more some = All-cons (LiesIn m) m [] (record { op = refl; host = refl; first = omega arith; last = omega arith; some = some_span m.count m.size more }) (All-nil (LiesIn m))
parts_lie (suc n) width m more some =
    elim (is_one_part width m) as (λ one. is_one_part width m ≡ one → All (LiesIn m) (if one then m ∷ [] else first_part width m ∷ parts_in n width (other_parts width m))) [
      | true ↦ λ h. All-cons (LiesIn m) m [] (record { op = refl; host = refl; first = omega arith; last = omega arith; some = some_span m.count m.size more }) (All-nil (LiesIn m))
      | false ↦ λ h.
          let w = words_in width m in
          let s = 2 ^ m.size in
          let below : w < m.count = more_than_fit width m h in
          let span : w * s ≤ m.count * s = mul-le-mul_right s (omega (arith, below)) in
          let split : (m.count - w) * s + w * s ≡ m.count * s = (let joined : (m.count - w) + w ≡ m.count = omega (arith, below) in let spread : ((m.count - w) + w) * s ≡ (m.count - w) * s + w * s = omega arith in sym spread ∙ ap (λ (k : ℕ). k * s) joined) in
          All-cons (LiesIn m) (first_part width m) (parts_in n width (other_parts width m))
          (record { op = refl; host = refl; first = omega arith; last = omega (arith, span); some = some_span w m.size some })
          (All-weaker (LiesIn (other_parts width m)) (LiesIn m)
          (λ p is. let first = is.first in let last = is.last in record { op = is.op; host = is.host; first = omega (arith, first); last = omega (arith, last, split); some = is.some })
          (parts_in n width (other_parts width m))
          (parts_lie n width (other_parts width m) (omega (arith, below)) some))
    ] refl

-- each packet of a message lies within it
pub cut_lies : (width : ℕ) (m : Message) → 0 < m.count → 0 < words_in width m → All (LiesIn m) (cut_parts width m)
cut_lies width m more some = parts_lie m.count width m more some

-- a device has all bytes of a packet where it has the address of its transaction
same_range : (d : NetDevice) (a n p s : ℕ) → is_placed_device d ≡ true → a % 4096 + n ≤ 4096 → a ≤ p → p + s ≤ a + n → 0 < s → holds_span p s (range_of d) ≡ has_address a d
same_range d a n p s placed page first last some =
    let page_first = (and_parts (d.base % 4096 == 0) (nat_le (d.base + device_size d) (2 ^ 56)) placed).0 in
    let whole : d.base % 4096 ≡ 0 = grind (arith, nat_tests) in
    same_test (holds_span p s (range_of d)) (has_address a d)
    (λ holds.
    let parts = and_parts (nat_le d.base p) (nat_le (p + s) (d.base + device_size d)) holds in
    let low_test = parts.0 in
    let high_test = parts.1 in
    let low : d.base ≤ p = grind (arith, nat_tests) in
    let high : p + s ≤ d.base + d.pages * 4096 = grind (arith, nat_tests) in
    let low_too : d.base ≤ a = omega (arith, low, whole, page, first, last, some) in
    let high_too : a < d.base + d.pages * 4096 = omega (arith, high, first, some) in
    let a_test : nat_le d.base a ≡ true = grind (arith, nat_tests) in
    let b_test : nat_lt a (d.base + device_size d) ≡ true = grind (arith, nat_tests) in
    rw (a_test, b_test) refl)
    (λ has.
    let parts = and_parts (nat_le d.base a) (nat_lt a (d.base + device_size d)) has in
    let low_test = parts.0 in
    let high_test = parts.1 in
    let low : d.base ≤ a = grind (arith, nat_tests) in
    let high : a < d.base + d.pages * 4096 = grind (arith, nat_tests) in
    let low_too : d.base ≤ p = omega (arith, low, first) in
    let high_too : p + s ≤ d.base + d.pages * 4096 = omega (arith, high, whole, page, last) in
    let a_test : nat_le d.base p ≡ true = grind (arith, nat_tests) in
    let b_test : nat_le (p + s) (d.base + device_size d) ≡ true = grind (arith, nat_tests) in
    rw (a_test, b_test) refl)

-- so the device of a packet is that of its transaction
pub same_device : (i a n p s : ℕ) (devices : List NetDevice) → AllByRecursion (λ d. is_placed_device d ≡ true) devices → a % 4096 + n ≤ 4096 → a ≤ p → p + s ≤ a + n → 0 < s
    → position_from (holds_span p s) i (map range_of devices) ≡ position_from (has_address a) i devices
same_device i a n p s [] placed page first last some = refl
same_device i a n p s (d ∷ devices) placed page first last some =
    rw (same_range d a n p s placed.0 page first last some, same_device (i + 1) a n p s devices placed.1 page first last some) refl

-- the ranges that a ring's plan names are those of the devices
pub ranges_are : (network : Network) (ring : ℕ) → length network.devices ≤ 32 → device_ranges (ring_flows network ring) ≡ map range_of network.devices
ranges_are network ring few =
    let none : AddressRange = record { base = 0; bytes = 0 } in
    let f : ℕ → AddressRange = λ d. option_map_or range_of (slice_get network.devices d) none in
    let n = length network.devices in
    let long : length (take n (map f (range_with_len 0 32))) ≡ n = length-take-le n (map f (range_with_len 0 32)) (let all = length-map-range_with_len f 0 32 in omega (arith, all, few)) in
    same_lists (take n (map f (range_with_len 0 32))) (map range_of network.devices) (long ∙ sym (length-map network.devices range_of)) (λ k d inside.
    let below : k < n = omega (arith, inside, long) in
    let device = get_or network.devices k none_device in
    get_or-take n (map f (range_with_len 0 32)) k d below
    ∙ get_or-map-range_with_len f 0 32 k k d (omega (arith, below, few)) (omega arith)
    ∙ ap (λ (o : Option NetDevice). option_map_or range_of o none) (slice_get-get_or network.devices k none_device below)
    ∙ sym (get_or-map range_of network.devices k none_device d below))
  where
    none_device : NetDevice
    none_device = record { name = []; base = 0; pages = 0; readonly = false; image = [] }
