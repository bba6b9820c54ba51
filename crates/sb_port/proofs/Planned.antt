-- What a ring is made for it is made for in parts, and two messages that can be merged it is made for as one.
use Rattle.std.proofs.Common.{◌≡◌, ◌≤◌, ◌<◌, ℕ, suc, ◌+◌, ◌*◌, ◌/◌, ◌%◌, ◌^◌, List, [], ◌∷◌, length, get_or, refl, arith, Bool, true, false, Some, None, cond}
use Rattle.std.specs.Prelude.{◌==◌, ◌||◌, ◌≢◌, nat_le, Option, if◌then◌else◌, slice_index_or}
use Rattle.std.specs.List.{position_from}
use Rattle.std.specs.Option.{option_map, option_map_or}
use Rattle.std.proofs.lemmas.Bool.{and_parts, leb-true}
use Rattle.std.proofs.lemmas.Bool.Decides.{nat_tests}
use Rattle.std.proofs.Math.Nat.{mul-le-mul_right}
use Rattle.sb_packet.specs.Messages.{Message, message_span}
use Rattle.sb_packet.specs.Cuts.{IsSound, device_place, part_of, reply_place}
use Rattle.sb_packet.specs.Journals.{is_request}
use Rattle.sb_link.specs.RingPlans.{AddressRange, AreApart, RingFlows, RingPlan, device_ranges, goes_home, goes_through, holds_span, is_allowed}
use Rattle.sb_link.specs.Plans.{AreWholePages}
use Rattle.sb_link.specs.Traffic.{IsPlanned}
use Rattle.sb_link.proofs.Ranges.{only_range}
use Rattle.sb_cut.specs.Merges.{merge, AreMergeable}
use Rattle.sb_cut.proofs.MergedSound.{some_bytes, place_behind}
use Rattle.sb_cut.proofs.MergedWords.{span_of_merge}

abbrev no_range : AddressRange
no_range = record { base = 0; bytes = 0 }

-- a message goes home, and a device has all its bytes, to which its host's flow goes over the ring
record IsHeldBy (flows : RingFlows) (m : Message) (device : ℕ) : Type 0 where
  pub home : goes_home m ≡ true
  pub there : device < length (device_ranges flows)
  pub holds : holds_span (device_place m) (message_span m) (slice_index_or (device_ranges flows) device no_range) ≡ true
  pub through : goes_through flows (record { host = m.host; device = device }) ≡ true

record HasDevice (flows : RingFlows) (m : Message) : Type 0 where
  pub device : ℕ
  pub held : IsHeldBy flows m device

-- the first element that passes is one that does
record IsFoundAt {A : Type 0} (test : A → Bool) (k : ℕ) (xs : List A) (i : ℕ) (none : A) : Type 0 where
  pub place : ℕ
  pub sum : i ≡ k + place
  pub there : place < length xs
  pub passes : test (get_or xs place none) ≡ true

found_at : {A : Type 0} (test : A → Bool) (k : ℕ) (xs : List A) (i : ℕ) (none : A) → position_from test k xs ≡ Some i → IsFoundAt test k xs i none
found_at test k [] i none e = let no_way : ⊥ = cc in absurd no_way
found_at {A} test k (x ∷ xs) i none e = elim (test x) as (λ b. test x ≡ b → cond b (Some k) (position_from test (k + 1) xs) ≡ Some i → IsFoundAt test k (x ∷ xs) i none) [
  | true ↦ λ h e. let same : k ≡ i = cc in record { place = 0; sum = omega (arith, same); there = omega arith; passes = h }
  | false ↦ λ h e.
      let rest : IsFoundAt test (k + 1) xs i none = found_at test (k + 1) xs i none e in
      record { place = suc rest.place; sum = omega (arith, rest.sum); there = omega (arith, rest.there); passes = rest.passes }
] refl e

-- a message that is allowed has a device
allowed_by : (flows : RingFlows) (m : Message) (home : Bool) (found : Option ℕ)
    → option_map_or (goes_through flows) (if home then option_map (λ d. record { host = m.host; device = d }) found else None) false ≡ true
    → goes_home m ≡ home → position_from (holds_span (device_place m) (message_span m)) 0 (device_ranges flows) ≡ found → HasDevice flows m
allowed_by flows m true None e is at = let no_way : ⊥ = cc in absurd no_way
allowed_by flows m false found e is at = let no_way : ⊥ = cc in absurd no_way
allowed_by flows m true (Some d) e is at =
    let found = found_at (holds_span (device_place m) (message_span m)) 0 (device_ranges flows) d no_range at in
    let same : found.place ≡ d = omega (arith, found.sum) in
    record { device = d; held = record { home = is; there = rw same at found.there; holds = rw same at found.passes; through = e } }

device_of_allowed : (flows : RingFlows) (m : Message) → is_allowed flows m ≡ true → HasDevice flows m
device_of_allowed flows m allowed = allowed_by flows m (goes_home m) (position_from (holds_span (device_place m) (message_span m)) 0 (device_ranges flows)) allowed refl refl

-- a message that has a device is allowed, since devices lie apart
allowed_of_device : (flows : RingFlows) (m : Message) (d : ℕ) → AreApart (device_ranges flows) → 0 < message_span m → IsHeldBy flows m d → is_allowed flows m ≡ true
allowed_of_device flows m d apart some held =
    let found : position_from (holds_span (device_place m) (message_span m)) 0 (device_ranges flows) ≡ Some d = only_range (device_ranges flows) (device_place m) (message_span m) d no_range apart some held.there held.holds in
    rw (held.home, found) held.through

-- the bounds of a range that holds some bytes
within : (address span : ℕ) (range : AddressRange) → holds_span address span range ≡ true → (range.base ≤ address) × (address + span ≤ range.base + range.bytes)
within address span range h =
    let two = and_parts (nat_le range.base address) (nat_le (address + span) (range.base + range.bytes)) h in
    (leb-true range.base address two.0, leb-true (address + span) (range.base + range.bytes) two.1)

holds_within : (address span : ℕ) (range : AddressRange) → range.base ≤ address → address + span ≤ range.base + range.bytes → holds_span address span range ≡ true
holds_within address span range low high = grind (arith, nat_tests)

abbrev chosen : Bool → ℕ → ℕ → ℕ
chosen b x y = if b then x else y

raised : (b : Bool) (x y k : ℕ) → chosen b (x + k) (y + k) ≡ chosen b x y + k
raised true x y k = refl
raised false x y k = refl

-- among the 2 ^ 40 addresses of a host
of_host : (place host bytes : ℕ) → host * 2 ^ 40 ≤ place → place + bytes ≤ (host + 1) * 2 ^ 40 → 0 < bytes → (place / 2 ^ 40 == host) ≡ true
of_host place host bytes low high some =
    let same : place / 2 ^ 40 ≡ host = omega (arith, low, high, some) in
    grind (arith, nat_tests)

-- what is answered among its host's addresses goes home
home_by : (asks : Bool) (dst host : ℕ) → (asks ≡ false → (dst / 2 ^ 40 == host) ≡ true) → (asks || (dst / 2 ^ 40 == host)) ≡ true
home_by true dst host h = refl
home_by false dst host h = h refl

-- a message that the ring is made for, and whose answer lies among its host's addresses
pub record IsAtHome (plan : RingPlan) (m : Message) : Type 0 where
  pub planned : IsPlanned plan m
  pub low : m.host * 2 ^ 40 ≤ reply_place m
  pub high : reply_place m + message_span m ≤ (m.host + 1) * 2 ^ 40

-- So are some words of it.
pub part_at_home : (plan : RingPlan) → AreApart (device_ranges plan.flows) → (m : Message) (from count : ℕ) (eom : Bool) → 0 < count → from + count ≤ m.count → IsAtHome plan m → IsAtHome plan (part_of m from count eom)
part_at_home plan apart m from count eom some inside is =
    let s = 2 ^ m.size in
    let bytes : 0 < count * s = some_bytes count m.size some in
    let all : (from + count) * s ≤ m.count * s = mul-le-mul_right s inside in
    let split : (from + count) * s ≡ from * s + count * s = omega arith in
    let there : chosen (is_request m.op) (m.dst + from * s) (m.src + from * s) ≡ device_place m + from * s = raised (is_request m.op) m.dst m.src (from * s) in
    let back : chosen (is_request m.op) (m.src + from * s) (m.dst + from * s) ≡ reply_place m + from * s = raised (is_request m.op) m.src m.dst (from * s) in
    let low : m.host * 2 ^ 40 ≤ reply_place m = is.low in
    let high : reply_place m + m.count * s ≤ (m.host + 1) * 2 ^ 40 = is.high in
    let low_part : m.host * 2 ^ 40 ≤ chosen (is_request m.op) (m.src + from * s) (m.dst + from * s) = rw back (omega (arith, low)) in
    let high_part : chosen (is_request m.op) (m.src + from * s) (m.dst + from * s) + count * s ≤ (m.host + 1) * 2 ^ 40 = rw back (omega (arith, high, all, split)) in
    let found = device_of_allowed plan.flows m is.planned.allowed in
    let range = slice_index_or (device_ranges plan.flows) found.device no_range in
    let bounds = within (device_place m) (m.count * s) range found.held.holds in
    let lowest : range.base ≤ device_place m = bounds.0 in
    let highest : device_place m + m.count * s ≤ range.base + range.bytes = bounds.1 in
    record {
      planned = record {
        direction = is.planned.direction;
        allowed = allowed_of_device plan.flows (part_of m from count eom) found.device apart bytes (record {
          home = home_by (is_request m.op) (m.dst + from * s) m.host (λ answers. of_host (m.dst + from * s) m.host (count * s) (rw answers at low_part) (rw answers at high_part) bytes);
          there = found.held.there;
          holds = rw there (holds_within (device_place m + from * s) (count * s) range (omega (arith, lowest)) (omega (arith, highest, all, split)));
          through = found.held.through;
        });
      };
      low = low_part;
      high = high_part;
    }

-- bytes that end in a range of whole pages, and not at a page's border, have the rest of their page in that range
rest_of_page : (base bytes place more : ℕ) → base % 4096 ≡ 0 → bytes % 4096 ≡ 0 → place ≤ base + bytes → place % 4096 ≢ 0 → place % 4096 + more ≤ 4096 → place + more ≤ base + bytes
rest_of_page base bytes place more paged whole inside border page = omega arith

-- Two messages that can be merged go to one device, since the first one doesn't end at a page's border.
pub merge_planned : (plan : RingPlan) (width : ℕ) (a b : Message) → AreApart (device_ranges plan.flows) → AreWholePages (device_ranges plan.flows)
    → AreMergeable width a b → IsSound a → IsSound b → 0 < a.count → IsPlanned plan a → IsPlanned plan (merge a b)
merge_planned plan width a b apart paged can first second some planned =
    let found = device_of_allowed plan.flows a planned.allowed in
    let range = slice_index_or (device_ranges plan.flows) found.device no_range in
    let bounds = within (device_place a) (message_span a) range found.held.holds in
    let lowest : range.base ≤ device_place a = bounds.0 in
    let highest : device_place a + message_span a ≤ range.base + range.bytes = bounds.1 in
    let pages = paged found.device no_range found.held.there in
    let place : device_place b ≡ device_place a + message_span a = place_behind width a b can in
    let page : (device_place a + message_span a) % 4096 + message_span b ≤ 4096 = rw place at second.page in
    let further : device_place a + message_span a + message_span b ≤ range.base + range.bytes =
    rest_of_page range.base range.bytes (device_place a + message_span a) (message_span b) pages.0 pages.1 highest (first.border can.unended) page in
    let span : message_span (merge a b) ≡ message_span a + message_span b = span_of_merge width a b can in
    record {
      direction = planned.direction;
      allowed = allowed_of_device plan.flows (merge a b) found.device apart (let one = some_bytes a.count a.size some in omega (arith, span, one)) (record {
        home = found.held.home;
        there = found.held.there;
        holds = rw span (holds_within (device_place a) (message_span a + message_span b) range lowest (omega (arith, further)));
        through = found.held.through;
      });
    }
