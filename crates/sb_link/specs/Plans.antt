-- What the plain types of links say, in the words of the definitions.
use Rattle.std.specs.Prelude.{ℕ, ◌+◌, ◌/◌, ◌^◌, ◌%◌, ◌≡◌, ◌≤◌, Bool, ◌==◌, ◌||◌, ◌&&◌, ◌-◌, nat_le, IsTrue, List, map, All, slice_index_or}
use Rattle.std.specs.List.{range_with_len}
use Rattle.sb_link.specs.RingPlans.{AddressRange, NetFlow}
use Rattle.sb_link.specs.declared.flow.Flow.{Flow}

-- a flow
abbrev pub flow_of : Flow → NetFlow
flow_of f = record { host = f.host; device = f.device }

-- ranges from the lists of their bases and lengths, 32 of them
abbrev pub ranges_of : List ℕ → List ℕ → List AddressRange
ranges_of base bytes = map (λ k. record { base = slice_index_or base k 0; bytes = slice_index_or bytes k 0 }) (range_with_len 0 32)

-- a range, as its base and its length, holds so many bytes from an address on
abbrev pub has_bytes : ℕ → ℕ → ℕ × ℕ → Bool
has_bytes address bytes range = nat_le range.0 address && (nat_le bytes range.1 && nat_le (address - range.0) (range.1 - bytes))

-- the 32 binary digits of a number, the lowest first
abbrev pub bits_of : ℕ → List Bool
bits_of n = map (λ k. n / 2 ^ k % 2 == 1) (range_with_len 0 32)

-- each range is a number of whole pages of 4,096 bytes
abbrev pub AreWholePages : List AddressRange → Type 0
AreWholePages ranges = All (λ r. (r.base % 4096 ≡ 0) × (r.bytes % 4096 ≡ 0)) ranges

-- each range ends at most at 2 ^ 56
abbrev pub AreInRange : List AddressRange → Type 0
AreInRange ranges = All (λ r. r.base + r.bytes ≤ 2 ^ 56) ranges

-- the widths that a link can have, in bytes
abbrev pub IsRingWidth : ℕ → Type 0
IsRingWidth width = IsTrue ((width == 8) || (width == 16) || (width == 32))
