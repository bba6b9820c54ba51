-- What a ring is made for, and which items may go over it one after another. This project's own.
use Rattle.std.specs.Prelude.{◌≡◌, ℕ, ◌+◌, ◌/◌, ◌^◌, ◌<◌, Bool, true, false, if◌then◌else◌, ◌&&◌, ◌||◌, ◌==◌, nat_le, List, [], length, take, Option, None, slice_index_or}
use Rattle.std.specs.List.{position_from}
use Rattle.std.specs.Option.{option_map, option_map_or}
use Rattle.sb_packet.specs.Messages.{Message, message_span}
use Rattle.sb_packet.specs.Journals.{is_request}
use Rattle.sb_packet.specs.Cuts.{device_place}

-- what one host asks of one device: the host by its id, the device by its place
pub record NetFlow : Type 0 where
  pub host : ℕ
  pub device : ℕ

-- so many bytes from an address on
pub record AddressRange : Type 0 where
  pub base : ℕ
  pub bytes : ℕ

-- a range holds so many bytes from an address on
abbrev pub holds_span : ℕ → ℕ → AddressRange → Bool
holds_span address span range = nat_le range.base address && nat_le (address + span) (range.base + range.bytes)

-- two ranges have no byte in common
abbrev pub are_apart : AddressRange → AddressRange → Bool
are_apart a b = nat_le (a.base + a.bytes) b.base || nat_le (b.base + b.bytes) a.base

-- each two of these ranges have no byte in common
abbrev pub AreApart : List AddressRange → Type 0
AreApart ranges = (i j : ℕ) (none : AddressRange) → i < j → j < length ranges → are_apart (slice_index_or ranges i none) (slice_index_or ranges j none) ≡ true

-- where a network's devices lie, and which flows go over a ring
pub record RingFlows : Type 0 where
  -- the number of devices, and 32 places for their ranges, of which these are the first
  pub devices : ℕ
  pub ranges : List AddressRange
  -- for each id of a host from 0 to 31, and for each place of a device from 0 to 31: what this host asks of this device goes over the ring
  pub through : List (List Bool)

-- what a ring is made for
pub record RingPlan : Type 0 where
  -- the ring's number: that of its link twice, and one more where answers go on it
  pub ring : ℕ
  -- it carries answers, from a device to a host
  pub up : Bool
  -- a packet on it speaks of at most so many bytes
  pub width : ℕ
  -- so many items wait on it at most
  pub capacity : ℕ
  -- so many words go over it at most, in all
  pub budget : ℕ
  pub flows : RingFlows

-- the ranges of the devices
abbrev pub device_ranges : RingFlows → List AddressRange
device_ranges flows = take flows.devices flows.ranges

-- an answer goes back among the 2 ^ 40 addresses of the host that its packet names
abbrev pub goes_home : Message → Bool
goes_home m = is_request m.op || (m.dst / 2 ^ 40 == m.host)

-- Which host's message it is, and which device has all its bytes; none where no device has them.
abbrev pub message_flow : RingFlows → Message → Option NetFlow
message_flow flows m = if goes_home m
    then option_map (λ d. record { host = m.host; device = d }) (position_from (holds_span (device_place m) (message_span m)) 0 (device_ranges flows))
    else None

-- a flow goes over the ring
abbrev pub goes_through : RingFlows → NetFlow → Bool
goes_through flows f = slice_index_or (slice_index_or flows.through f.host []) f.device false

-- a message is of a flow that goes over the ring
abbrev pub is_allowed : RingFlows → Message → Bool
is_allowed flows m = option_map_or (goes_through flows) (message_flow flows m) false
