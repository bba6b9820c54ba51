-- The journal of a run, and how it is collected from the devices.
use Rattle.std.specs.Prelude.{◌≡◌, ℕ, ◌<◌, ◌==◌, List, [], length, map, filter, flat_map, drop, slice_index_or, All, ◌+◌}
use Rattle.std.specs.List.{range_with_len}
use Rattle.sb_packet.specs.Networks.{Network}
use Rattle.sb_packet.specs.declared.entry.Entry.{Entry}
use Rattle.sb_member.specs.Joints.{node_at}
use Rattle.sb_member.specs.declared.member.Member.{Member}
use Rattle.sb_member.specs.declared.member.Member.TheVariants.{Device, Host, Router}
use Rattle.sb_net.specs.Standing.{device_number}

module _ {F T U : Type 0} where
  -- what a device has served, entry by entry; hosts and routers serve nothing
  abbrev pub member_entries : Member F T U → List Entry
  member_entries (Host h) = []
  member_entries (Router r) = []
  member_entries (Device d) = d.journal.entries

  -- the same by the device's place in the network
  abbrev pub device_entries : Network → List (Member F T U) → ℕ → List Entry
  device_entries network nodes d = member_entries (node_at nodes (device_number network d))

  -- The entries of each device that aren't among its first so many, in the order of the devices.
  abbrev pub new_entries : Network → List ℕ → List (Member F T U) → List Entry
  new_entries network seen nodes = flat_map (λ d. drop (slice_index_or seen d 0) (device_entries network nodes d)) (range_with_len 0 (length network.devices))

  -- how many entries each device has
  abbrev pub entry_counts : Network → List (Member F T U) → List ℕ
  entry_counts network nodes = map (λ d. length (device_entries network nodes d)) (range_with_len 0 (length network.devices))

  -- A journal has of each device what it served, in order, and nothing of any other.
  pub record IsRecorded (network : Network) (journal : List Entry) (nodes : List (Member F T U)) : Type 0 where
    pub entries : (d : ℕ) → d < length network.devices → filter (λ e. e.device == d) journal ≡ device_entries network nodes d
    pub devices : All (λ e. e.device < length network.devices) journal

-- Entries are collected from the devices, which have the numbers from a first one on.

module _ {F T U : Type 0} where
  -- what the device at a place has served that isn't among its first so many entries
  abbrev pub entries_behind : ℕ → List ℕ → List (Member F T U) → ℕ → List Entry
  entries_behind first seen nodes d = drop (slice_index_or seen d 0) (member_entries (node_at nodes (first + d)))

  -- the same of all devices, in their order
  abbrev pub entries_from : ℕ → List ℕ → List (Member F T U) → List Entry
  entries_from first seen nodes = flat_map (entries_behind first seen nodes) (range_with_len 0 (length seen))

  -- how many entries each of so many devices has
  abbrev pub counts_from : ℕ → ℕ → List (Member F T U) → List ℕ
  counts_from first count nodes = map (λ d. length (member_entries (node_at nodes (first + d)))) (range_with_len 0 count)
