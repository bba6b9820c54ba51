-- For which rings a device is made, and what always holds of a device at its rings.
use Rattle.std.specs.Prelude.{◌≡◌, ℕ, ◌+◌, ◌≤◌, true, false, length, All, Some, slice_get}
use Rattle.sb_packet.specs.Memories.{MemoryState}
use Rattle.sb_link.specs.RingPlans.{RingPlan, NetFlow, device_ranges, goes_through}
use Rattle.sb_node.specs.Sides.{received_words, has_ended}
use Rattle.sb_device.specs.Sides.{DeviceSide, held_bytes}
use Rattle.sb_device.specs.Served.{entry_packets, item_packets}

-- Two rings lead to a device and back: they have the same flows, all of them to this device, whose memory lies where the flows say.
pub record IsPlannedFor (number : ℕ) (memory : MemoryState) (requests answers : RingPlan) : Type 0 where
  pub down : requests.up ≡ false
  pub up : answers.up ≡ true
  pub flows : answers.flows ≡ requests.flows
  pub own : (f : NetFlow) → goes_through requests.flows f ≡ true → f.device ≡ number
  pub range : slice_get (device_ranges requests.flows) number ≡ Some (record { base = memory.base; bytes = held_bytes memory })

-- What always holds of a device at its rings.
pub record IsDeviceInOrder (d : DeviceSide) : Type 0 where
  pub planned : IsPlannedFor d.number d.memory d.requests.plan d.answers.plan
  -- its journal is what came in, each entry its own, and has room for what may still come
  pub journalled : entry_packets d.journal.entries ≡ item_packets d.requests.received
  pub own_entries : All (λ e. e.device ≡ d.number) d.journal.entries
  pub room : d.requests.plan.budget ≤ length (received_words d.requests) + d.journal.spare
  -- it was told to close where its ring gave Close
  pub closes : d.answers.state.close_requested ≡ has_ended d.requests
