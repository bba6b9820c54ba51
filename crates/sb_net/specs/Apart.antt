-- Nodes that are taken apart: their ports and ends lie at the numbers of their rings, and what hosts and devices tell lies in a list.
use Rattle.std.specs.Prelude.{◌≡◌, ℕ, ◌+◌, ◌≤◌, ◌<◌, List, [], ◌∷◌, ◌++◌, All, Option, Some, length, map, flat_map, set, vec_len, vec_capacity}
use Rattle.std.specs.Option.{option_map}
use Rattle.sb_packet.specs.Memories.{MemoryState}
use Rattle.sb_link.specs.declared.ends.RxEnd as rx
use Rattle.sb_port.specs.Ports.{PortSide}
use Rattle.sb_node.specs.Sides.{RingSide, ring_side}
use Rattle.sb_host.specs.Progress.{TransactionsSide}
use Rattle.sb_device.specs.declared.device_state.DeviceState.{DeviceState}
use Rattle.sb_member.specs.Ends.{ports_of, rings_of}
use Rattle.sb_member.specs.Groups.{IsDealt, dealt_nodes, node_total}
use Rattle.sb_member.specs.declared.joint.Joint.{Joint}
use Rattle.sb_member.specs.declared.member.Member.{Member}
use Rattle.sb_member.specs.declared.member.Member.TheVariants.{Host, Router, Device}
use Rattle.sb_net.specs.declared.settling.apart.Apart.{Apart}

-- things are put at the places that are their numbers, from the last one on
abbrev pub put_by : {A : Type 0} → (A → ℕ) → List A → List (Option A) → List (Option A)
put_by number [] places = places
put_by number (x ∷ xs) places = set (put_by number xs places) (number x) (Some x)

-- the number of a port's ring, and of the ring that an end is of
abbrev pub ring_ahead : PortSide → ℕ
ring_ahead port = port.plan.ring

abbrev pub ring_behind : RingSide → ℕ
ring_behind ring = ring.plan.ring

-- the ends that lie at some places, as nodes have them
abbrev pub end_places : {U : Type 0} → rx.Ghosts U → List (Option U) → List (Option RingSide)
end_places rx places = map (option_map (ring_side rx)) places

-- the memories of some devices
abbrev pub memories_of : List DeviceState → List MemoryState
memories_of states = map (λ state. state.memory) states

module _ {F T U : Type 0} where
  -- a host's transactions; other nodes have none
  abbrev pub member_transactions : Member F T U → List TransactionsSide
  member_transactions (Host h) = h.transactions ∷ []
  member_transactions (Router r) = []
  member_transactions (Device d) = []

  -- a device's memory; other nodes have none
  abbrev pub member_memories : Member F T U → List MemoryState
  member_memories (Host h) = []
  member_memories (Router r) = []
  member_memories (Device d) = d.memory ∷ []

  -- There is a place for each end of a node, and for what it tells.
  pub record HasRoomFor (node : Member F T U) (apart : Apart F T U) : Type 0 where
    pub ports : All (λ port. ring_ahead port < length apart.ports.items) (ports_of node)
    pub ends : All (λ ring. ring_behind ring < length apart.ends.items) (rings_of node)
    pub hosts : length apart.hosts.items + length (member_transactions node) ≤ vec_capacity apart.hosts
    pub devices : length apart.devices.items + length (member_memories node) ≤ vec_capacity apart.devices

  -- A node was taken apart: its ports and ends were put at their rings' numbers, and what it tells behind the others.
  pub record IsTakenApart (rx : rx.Ghosts U) (node : Member F T U) (before after : Apart F T U) : Type 0 where
    pub ports : after.ports.items ≡ put_by ring_ahead (ports_of node) before.ports.items
    pub ends : end_places rx after.ends.items ≡ put_by ring_behind (rings_of node) (end_places rx before.ends.items)
    pub hosts : after.hosts.items ≡ before.hosts.items ++ member_transactions node
    pub memories : memories_of after.devices.items ≡ memories_of before.devices.items ++ member_memories node
    pub host_room : vec_capacity after.hosts ≡ vec_capacity before.hosts
    pub device_room : vec_capacity after.devices ≡ vec_capacity before.devices

  -- There is a place for each end of some nodes, and for what they tell; nothing is told yet.
  pub record IsRoomFor (nodes : List (Member F T U)) (apart : Apart F T U) : Type 0 where
    pub ports : All (λ port. ring_ahead port < length apart.ports.items) (flat_map ports_of nodes)
    pub ends : All (λ ring. ring_behind ring < length apart.ends.items) (flat_map rings_of nodes)
    pub no_hosts : apart.hosts.items ≡ []
    pub no_devices : apart.devices.items ≡ []
    pub hosts : length (flat_map member_transactions nodes) ≤ vec_capacity apart.hosts
    pub devices : length (flat_map member_memories nodes) ≤ vec_capacity apart.devices

  -- Nodes were taken apart, from the last one on: their ports and ends were put at their rings' numbers, and what they tell stands in their order.
  pub record AreTakenApart (rx : rx.Ghosts U) (nodes : List (Member F T U)) (before after : Apart F T U) : Type 0 where
    pub ports : after.ports.items ≡ put_by ring_ahead (flat_map ports_of nodes) before.ports.items
    pub ends : end_places rx after.ends.items ≡ put_by ring_behind (flat_map rings_of nodes) (end_places rx before.ends.items)
    pub hosts : after.hosts.items ≡ flat_map member_transactions nodes
    pub memories : memories_of after.devices.items ≡ flat_map member_memories nodes

  -- Nodes of groups can be taken apart by their numbers, of which a network has at most 32 for each kind; and there is a place for each end of each ring, and for what they tell.
  pub record CanBeTakenApart (groups : List (List (Member F T U))) (joints : List Joint) (count : ℕ) (room : Apart F T U) : Type 0 where
    pub dealt : IsDealt groups
    pub count_is : count ≡ node_total groups
    pub few : count ≤ 96
    pub room_is : IsRoomFor (dealt_nodes groups) room
    pub ports : length room.ports.items ≡ length joints
    pub ends : length room.ends.items ≡ length joints
