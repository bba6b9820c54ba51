-- A network of nodes that stands: its nodes are those of a network, at its rings, whatever turns they took and however often their ends met.
use Rattle.std.specs.Prelude.{◌≡◌, ℕ, ◌+◌, ◌<◌, List, length}
use Rattle.sb_packet.specs.Networks.{Network, opening_memory}
use Rattle.sb_flow.specs.Rings.{ring_plan}
use Rattle.sb_device.specs.Sides.{DeviceSide}
use Rattle.sb_device.specs.Served.{HasServed}
use Rattle.sb_router.specs.Routers.{ForwardsAll, RouterSide}
use Rattle.sb_laws.specs.NodeSides.{IsHostBuiltFor}
use Rattle.sb_laws.specs.NetworkLayouts.{answer_ring, link_into, network_answers, network_requests, request_ring, ring_count}
use Rattle.sb_laws.specs.RouterSides.{IsBuiltFor, answer_ins, answer_outs, course_words, request_ins, request_outs}
use Rattle.sb_member.specs.Ends.{port_at, ports_of, ring_at, rings_of}
use Rattle.sb_member.specs.Joints.{IsJoined, joint_at, node_at, receiver_of, sender_of}
use Rattle.sb_member.specs.declared.joint.Joint.{Joint}
use Rattle.sb_member.specs.declared.member.Member.{Member}
use Rattle.sb_member.specs.declared.member.Member.TheVariants.{Host, Router, Device}

-- Nodes are numbered: hosts first, then routers, then devices, each in the order of the network.
abbrev pub router_number : Network → ℕ → ℕ
router_number network r = length network.hosts + r

abbrev pub device_number : Network → ℕ → ℕ
device_number network d = length network.hosts + length network.routers + d

abbrev pub node_count : Network → ℕ
node_count network = length network.hosts + length network.routers + length network.devices

-- A router is built for its place in a network, and has forwarded what came.
pub record IsRouterBuilt (network : Network) (place : ℕ) (r : RouterSide) : Type 0 where
  pub requests : IsBuiltFor network (request_ins network place) (request_outs network place) r.requests
  pub answers : IsBuiltFor network (answer_ins network place) (answer_outs network place) r.answers
  pub forwards_requests : ForwardsAll (course_words network (network_requests network) (request_outs network place)) r.requests
  pub forwards_answers : ForwardsAll (course_words network (network_answers network) (answer_outs network place)) r.answers

-- A device is built for its place in a network: it stands at the two rings of the link that leads to it, and has served what came since its opening memory.
pub record IsDeviceBuilt (network : Network) (place : ℕ) (d : DeviceSide) : Type 0 where
  pub number : d.number ≡ place
  pub into : d.requests.plan.ring ≡ request_ring (link_into network place)
  pub back : d.answers.plan.ring ≡ answer_ring (link_into network place)
  pub serves : HasServed (opening_memory network place) d

-- a ring's port is the one at that place of that node, and so is the end by which it comes in
pub record IsSentBy (joints : List Joint) (r k o : ℕ) : Type 0 where
  pub ring : r < length joints
  pub from : (joint_at joints r).from ≡ k
  pub out : (joint_at joints r).out ≡ o

pub record IsReceivedBy (joints : List Joint) (r k i : ℕ) : Type 0 where
  pub ring : r < length joints
  pub to : (joint_at joints r).to ≡ k
  pub into : (joint_at joints r).into ≡ i

module _ {F T U : Type 0} where
  -- a node is the host, the router or the device at that place of a network
  abbrev pub IsHostNode : Network → ℕ → Member F T U → Type 0
  IsHostNode network place (Host h) = IsHostBuiltFor network place h
  IsHostNode network place (Router r) = ⊥
  IsHostNode network place (Device d) = ⊥

  abbrev pub IsRouterNode : Network → ℕ → Member F T U → Type 0
  IsRouterNode network place (Host h) = ⊥
  IsRouterNode network place (Router r) = IsRouterBuilt network place r
  IsRouterNode network place (Device d) = ⊥

  abbrev pub IsDeviceNode : Network → ℕ → Member F T U → Type 0
  IsDeviceNode network place (Host h) = ⊥
  IsDeviceNode network place (Router r) = ⊥
  IsDeviceNode network place (Device d) = IsDeviceBuilt network place d

  -- Each end of each node is of one of these rings, and stands where that ring is said to stand.
  pub record IsCovered (joints : List Joint) (nodes : List (Member F T U)) : Type 0 where
    pub ports : (k o : ℕ) → k < length nodes → o < length (ports_of (node_at nodes k)) → IsSentBy joints (port_at (node_at nodes k) o).plan.ring k o
    pub rings : (k i : ℕ) → k < length nodes → i < length (rings_of (node_at nodes k)) → IsReceivedBy joints (ring_at (node_at nodes k) i).plan.ring k i

  -- These nodes are those of the network, and its rings stand between them.
  pub record StandsFor (network : Network) (joints : List Joint) (nodes : List (Member F T U)) : Type 0 where
    pub joined : IsJoined joints nodes
    pub covered : IsCovered joints nodes
    pub rings : length joints ≡ ring_count network
    pub nodes_count : length nodes ≡ node_count network
    pub sends_by : (r : ℕ) → r < length joints → (sender_of nodes (joint_at joints r)).plan ≡ ring_plan network r
    pub receives_by : (r : ℕ) → r < length joints → (receiver_of nodes (joint_at joints r)).plan ≡ ring_plan network r
    pub hosts : (n : ℕ) → n < length network.hosts → IsHostNode network n (node_at nodes n)
    pub routers : (r : ℕ) → r < length network.routers → IsRouterNode network r (node_at nodes (router_number network r))
    pub devices : (d : ℕ) → d < length network.devices → IsDeviceNode network d (node_at nodes (device_number network d))
