-- Where the rings of a network stand, among its nodes.
use Rattle.std.specs.Prelude.{◌≡◌, ◌≢◌, ℕ, ◌<◌, Bool, List, [], ◌∷◌, length, set, All, slice_index_or}
use Rattle.sb_link.specs.Ends.{HaveMet}
use Rattle.sb_port.specs.Ports.{PortSide}
use Rattle.sb_node.specs.Sides.{RingSide}
use Rattle.sb_member.specs.Members.{IsWholeMember}
use Rattle.sb_member.specs.Ends.{HaveJoined, port_at, ports_of, ring_at, rings_of, member_with_port, member_with_ring}
use Rattle.sb_member.specs.declared.joint.Joint.{Joint}
use Rattle.sb_member.specs.declared.member.Member.{Member}
use Rattle.sb_member.specs.declared.member.Member.TheVariants.{Router}

-- where a ring stands, by its number
abbrev pub no_joint : Joint
no_joint = record { from = 0; out = 0; to = 0; into = 0 }

abbrev pub joint_at : List Joint → ℕ → Joint
joint_at joints r = slice_index_or joints r no_joint

module _ {F T U : Type 0} where
  -- a node with no ends
  abbrev pub no_node : Member F T U
  no_node = Router (record { requests = record { rows = []; lane = record { inlets = []; outlets = [] } }; answers = record { rows = []; lane = record { inlets = []; outlets = [] } } })

  abbrev pub node_at : List (Member F T U) → ℕ → Member F T U
  node_at nodes k = slice_index_or nodes k no_node

  -- the port in front of a ring, and the end behind it
  abbrev pub sender_of : List (Member F T U) → Joint → PortSide
  sender_of nodes j = port_at (node_at nodes j.from) j.out

  abbrev pub receiver_of : List (Member F T U) → Joint → RingSide
  receiver_of nodes j = ring_at (node_at nodes j.to) j.into

  -- A ring stands between two nodes: both have an end of it.
  pub record IsRingPlaced (nodes : List (Member F T U)) (j : Joint) : Type 0 where
    pub from : j.from < length nodes
    pub to : j.to < length nodes
    pub apart : j.from ≢ j.to
    pub out : j.out < length (ports_of (node_at nodes j.from))
    pub into : j.into < length (rings_of (node_at nodes j.to))
    pub marks : (sender_of nodes j).mark ≡ (receiver_of nodes j).mark

  -- The ends of one ring have met; nothing else happened.
  pub record HasRingMet (j : Joint) (before after : List (Member F T U)) : Type 0 where
    pub port_then : PortSide
    pub ring_then : RingSide
    pub nodes : after ≡ set (set before j.from (member_with_port (node_at before j.from) j.out port_then)) j.to (member_with_ring (node_at before j.to) j.into ring_then)
    pub joined : HaveJoined (sender_of before j) port_then (receiver_of before j) ring_then

  -- The ends of these rings have met, one ring after another; nothing else happened.
  abbrev pub MeetAlong : List Joint → List (Member F T U) → List (Member F T U) → Type 0
  MeetAlong [] before after = after ≡ before
  MeetAlong (j ∷ joints) before after = (between : List (Member F T U)) × HasRingMet j before between × MeetAlong joints between after

  -- A network between two steps: each node is whole, and ring r stands at joint r.
  pub record IsJoined (joints : List Joint) (nodes : List (Member F T U)) : Type 0 where
    pub whole : All IsWholeMember nodes
    pub placed : (r : ℕ) → r < length joints → IsRingPlaced nodes (joint_at joints r)
    pub sent_by : (r : ℕ) → r < length joints → (sender_of nodes (joint_at joints r)).plan.ring ≡ r
    pub received_by : (r : ℕ) → r < length joints → (receiver_of nodes (joint_at joints r)).plan.ring ≡ r

  -- the ends of a ring know all of each other
  abbrev pub KnowEachOther : List (Member F T U) → Joint → Type 0
  KnowEachOther nodes j = HaveMet (sender_of nodes j).state.sent (sender_of nodes j).taken (receiver_of nodes j).received (receiver_of nodes j).known

  -- those of the first rings do
  abbrev pub HaveAllMet : List Joint → ℕ → List (Member F T U) → Type 0
  HaveAllMet joints n nodes = (r : ℕ) → r < n → KnowEachOther nodes (joint_at joints r)
