-- How much was done at the rings of a network so far: so the rounds in which a node moves are counted.
use Rattle.std.specs.Prelude.{ℕ, ◌+◌, nat_lt, List, [], ◌∷◌, ◌++◌, length, map, slice_index_or, if◌then◌else◌, sum_by}
use Rattle.std.specs.List.{range_with_len}
use Rattle.sb_packet.specs.Networks.{Network}
use Rattle.sb_flow.specs.Rings.{ring_budget}
use Rattle.sb_node.specs.Sides.{port_moves}
use Rattle.sb_router.specs.Rested.{inlet_moves}
use Rattle.sb_laws.specs.Moves.{move_bound}
use Rattle.sb_laws.specs.NetworkLayouts.{ring_count}
use Rattle.sb_member.specs.Joints.{joint_at, node_at}
use Rattle.sb_member.specs.declared.joint.Joint.{Joint}
use Rattle.sb_member.specs.declared.member.Member.{Member}
use Rattle.sb_member.specs.declared.member.Member.TheVariants.{Host, Router, Device}
use Rattle.sb_net.specs.RingEnds.{port_here}

module _ {F T U : Type 0} where
  -- what a node did with what came by each of its rings: a router counts each item when it comes, and again when it is handed on
  abbrev pub node_receipts : Member F T U → List ℕ
  node_receipts (Host h) = length h.answers.received ∷ []
  node_receipts (Router r) = map inlet_moves r.requests.lane.inlets ++ map inlet_moves r.answers.lane.inlets
  node_receipts (Device d) = length d.requests.received ∷ []

  module _ (joints : List Joint) (nodes : List (Member F T U)) where
    -- what was done at the receiving end of a ring
    abbrev pub receipts_here : ℕ → ℕ
    receipts_here r = if nat_lt r (length joints) then slice_index_or (node_receipts (node_at nodes (joint_at joints r).to)) (joint_at joints r).into 0 else 0

    -- what was done at both ends of a ring
    abbrev pub spent_at : ℕ → ℕ
    spent_at r = port_moves (port_here joints nodes r) + receipts_here r

    -- the same of all rings
    abbrev pub spent : ℕ
    spent = sum_by spent_at (range_with_len 0 (length joints))

-- The most that can be done at the rings of a network: 4 for each word that may go over a ring, and 4 more, at each of its ends.
abbrev pub network_moves : Network → ℕ
network_moves network = move_bound (range_with_len 0 (ring_count network)) (ring_budget network)
