-- Nodes that are dealt to groups: of w groups, node n stands in group n mod w, at place n / w.
use Rattle.std.specs.Prelude.{◌≡◌, ℕ, ◌+◌, ◌*◌, ◌/◌, ◌%◌, ◌<◌, ◌↔◌, List, [], length, map, set, slice_index_or, sum_by}
use Rattle.std.specs.List.{range_with_len}
use Rattle.sb_drive.specs.declared.group.Group.{Group}
use Rattle.sb_member.specs.Ends.{HaveMetAt, port_at, ports_of, ring_at, rings_of}
use Rattle.sb_member.specs.Joints.{HasRingMet, node_at}
use Rattle.sb_member.specs.declared.joint.Joint.{Joint}
use Rattle.sb_member.specs.declared.member.Member.{Member}

module _ {F T U : Type 0} where
  -- the nodes of each group
  abbrev pub grouped_nodes : List (Group (Member F T U)) → List (List (Member F T U))
  grouped_nodes groups = map (λ group. group.nodes.items) groups

  -- those of one of them
  abbrev pub nodes_in : List (List (Member F T U)) → ℕ → List (Member F T U)
  nodes_in groups g = slice_index_or groups g []

  -- how many nodes all groups have
  abbrev pub node_total : List (List (Member F T U)) → ℕ
  node_total groups = sum_by (λ nodes. length nodes) groups

  -- all nodes, by their numbers
  abbrev pub dealt_nodes : List (List (Member F T U)) → List (Member F T U)
  dealt_nodes groups = map (λ n. node_at (nodes_in groups (n % length groups)) (n / length groups)) (range_with_len 0 (node_total groups))

  -- Each place of each group is that of one number.
  pub record IsDealt (groups : List (List (Member F T U))) : Type 0 where
    pub some : 0 < length groups
    pub numbered : (g p : ℕ) → g < length groups → (p < length (nodes_in groups g)) ↔ (p * length groups + g < node_total groups)

  -- A ring leads from a node of one list to a node of another, and both have an end of it.
  pub record IsRingAcross (from to : List (Member F T U)) (j : Joint) : Type 0 where
    pub from_place : j.from < length from
    pub to_place : j.to < length to
    pub out : j.out < length (ports_of (node_at from j.from))
    pub into : j.into < length (rings_of (node_at to j.to))
    pub marks : (port_at (node_at from j.from) j.out).mark ≡ (ring_at (node_at to j.to) j.into).mark

  -- The ends of a ring between a node of one list and a node of another have met.
  pub record HaveMetBetween (j : Joint) (from from_then to to_then : List (Member F T U)) : Type 0 where
    pub sender : Member F T U
    pub receiver : Member F T U
    pub from_set : from_then ≡ set from j.from sender
    pub to_set : to_then ≡ set to j.to receiver
    pub met : HaveMetAt j.out j.into (node_at from j.from) sender (node_at to j.to) receiver

  -- The ends of a ring between two nodes of a group have met.
  pub record HasMetInside (g : ℕ) (j : Joint) (before after : List (List (Member F T U))) : Type 0 where
    pub nodes : List (Member F T U)
    pub set_there : after ≡ set before g nodes
    pub met : HasRingMet j (nodes_in before g) nodes

  -- The ends of a ring between nodes of two groups have met.
  pub record HasMetAcross (from to : ℕ) (j : Joint) (before after : List (List (Member F T U))) : Type 0 where
    pub senders : List (Member F T U)
    pub receivers : List (Member F T U)
    pub set_there : after ≡ set (set before from senders) to receivers
    pub met : HaveMetBetween j (nodes_in before from) senders (nodes_in before to) receivers
