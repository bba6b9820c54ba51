-- What stands at the two ends of each ring of a network's nodes, by the ring's number, and how rings are given back.
use Rattle.std.specs.Prelude.{ℕ, ◌<◌, nat_lt, Bool, false, is_some, List, [], ◌∷◌, ◌++◌, length, map, Option, None, slice_index_or, if◌then◌else◌, ◌≡◌, Some}
use Rattle.sb_packet.specs.Accesses.{Access}
use Rattle.sb_link.specs.Prefixes.{IsPrefix}
use Rattle.sb_port.specs.Ports.{PortSide, offered_words, owes}
use Rattle.sb_node.specs.Sides.{RingSide, is_drained, is_full, ring_side}
use Rattle.sb_host.specs.Hosts.{host_wait}
use Rattle.sb_router.specs.Lanes.{held_words, no_port, no_ring}
use Rattle.sb_router.specs.Ways.{route_of}
use Rattle.sb_router.specs.Routers.{DirectionSide}
use Rattle.sb_laws.specs.Moments.{Moment}
use Rattle.sb_laws.specs.RouterSides.{ring_next}
use Rattle.sb_laws.specs.Standstills.{RoundEnd}
use Rattle.sb_member.specs.Joints.{joint_at, node_at, receiver_of, sender_of}
use Rattle.sb_member.specs.declared.joint.Joint.{Joint}
use Rattle.sb_member.specs.declared.member.Member.{Member}
use Rattle.sb_member.specs.declared.member.Member.TheVariants.{Device, Host, Router}
use Rattle.sb_link.specs.declared.ends.RxEnd as rx

-- the words that a direction holds of each ring that comes in, and the ring to which they go next
abbrev pub direction_holds : DirectionSide → List (List Access)
direction_holds d = map (λ x. held_words x.held) d.lane.inlets

abbrev pub direction_next : DirectionSide → List (Option ℕ)
direction_next d = map (ring_next (route_of d.rows) d.lane) d.lane.inlets

module _ {F T U : Type 0} where
  -- the same of a node, in the order of its rings: hosts and devices hold nothing
  abbrev pub node_holds : Member F T U → List (List Access)
  node_holds (Host h) = [] ∷ []
  node_holds (Router r) = direction_holds r.requests ++ direction_holds r.answers
  node_holds (Device d) = [] ∷ []

  abbrev pub node_next : Member F T U → List (Option ℕ)
  node_next (Host h) = None ∷ []
  node_next (Router r) = direction_next r.requests ++ direction_next r.answers
  node_next (Device d) = None ∷ []

  -- a host waits for a slot of its window
  abbrev pub node_waits : Member F T U → Bool
  node_waits (Host h) = is_some (host_wait h)
  node_waits (Router r) = false
  node_waits (Device d) = false

  module _ (joints : List Joint) (nodes : List (Member F T U)) where
    -- the port in front of a ring, the end behind it, and what is held of what came by it
    abbrev pub port_here : ℕ → PortSide
    port_here r = if nat_lt r (length joints) then sender_of nodes (joint_at joints r) else no_port

    abbrev pub ring_here : ℕ → RingSide
    ring_here r = if nat_lt r (length joints) then receiver_of nodes (joint_at joints r) else no_ring

    abbrev pub held_here : ℕ → List Access
    held_here r = if nat_lt r (length joints) then slice_index_or (node_holds (node_at nodes (joint_at joints r).to)) (joint_at joints r).into [] else []

    abbrev pub next_here : ℕ → Option ℕ
    next_here r = if nat_lt r (length joints) then slice_index_or (node_next (node_at nodes (joint_at joints r).to)) (joint_at joints r).into None else None

    -- The moment of a run at which the nodes are.
    abbrev pub net_moment : Moment
    net_moment = record {
      sent = λ r. (port_here r).state.sent;
      received = λ r. (ring_here r).received;
      offered = λ r. offered_words (port_here r);
      held = held_here;
    }

    -- What there is after a round, at these nodes.
    abbrev pub net_round_end : RoundEnd
    net_round_end = record {
      at = net_moment;
      full = λ r. is_full (port_here r);
      empty = λ r. is_drained (ring_here r);
      owes = λ r. owes (port_here r).state;
      merges = λ r. is_some (port_here r).state.waiting.held;
      told = λ r. (port_here r).state.close_requested;
      holds = next_here;
      waits = λ r. if nat_lt r (length joints) then node_waits (node_at nodes (joint_at joints r).from) else false;
    }

    -- What was received by each ring begins what was sent over it.
    abbrev pub AreLinked : Type 0
    AreLinked = (r : ℕ) → r < length joints → IsPrefix (receiver_of nodes (joint_at joints r)).received (sender_of nodes (joint_at joints r)).state.sent

-- Rings that are given back to their fabric.

-- At the number of a ring lie its port and its end.
pub record HasEndsAt {U : Type 0} (rx : rx.Ghosts U) (r : ℕ) (ports : List (Option PortSide)) (ends : List (Option U)) : Type 0 where
  pub port : PortSide
  pub end : U
  pub port_there : slice_index_or ports r None ≡ Some port
  pub end_there : slice_index_or ends r None ≡ Some end
  pub ring : port.plan.ring ≡ r
  pub marks : port.mark ≡ (ring_side rx end).mark
