-- What there is after a round, end by end of each node.
use Rattle.std.proofs.Common.{◌≡◌, ℕ, ◌<◌, List, [], length, ap, ◌∙◌, subst}
use Rattle.std.specs.Prelude.{None, false, is_some, slice_index_or, if◌then◌else◌}
use Rattle.sb_port.specs.Ports.{PortSide, offered_words, owes}
use Rattle.sb_node.specs.Sides.{RingSide, is_drained, is_full}
use Rattle.sb_laws.specs.NodeSides.{ShowsPort, ShowsRing}
use Rattle.sb_laws.specs.Standstills.{IsIdleReceiver, IsIdleSender, RoundEnd, Stages}
use Rattle.sb_member.specs.Ends.{port_at, ports_of, ring_at, rings_of}
use Rattle.sb_member.specs.Joints.{joint_at, node_at, receiver_of, sender_of}
use Rattle.sb_member.specs.declared.joint.Joint.{Joint}
use Rattle.sb_member.specs.declared.member.Member.{Member}
use Rattle.sb_net.specs.RingEnds.{net_round_end, node_holds, node_next, node_waits}
use Rattle.sb_net.specs.Standing.{IsCovered}
use Rattle.sb_net.proofs.StandingEnds.{is_below, port_stands, ring_stands}

module _ {F T U : Type 0} where
  -- what there is after a round is, at the rings of a node, what the node has
  pub record IsShown (e : RoundEnd) (m : Member F T U) : Type 0 where
    pub ports : (o : ℕ) → o < length (ports_of m) → ShowsPort e (port_at m o).plan.ring (port_at m o)
    pub rings : (i : ℕ) → i < length (rings_of m) → ShowsRing e (ring_at m i).plan.ring (ring_at m i)
    pub held : (i : ℕ) → i < length (rings_of m) → e.at.held (ring_at m i).plan.ring ≡ slice_index_or (node_holds m) i []
    pub next : (i : ℕ) → i < length (rings_of m) → e.holds (ring_at m i).plan.ring ≡ slice_index_or (node_next m) i None
    pub waits : (o : ℕ) → o < length (ports_of m) → e.waits (port_at m o).plan.ring ≡ node_waits m

  -- a node is idle at each of its rings
  pub record IsIdleNode (stages : Stages) (e : RoundEnd) (m : Member F T U) : Type 0 where
    pub senders : (o : ℕ) → o < length (ports_of m) → IsIdleSender stages e (port_at m o).plan.ring
    pub receivers : (i : ℕ) → i < length (rings_of m) → IsIdleReceiver stages e (ring_at m i).plan.ring

module _ {F T U : Type 0} (joints : List Joint) (nodes : List (Member F T U)) where
  abbrev e : RoundEnd
  e = net_round_end joints nodes

  pub shows_sender : (r : ℕ) → r < length joints → ShowsPort e r (sender_of nodes (joint_at joints r))
  shows_sender r below = record {
    lists = record { sent = ap (λ (p : PortSide). p.state.sent) (port_stands joints nodes r below); offered = ap offered_words (port_stands joints nodes r below) };
    full = ap is_full (port_stands joints nodes r below);
    owes = ap (λ (p : PortSide). owes p.state) (port_stands joints nodes r below);
    merges = ap (λ (p : PortSide). is_some p.state.waiting.held) (port_stands joints nodes r below);
    told = ap (λ (p : PortSide). p.state.close_requested) (port_stands joints nodes r below);
  }

  pub shows_receiver : (r : ℕ) → r < length joints → ShowsRing e r (receiver_of nodes (joint_at joints r))
  shows_receiver r below = record {
    lists = record { received = ap (λ (x : RingSide). x.received) (ring_stands joints nodes r below) };
    empty = ap is_drained (ring_stands joints nodes r below);
  }

  pub is_shown : IsCovered joints nodes → (k : ℕ) → k < length nodes → IsShown e (node_at nodes k)
  is_shown c k inside = record {
    ports = λ o place.
        let at = c.ports k o inside place in
        let r = (port_at (node_at nodes k) o).plan.ring in
        subst (ShowsPort e r) (ap (λ n. port_at (node_at nodes n) (joint_at joints r).out) at.from ∙ ap (port_at (node_at nodes k)) at.out) (shows_sender r at.ring);
    rings = λ i place.
        let at = c.rings k i inside place in
        let r = (ring_at (node_at nodes k) i).plan.ring in
        subst (ShowsRing e r) (ap (λ n. ring_at (node_at nodes n) (joint_at joints r).into) at.to ∙ ap (ring_at (node_at nodes k)) at.into) (shows_receiver r at.ring);
    held = λ i place.
        let at = c.rings k i inside place in
        let r = (ring_at (node_at nodes k) i).plan.ring in
        let j = joint_at joints r in
        ap (λ b. if b then slice_index_or (node_holds (node_at nodes j.to)) j.into [] else []) (is_below r (length joints) at.ring)
        ∙ ap (λ n. slice_index_or (node_holds (node_at nodes n)) j.into []) at.to ∙ ap (λ n. slice_index_or (node_holds (node_at nodes k)) n []) at.into;
    next = λ i place.
        let at = c.rings k i inside place in
        let r = (ring_at (node_at nodes k) i).plan.ring in
        let j = joint_at joints r in
        ap (λ b. if b then slice_index_or (node_next (node_at nodes j.to)) j.into None else None) (is_below r (length joints) at.ring)
        ∙ ap (λ n. slice_index_or (node_next (node_at nodes n)) j.into None) at.to ∙ ap (λ n. slice_index_or (node_next (node_at nodes k)) n None) at.into;
    waits = λ o place.
        let at = c.ports k o inside place in
        let r = (port_at (node_at nodes k) o).plan.ring in
        ap (λ b. if b then node_waits (node_at nodes (joint_at joints r).from) else false) (is_below r (length joints) at.ring)
        ∙ ap (λ n. node_waits (node_at nodes n)) at.from;
  }
