-- A network of nodes that are later than they were stands still.
use Rattle.std.proofs.Common.{◌≡◌, ℕ, suc, ◌+◌, ◌<◌, List, [], ◌∷◌, length, set, sym, ap, ◌∙◌, subst, arith}
use Rattle.std.specs.Prelude.{All, Bool}
use Rattle.std.proofs.lemmas.List.{get_or-set_other, get_or-set_same, length-set}
use Rattle.std.proofs.lemmas.List.Elements.{All-get_or}
use Rattle.sb_packet.specs.Networks.{Network}
use Rattle.sb_link.specs.declared.answers.Turn.{Turn}
use Rattle.sb_member.specs.Ends.{member_with_port, member_with_ring, ports_of, rings_of}
use Rattle.sb_member.specs.Joints.{HasRingMet, HaveAllMet, IsJoined, IsRingPlaced, MeetAlong, joint_at, no_node, node_at}
use Rattle.sb_member.specs.Members.{IsWholeMember}
use Rattle.sb_member.specs.declared.joint.Joint.{Joint}
use Rattle.sb_member.specs.declared.member.Member.{Member}
use Rattle.sb_member.proofs.RingsJoined.{joined_on, same_or_not}
use Rattle.sb_member.proofs.Turned.{EachKept, joined_then}
use Rattle.sb_net.specs.Running.{AreNetTurns}
use Rattle.sb_net.specs.RingEnds.{AreLinked}
use Rattle.sb_net.specs.Standing.{IsCovered, IsReceivedBy, IsSentBy, StandsFor, device_number, router_number}
use Rattle.sb_net.proofs.LaterNodes.{IsLaterNode, device_node_stays, host_node_stays, node_met_port, node_met_ring, node_then, router_node_stays, same_node, turned_node}

module _ {F T U : Type 0} where
  -- each node is later than it was
  pub record AreLater (before after : List (Member F T U)) : Type 0 where
    pub count : length after ≡ length before
    pub each : (k : ℕ) → k < length before → IsLaterNode (node_at before k) (node_at after k)

  pub later_then : (before between after : List (Member F T U)) → AreLater before between → AreLater between after → AreLater before after
  later_then before between after a b = record {
    count = b.count ∙ a.count;
    each = λ k lt. node_then (node_at before k) (node_at between k) (node_at after k) (a.each k lt) (b.each k (let long = a.count in omega (arith, lt, long)));
  }

  -- one node is
  pub later_at : (nodes : List (Member F T U)) (i : ℕ) (y : Member F T U) → i < length nodes → IsLaterNode (node_at nodes i) y → AreLater nodes (set nodes i y)
  later_at nodes i y lt later = record {
    count = length-set nodes i y;
    each = λ k below. same_or_not k i
        (λ e. subst (λ (n : ℕ). IsLaterNode (node_at nodes n) (node_at (set nodes i y) n)) (sym e) (subst (λ (m : Member F T U). IsLaterNode (node_at nodes i) m) (sym (get_or-set_same nodes i y no_node lt)) later))
        (λ n. subst (λ (m : Member F T U). IsLaterNode (node_at nodes k) m) (sym (get_or-set_other nodes i k y no_node n)) (same_node (node_at nodes k)));
  }

  -- the ends of one ring met
  pub later_by_meeting : (j : Joint) (before after : List (Member F T U)) → IsRingPlaced before j → HasRingMet j before after → AreLater before after
  later_by_meeting j before after p h =
      let a = node_at before j.from in
      let b = node_at before j.to in
      let a_then = member_with_port a j.out h.port_then in
      let b_then = member_with_ring b j.into h.ring_then in
      let to_first : AreLater before (set before j.from a_then) = later_at before j.from a_then p.from (node_met_port a j.out h.port_then p.out h.joined.sent) in
      let there : node_at (set before j.from a_then) j.to ≡ b = get_or-set_other before j.from j.to a_then no_node (λ e. p.apart (sym e)) in
      let to_second : AreLater (set before j.from a_then) (set (set before j.from a_then) j.to b_then) = later_at (set before j.from a_then) j.to b_then (let to = p.to in omega (arith, to, length-set before j.from a_then))
      (subst (λ (m : Member F T U). IsLaterNode m b_then) (sym there) (node_met_ring b j.into h.ring_then p.into h.joined.received)) in
      subst (AreLater before) (sym h.nodes) (later_then before (set before j.from a_then) (set (set before j.from a_then) j.to b_then) to_first to_second)

  module _ (network : Network) (joints : List Joint) (before after : List (Member F T U)) (l : AreLater before after) (joined : IsJoined joints after) (s : StandsFor network joints before) where
    covered_on : IsCovered joints after
    covered_on = record {
      ports = λ k o node place. let long = l.count in let inside : k < length before = omega (arith, node, long) in let n = l.each k inside in let count = n.port_count in let within : o < length (ports_of (node_at before k)) = omega (arith, place, count) in
          subst (λ plan. IsSentBy joints plan.ring k o) (sym (n.ports o within)) (s.covered.ports k o inside within);
      rings = λ k i node place. let long = l.count in let inside : k < length before = omega (arith, node, long) in let n = l.each k inside in let count = n.ring_count in let within : i < length (rings_of (node_at before k)) = omega (arith, place, count) in
          subst (λ plan. IsReceivedBy joints plan.ring k i) (sym (n.rings i within)) (s.covered.rings k i inside within);
    }

    pub stands_on : StandsFor network joints after
    stands_on = let all = s.nodes_count in record {
      joined = joined;
      covered = covered_on;
      rings = s.rings;
      nodes_count = l.count ∙ s.nodes_count;
      sends_by = λ r lt. let p = s.joined.placed r lt in let j = joint_at joints r in (l.each j.from p.from).ports j.out p.out ∙ s.sends_by r lt;
      receives_by = λ r lt. let p = s.joined.placed r lt in let j = joint_at joints r in (l.each j.to p.to).rings j.into p.into ∙ s.receives_by r lt;
      hosts = λ n lt. host_node_stays network n (node_at before n) (node_at after n) (l.each n (omega (arith, lt, all))).member (s.hosts n lt);
      routers = λ r lt. let k = router_number network r in router_node_stays network r (node_at before k) (node_at after k) (l.each k (omega (arith, lt, all))).member (s.routers r lt);
      devices = λ d lt. let k = device_number network d in device_node_stays network d (node_at before k) (node_at after k) (l.each k (omega (arith, lt, all))).member (s.devices d lt);
    }

  -- each node took turns
  pub later_by_turns : (round : ℕ) (before after : List (Member F T U)) → length after ≡ length before → EachKept round before after → All IsWholeMember before → AreLater before after
  later_by_turns round before after long kept whole = record {
    count = long;
    each = λ k lt. turned_node round (node_at before k) (node_at after k) (All-get_or IsWholeMember before k no_node lt whole) (kept k lt);
  }

  pub stands_turned : (network : Network) (joints : List Joint) (round : ℕ) (before after : List (Member F T U)) (moved : Bool) → StandsFor network joints before
      → AreNetTurns round before after moved → All IsWholeMember after → StandsFor network joints after
  stands_turned network joints round before after moved s h whole =
      let kept : EachKept round before after = λ k lt. h.reached k no_node lt in
      stands_on network joints before after (later_by_turns round before after h.same kept s.joined.whole) (joined_then round joints before after h.same kept whole s.joined) s

  -- the ends of ring r met
  pub stands_met : (network : Network) (joints : List Joint) (r : ℕ) (before after : List (Member F T U)) → r < length joints → StandsFor network joints before
      → HasRingMet (joint_at joints r) before after → StandsFor network joints after
  stands_met network joints r before after lt s h =
      stands_on network joints before after (later_by_meeting (joint_at joints r) before after (s.joined.placed r lt) h) (joined_on joints r before after lt s.joined h) s

  -- the ends of these rings met, which are the last of all
  stands_along : (network : Network) (joints rest : List Joint) (start : ℕ) (before after : List (Member F T U)) → start + length rest ≡ length joints
      → ((i : ℕ) → i < length rest → joint_at rest i ≡ joint_at joints (start + i)) → StandsFor network joints before → MeetAlong rest before after → StandsFor network joints after
  stands_along network joints [] start before after long same s h = subst (StandsFor network joints) (sym h) s
  stands_along network joints (j ∷ rest) start before after long same s h =
      let here : j ≡ joint_at joints start = same 0 (omega arith) ∙ (let at : start + 0 ≡ start = omega arith in ap (joint_at joints) at) in
      let once = stands_met network joints start before h.0 (omega (arith, long)) s (subst (λ (i : Joint). HasRingMet i before h.0) here h.1) in
      stands_along network joints rest (start + 1) h.0 after (omega (arith, long))
      (λ i lt. same (suc i) (omega (arith, lt)) ∙ (let at : start + suc i ≡ start + 1 + i = omega arith in ap (joint_at joints) at)) once h.2

  pub stands_all_met : (network : Network) (joints : List Joint) (before after : List (Member F T U)) → StandsFor network joints before → MeetAlong joints before after → StandsFor network joints after
  stands_all_met network joints before after s h = stands_along network joints joints 0 before after (omega arith) (λ i lt. let at : i ≡ 0 + i = omega arith in ap (joint_at joints) at) s h

  pub linked : (joints : List Joint) (nodes : List (Member F T U)) → HaveAllMet joints (length joints) nodes → AreLinked joints nodes
  linked joints nodes met r lt = (met r lt).in_order
