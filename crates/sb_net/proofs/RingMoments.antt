-- At each moment the lists of a network's rings are those of its nodes' ends, and each ring and port keeps its promise.
use Rattle.std.proofs.Common.{◌≡◌, ℕ, ◌/◌, ◌%◌, ◌<◌, Bool, true, false, List, [], ◌∷◌, length, refl, sym, ap, ◌∙◌, subst, arith}
use Rattle.std.specs.Prelude.{◌==◌, ◌&&◌, not, nat_lt, if◌then◌else◌}
use Rattle.std.proofs.lemmas.Bool.Decides.{nat_tests}
use Rattle.std.proofs.lemmas.List.Elements.{All-get_or, All-nil}
use Rattle.sb_packet.specs.Networks.{Network}
use Rattle.sb_link.specs.RingPlans.{RingPlan}
use Rattle.sb_link.specs.Prefixes.{IsPrefix}
use Rattle.sb_flow.specs.Rings.{ring_plan}
use Rattle.sb_packet.specs.Cuts.{IsSound}
use Rattle.sb_link.specs.Traffic.{AreInTurn, has_close, item_accesses}
use Rattle.sb_device.specs.Served.{AreSound}
use Rattle.sb_port.specs.Ports.{IsFit, PortSide, offered_words}
use Rattle.sb_node.specs.Sides.{RingSide}
use Rattle.sb_router.specs.Lanes.{no_port, no_ring}
use Rattle.sb_laws.specs.Flows.{CarriesItsFlows}
use Rattle.sb_laws.specs.Moments.{ClosesLast, Moment}
use Rattle.sb_laws.specs.NetworkLayouts.{IsRouted, answer_ring, network_answers, network_requests, request_ring, ring_count}
use Rattle.sb_laws.specs.Runs.{IsLink, IsPort}
use Rattle.sb_laws.specs.NodeSides.{HasPort, HasRing}
use Rattle.sb_laws.proofs.CarriedPlans.{planned_answers, planned_requests}
use Rattle.sb_laws.proofs.InTurn.{begins_in_turn}
use Rattle.sb_laws.proofs.Prefixes.{same_prefix}
use Rattle.sb_laws.proofs.SidePromises.{link_promise, port_promise}
use Rattle.sb_member.specs.Ends.{port_at, ports_of, ring_at, rings_of}
use Rattle.sb_member.specs.Joints.{IsJoined, joint_at, no_node, node_at, receiver_of, sender_of}
use Rattle.sb_member.specs.Members.{IsWholeMember}
use Rattle.sb_member.specs.declared.joint.Joint.{Joint}
use Rattle.sb_member.specs.declared.member.Member.{Member}
use Rattle.sb_net.specs.RingEnds.{AreLinked, net_moment, port_here, ring_here}
use Rattle.sb_net.specs.Standing.{IsCovered, StandsFor}
use Rattle.sb_net.proofs.StandingEnds.{fits, port_stands, ring_stands}

by_test : {P : Type 0} (b : Bool) → (b ≡ true → P) → (b ≡ false → P) → P
by_test true f g = f refl
by_test false f g = g refl

below_is : (a b : ℕ) → nat_lt a b ≡ true → a < b
below_is a b e = grind (arith, nat_tests)

-- a ring of a direction, by the link that it is of
pub request_of : (network : Network) (r : ℕ) → (network_requests network).has r ≡ true → (r ≡ request_ring (r / 2)) × (r < ring_count network)
request_of network r has = by_parts (r % 2 == 1) (nat_lt r (ring_count network)) refl refl has
  where
    by_parts : (a b : Bool) → (r % 2 == 1) ≡ a → nat_lt r (ring_count network) ≡ b → (not a && b) ≡ true → (r ≡ request_ring (r / 2)) × (r < ring_count network)
    by_parts true b e f h = absurd (cc)
    by_parts false false e f h = absurd (cc)
    by_parts false true e f h = (let even : r % 2 ≡ 0 = grind (arith, nat_tests) in omega (arith, even), below_is r (ring_count network) f)

pub answer_of : (network : Network) (r : ℕ) → (network_answers network).has r ≡ true → (r ≡ answer_ring (r / 2)) × (r < ring_count network)
answer_of network r has = by_parts (r % 2 == 1) (nat_lt r (ring_count network)) refl refl has
  where
    by_parts : (a b : Bool) → (r % 2 == 1) ≡ a → nat_lt r (ring_count network) ≡ b → (a && b) ≡ true → (r ≡ answer_ring (r / 2)) × (r < ring_count network)
    by_parts false b e f h = absurd (cc)
    by_parts true false e f h = absurd (cc)
    by_parts true true e f h = (let odd : r % 2 ≡ 1 = grind (arith, nat_tests) in omega (arith, odd), below_is r (ring_count network) f)

closes_nothing : ClosesLast []
closes_nothing [] after item e = refl
closes_nothing (x ∷ before) after item e = let no_way : ⊥ = cc in absurd no_way

module _ {F T U : Type 0} where
  module _ (joints : List Joint) (nodes : List (Member F T U)) where
    abbrev m : Moment
    m = net_moment joints nodes

    pub has_sender : (r : ℕ) → r < length joints → HasPort m r (sender_of nodes (joint_at joints r))
    has_sender r lt = record { sent = ap (λ (p : PortSide). p.state.sent) (port_stands joints nodes r lt); offered = ap offered_words (port_stands joints nodes r lt) }

    pub has_receiver : (r : ℕ) → r < length joints → HasRing m r (receiver_of nodes (joint_at joints r))
    has_receiver r lt = record { received = ap (λ (x : RingSide). x.received) (ring_stands joints nodes r lt) }

    -- each port of a node, by its ring's number, and each ring's end
    pub has_port : IsCovered joints nodes → (k o : ℕ) → k < length nodes → o < length (ports_of (node_at nodes k)) → HasPort m (port_at (node_at nodes k) o).plan.ring (port_at (node_at nodes k) o)
    has_port c k o node place =
        let at = c.ports k o node place in
        let r = (port_at (node_at nodes k) o).plan.ring in
        subst (HasPort m r) (ap (λ n. port_at (node_at nodes n) (joint_at joints r).out) at.from ∙ ap (port_at (node_at nodes k)) at.out) (has_sender r at.ring)

    pub has_ring : IsCovered joints nodes → (k i : ℕ) → k < length nodes → i < length (rings_of (node_at nodes k)) → HasRing m (ring_at (node_at nodes k) i).plan.ring (ring_at (node_at nodes k) i)
    has_ring c k i node place =
        let at = c.rings k i node place in
        let r = (ring_at (node_at nodes k) i).plan.ring in
        subst (HasRing m r) (ap (λ n. ring_at (node_at nodes n) (joint_at joints r).into) at.to ∙ ap (ring_at (node_at nodes k)) at.into) (has_receiver r at.ring)

    sender_fits : IsJoined joints nodes → (r : ℕ) → r < length joints → IsFit (sender_of nodes (joint_at joints r)).plan (sender_of nodes (joint_at joints r)).state
    sender_fits n r lt = let p = n.placed r lt in let j = joint_at joints r in
        fits (node_at nodes j.from) j.out (All-get_or IsWholeMember nodes j.from no_node p.from n.whole) p.out

    -- the promise of each port, and of each ring
    pub port_promises : IsJoined joints nodes → (r : ℕ) → IsPort m r
    port_promises n r = by_test (nat_lt r (length joints))
        (λ e. let lt = below_is r (length joints) e in port_promise m r (sender_of nodes (joint_at joints r)) (sender_fits n r lt) (has_sender r lt))
        (λ e. let none : port_here joints nodes r ≡ no_port = ap (λ b. if b then sender_of nodes (joint_at joints r) else no_port) e in record {
          in_order = subst (λ (p : PortSide). IsPrefix (item_accesses p.state.sent) (offered_words p)) (sym none) (same_prefix refl);
          sound = subst (λ (p : PortSide). AreSound p.state.sent) (sym none) (All-nil IsSound);
          closed = subst (λ (p : PortSide). has_close p.state.sent ≡ true → item_accesses p.state.sent ≡ offered_words p) (sym none) (λ closed. refl);
        })

    pub link_promises : IsJoined joints nodes → AreLinked joints nodes → (r : ℕ) → IsLink m r
    link_promises n linked r = by_test (nat_lt r (length joints))
        (λ e. let lt = below_is r (length joints) e in
        link_promise m r (sender_of nodes (joint_at joints r)) (receiver_of nodes (joint_at joints r)) (has_sender r lt) (has_receiver r lt) (sender_fits n r lt).in_turn (linked r lt))
        (λ e. let none : port_here joints nodes r ≡ no_port = ap (λ b. if b then sender_of nodes (joint_at joints r) else no_port) e in
        let none_too : ring_here joints nodes r ≡ no_ring = ap (λ b. if b then receiver_of nodes (joint_at joints r) else no_ring) e in record {
          in_order = subst (λ (p : PortSide). IsPrefix (ring_here joints nodes r).received p.state.sent) (sym none) (subst (λ (x : RingSide). IsPrefix x.received []) (sym none_too) (same_prefix refl));
          closes_last = subst (λ (p : PortSide). ClosesLast p.state.sent) (sym none) closes_nothing;
        })

    module _ (network : Network) (s : StandsFor network joints nodes) (linked : AreLinked joints nodes) where
      -- what came by a ring is in turn, by the network's plan
      pub received_in_turn : (r : ℕ) → r < length joints → AreInTurn (ring_plan network r) (receiver_of nodes (joint_at joints r)).received
      received_in_turn r lt = let j = joint_at joints r in
          begins_in_turn (ring_plan network r) (receiver_of nodes j).received (sender_of nodes j).state.sent (linked r lt)
          (subst (λ (plan : RingPlan). AreInTurn plan (sender_of nodes j).state.sent) (s.sends_by r lt) (sender_fits s.joined r lt).in_turn)

      -- a ring carries only words of its flows
      arrived_in_turn : (r : ℕ) → r < ring_count network → AreInTurn (ring_plan network r) (m.received r)
      arrived_in_turn r inside = let all = s.rings in let lt : r < length joints = omega (arith, inside, all) in
          subst (AreInTurn (ring_plan network r)) (sym (has_receiver r lt).received) (received_in_turn r lt)

      pub requests_carried : IsRouted network → (r : ℕ) → (network_requests network).has r ≡ true → CarriesItsFlows network (network_requests network) m r
      requests_carried routed r has = let at = request_of network r has in let k : ℕ = r / 2 in
          subst (CarriesItsFlows network (network_requests network) m) (sym at.0)
          (let inside : request_ring k < ring_count network = subst (λ (i : ℕ). i < ring_count network) at.0 at.1 in
          planned_requests network routed k (m.received (request_ring k)) inside (arrived_in_turn (request_ring k) inside))

      pub answers_carried : IsRouted network → (r : ℕ) → (network_answers network).has r ≡ true → CarriesItsFlows network (network_answers network) m r
      answers_carried routed r has = let at = answer_of network r has in let k : ℕ = r / 2 in
          subst (CarriesItsFlows network (network_answers network) m) (sym at.0)
          (let inside : answer_ring k < ring_count network = subst (λ (i : ℕ). i < ring_count network) at.0 at.1 in
          planned_answers network routed k (m.received (answer_ring k)) inside (arrived_in_turn (answer_ring k) inside))
