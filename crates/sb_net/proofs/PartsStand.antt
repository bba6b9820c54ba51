-- Nodes that were made at the legs of all links stand for their network.
use Rattle.std.proofs.Common.{◌≡◌, ◌≢◌, ◌≤◌, ℕ, ◌+◌, ◌-◌, ◌*◌, ◌<◌, true, false, List, [], ◌++◌, length, refl, sym, ap, ◌∙◌, subst, arith}
use Rattle.std.specs.Prelude.{◌⊎◌, get_or, map, nat_le}
use Rattle.std.proofs.Math.ListN.{get_or-append}
use Rattle.std.proofs.lemmas.Bool.{cases_lt}
use Rattle.std.proofs.lemmas.Bool.Decides.{nat_tests}
use Rattle.std.proofs.lemmas.List.{get_or-append_right, get_or-map, get_or_default, length-append, length-map}
use Rattle.std.proofs.lemmas.List.FromFn.{length-map-range_with_len}
use mathlib.Core.Logic.{inl, inr}
use Rattle.sb_link.specs.Ends.{HaveMet}
use Rattle.sb_link.specs.declared.ends.RxEnd as rx
use Rattle.sb_link.specs.declared.ends.TxEnd as tx
use Rattle.sb_packet.specs.Networks.{NetPlace, Network, at_device, at_host, at_router}
use Rattle.sb_link.specs.RingPlans.{RingPlan}
use Rattle.sb_flow.specs.Rings.{ring_plan}
use Rattle.sb_packet.specs.declared.item.Item.{Item}
use Rattle.sb_port.specs.Ports.{PortSide, fresh_port}
use Rattle.sb_port.specs.declared.leg.InLeg.{InLeg}
use Rattle.sb_port.specs.declared.leg.OutLeg.{OutLeg}
use Rattle.sb_node.specs.Sides.{RingSide, ring_side}
use Rattle.sb_router.specs.Lanes.{no_port, no_ring}
use Rattle.sb_flow.specs.Accepted.{IsAccepted}
use Rattle.sb_flow.specs.Ends.{goes_back, joins}
use Rattle.sb_flow.proofs.AcceptedLinks.{ends_there, link_forward, link_joins}
use Rattle.sb_laws.specs.NetworkLayouts.{ring_count}
use Rattle.sb_member.specs.Ends.{port_at, ports_of, ring_at, rings_of}
use Rattle.sb_member.specs.Joints.{HaveAllMet, IsJoined, IsRingPlaced, KnowEachOther, joint_at, no_node, node_at, receiver_of, sender_of}
use Rattle.sb_member.specs.Members.{IsWholeMember}
use Rattle.sb_member.specs.declared.joint.Joint.{Joint}
use Rattle.sb_member.specs.declared.member.Member.{Member}
use Rattle.sb_net.specs.Legs.{AreDealt, AreLegsOf, AreMadeAt, answer_joint, links_at, network_joints, node_after, node_before, pile_at, place_at_node, request_joint, ring_joint}
use Rattle.sb_net.specs.Recorded.{device_entries}
use Rattle.sb_net.specs.Standing.{IsReceivedBy, IsSentBy, StandsFor, device_number, node_count, router_number}
use Rattle.sb_net.proofs.DealtLegs.{any_in, any_out, in_at, in_below, out_at, out_below}
use Rattle.sb_net.proofs.JointsMade.{by_ring, joint_is, ring_joint_even, ring_joint_odd}
use Rattle.sb_net.proofs.NodeLinks.{same_place}
use Rattle.sb_net.proofs.NodeNumbers.{ends_are_nodes, link_at, link_got, node_after_is, node_before_is}

-- reading two lists that were joined, each made of others
left_of : {A B C : Type 0} (f : A → C) (g : B → C) (xs : List A) (ys : List B) (o : ℕ) (a : A) (d : C) → o < length xs → get_or (map f xs ++ map g ys) o d ≡ f (get_or xs o a)
left_of f g xs ys o a d lt = get_or-append (map f xs) (map g ys) d o (omega (arith, lt, length-map xs f)) ∙ get_or-map f xs o a d lt

right_of : {A B C : Type 0} (f : A → C) (g : B → C) (xs : List A) (ys : List B) (n o : ℕ) (b : B) (d : C) → length xs ≡ n → o < length ys → get_or (map f xs ++ map g ys) (n + o) d ≡ g (get_or ys o b)
right_of f g xs ys n o b d long lt =
    let back : n + o - n ≡ o = omega arith in
    get_or-append_right (map f xs) (map g ys) n (n + o) d (length-map xs f ∙ long) (omega arith) ∙ ap (λ i. get_or (map g ys) i d) back ∙ get_or-map g ys o b d lt

both_long : {A B C : Type 0} (f : A → C) (g : B → C) (xs : List A) (ys : List B) → length (map f xs ++ map g ys) ≡ length xs + length ys
both_long f g xs ys = let a = length-map xs f in let b = length-map ys g in omega (arith, a, b, length-append (map f xs) (map g ys))

-- ends over which nothing went have met
have_met : (sent received : List Item) (taken known : ℕ) → sent ≡ [] → received ≡ [] → HaveMet sent taken received known
have_met sent received taken known s r = subst (λ xs. HaveMet xs taken received known) (sym s) (subst (λ xs. HaveMet [] taken xs known) (sym r) (record {
  in_order = record { rest = []; joined = refl };
  told_producer = omega arith;
  told_consumer = omega arith;
}))

module _ {F T U : Type 0} (tx : tx.Ghosts T) (rx : rx.Ghosts U) (network : Network) (good : IsAccepted network) (outs : List (List (OutLeg F T U))) (ins : List (List (InLeg F T U)))
    (dealt : AreDealt tx rx network (length network.links) outs ins) (nodes : List (Member F T U)) (made : AreMadeAt tx rx network (node_count network) outs ins nodes) where
  before_low : (k : ℕ) → k < length network.links → node_before network k < node_count network
  before_low = (ends_are_nodes network good).before

  after_low : (k : ℕ) → k < length network.links → node_after network k < node_count network
  after_low = (ends_are_nodes network good).after

  outs_long : (m : ℕ) → m < node_count network → length (pile_at outs m) ≡ length (links_at (node_before network) (length network.links) m)
  outs_long m low = sym (length-map (pile_at outs m) (λ (leg : OutLeg F T U). leg.link)) ∙ ap (λ (xs : List ℕ). length xs) (dealt.outs_here m low)

  ins_long : (m : ℕ) → m < node_count network → length (pile_at ins m) ≡ length (links_at (node_after network) (length network.links) m)
  ins_long m low = sym (length-map (pile_at ins m) (λ (leg : InLeg F T U). leg.link)) ∙ ap (λ (xs : List ℕ). length xs) (dealt.ins_here m low)

  ports_long : (m : ℕ) → m < node_count network → length (ports_of (node_at nodes m)) ≡ length (pile_at outs m) + length (pile_at ins m)
  ports_long m low = ap (λ (xs : List PortSide). length xs) (made.each m low).ports ∙ both_long (λ (leg : OutLeg F T U). fresh_port tx leg.requests) (λ (leg : InLeg F T U). fresh_port tx leg.answers) (pile_at outs m) (pile_at ins m)

  rings_long : (m : ℕ) → m < node_count network → length (rings_of (node_at nodes m)) ≡ length (pile_at ins m) + length (pile_at outs m)
  rings_long m low = ap (λ (xs : List RingSide). length xs) (made.each m low).rings ∙ both_long (λ (leg : InLeg F T U). ring_side rx leg.requests) (λ (leg : OutLeg F T U). ring_side rx leg.answers) (pile_at ins m) (pile_at outs m)

  -- the two ends of a link join two nodes
  apart : (k : ℕ) → k < length network.links → node_before network k ≢ node_after network k
  apart k lt e =
      let l = link_at network k in
      let got = link_got network k lt in
      let there = ends_there network k l good got in
      let same = same_place network l.from l.to there.0 there.1 (sym (node_before_is network k l got) ∙ e ∙ node_after_is network k l got) in
      never l.to (ap (λ (p : NetPlace). joins p l.to) (sym same) ∙ link_joins network k l good got) (ap (λ (p : NetPlace). goes_back p l.to) (sym same) ∙ link_forward network k l good got)
    where
      never : (p : NetPlace) → joins p p ≡ true → goes_back p p ≡ false → ⊥
      never (at_host h) j b = cc
      never (at_router r) j b = let le : nat_le r r ≡ true = grind (arith, nat_tests) in cc
      never (at_device d) j b = cc

  module _ (k : ℕ) (lt : k < length network.links) where
    abbrev out : OutLeg F T U
    out = get_or (pile_at outs (node_before network k)) (place_at_node (node_before network) k) (any_out tx rx network (ends_are_nodes network good) outs ins dealt k lt)

    abbrev into : InLeg F T U
    into = get_or (pile_at ins (node_after network k)) (place_at_node (node_after network) k) (any_in tx rx network (ends_are_nodes network good) outs ins dealt k lt)

    legs : AreLegsOf tx rx network k out into
    legs = dealt.legs k (any_out tx rx network (ends_are_nodes network good) outs ins dealt k lt) (any_in tx rx network (ends_are_nodes network good) outs ins dealt k lt) lt

    out_low : place_at_node (node_before network) k < length (pile_at outs (node_before network k))
    out_low = out_below tx rx network (ends_are_nodes network good) outs ins dealt k lt

    in_low : place_at_node (node_after network) k < length (pile_at ins (node_after network k))
    in_low = in_below tx rx network (ends_are_nodes network good) outs ins dealt k lt

    -- what stands at the ends of its two rings
    request_sender : sender_of nodes (request_joint network k) ≡ fresh_port tx out.requests
    request_sender = ap (λ ports. get_or ports (place_at_node (node_before network) k) no_port) (made.each (node_before network k) (before_low k lt)).ports
        ∙ left_of (λ (leg : OutLeg F T U). fresh_port tx leg.requests) (λ (leg : InLeg F T U). fresh_port tx leg.answers) (pile_at outs (node_before network k)) (pile_at ins (node_before network k)) (place_at_node (node_before network) k) (any_out tx rx network (ends_are_nodes network good) outs ins dealt k lt) no_port out_low

    request_receiver : receiver_of nodes (request_joint network k) ≡ ring_side rx into.requests
    request_receiver = ap (λ rings. get_or rings (place_at_node (node_after network) k) no_ring) (made.each (node_after network k) (after_low k lt)).rings
        ∙ left_of (λ (leg : InLeg F T U). ring_side rx leg.requests) (λ (leg : OutLeg F T U). ring_side rx leg.answers) (pile_at ins (node_after network k)) (pile_at outs (node_after network k)) (place_at_node (node_after network) k) (any_in tx rx network (ends_are_nodes network good) outs ins dealt k lt) no_ring in_low

    answer_sender : sender_of nodes (answer_joint network k) ≡ fresh_port tx into.answers
    answer_sender = ap (λ ports. get_or ports (answer_joint network k).out no_port) (made.each (node_after network k) (after_low k lt)).ports
        ∙ right_of (λ (leg : OutLeg F T U). fresh_port tx leg.requests) (λ (leg : InLeg F T U). fresh_port tx leg.answers) (pile_at outs (node_after network k)) (pile_at ins (node_after network k)) (length (links_at (node_before network) (length network.links) (node_after network k))) (place_at_node (node_after network) k)
        (any_in tx rx network (ends_are_nodes network good) outs ins dealt k lt) no_port (outs_long (node_after network k) (after_low k lt)) in_low

    answer_receiver : receiver_of nodes (answer_joint network k) ≡ ring_side rx out.answers
    answer_receiver = ap (λ rings. get_or rings (answer_joint network k).into no_ring) (made.each (node_before network k) (before_low k lt)).rings
        ∙ right_of (λ (leg : InLeg F T U). ring_side rx leg.requests) (λ (leg : OutLeg F T U). ring_side rx leg.answers) (pile_at ins (node_before network k)) (pile_at outs (node_before network k)) (length (links_at (node_after network) (length network.links) (node_before network k))) (place_at_node (node_before network) k)
        (any_out tx rx network (ends_are_nodes network good) outs ins dealt k lt) no_ring (ins_long (node_before network k) (before_low k lt)) out_low

  -- what holds at a ring's joint
  record IsStanding (r : ℕ) (j : Joint) : Type 0 where
    placed : IsRingPlaced nodes j
    sends : (sender_of nodes j).plan ≡ ring_plan network r
    receives : (receiver_of nodes j).plan ≡ ring_plan network r
    met : KnowEachOther nodes j

  request_stands : (k : ℕ) → k < length network.links → IsStanding (2 * k) (request_joint network k)
  request_stands k lt =
      let s = request_sender k lt in
      let r = request_receiver k lt in
      let l = legs k lt in
      let many = made.count in
      let low = before_low k lt in
      let low_too = after_low k lt in
      let place = out_low k lt in
      let place_too = in_low k lt in
      record {
        placed = record {
          from = omega (arith, low, many);
          to = omega (arith, low_too, many);
          apart = apart k lt;
          out = omega (arith, place, ports_long (node_before network k) low);
          into = omega (arith, place_too, rings_long (node_after network k) low_too);
          marks = ap (λ (p : PortSide). p.mark) s ∙ l.requests_mark ∙ sym (ap (λ (p : RingSide). p.mark) r);
        };
        sends = ap (λ (p : PortSide). p.plan) s ∙ l.asks;
        receives = ap (λ (p : RingSide). p.plan) r ∙ l.hears;
        met = have_met (sender_of nodes (request_joint network k)).state.sent (receiver_of nodes (request_joint network k)).received (sender_of nodes (request_joint network k)).taken (receiver_of nodes (request_joint network k)).known
            (ap (λ (p : PortSide). p.state.sent) s) (ap (λ (p : RingSide). p.received) r ∙ l.unheard);
      }

  answer_stands : (k : ℕ) → k < length network.links → IsStanding (2 * k + 1) (answer_joint network k)
  answer_stands k lt =
      let s = answer_sender k lt in
      let r = answer_receiver k lt in
      let l = legs k lt in
      let many = made.count in
      let low = after_low k lt in
      let low_too = before_low k lt in
      let place = in_low k lt in
      let place_too = out_low k lt in
      record {
        placed = record {
          from = omega (arith, low, many);
          to = omega (arith, low_too, many);
          apart = λ e. apart k lt (sym e);
          out = omega (arith, place, outs_long (node_after network k) low, ports_long (node_after network k) low);
          into = omega (arith, place_too, ins_long (node_before network k) low_too, rings_long (node_before network k) low_too);
          marks = ap (λ (p : PortSide). p.mark) s ∙ l.answers_mark ∙ sym (ap (λ (p : RingSide). p.mark) r);
        };
        sends = ap (λ (p : PortSide). p.plan) s ∙ l.tells;
        receives = ap (λ (p : RingSide). p.plan) r ∙ l.learns;
        met = have_met (sender_of nodes (answer_joint network k)).state.sent (receiver_of nodes (answer_joint network k)).received (sender_of nodes (answer_joint network k)).taken (receiver_of nodes (answer_joint network k)).known
            (ap (λ (p : PortSide). p.state.sent) s) (ap (λ (p : RingSide). p.received) r ∙ l.unlearnt);
      }

  module _ (joints : List Joint) (is : joints ≡ network_joints network) where
    rings_count : length joints ≡ ring_count network
    rings_count = ap (λ (xs : List Joint). length xs) is ∙ length-map-range_with_len (ring_joint network) 0 (ring_count network)

    request_at : (k : ℕ) → k < length network.links → joint_at joints (2 * k) ≡ request_joint network k
    request_at k lt = joint_is network joints (2 * k) is (omega (arith, lt)) ∙ ring_joint_even network k

    answer_at : (k : ℕ) → k < length network.links → joint_at joints (2 * k + 1) ≡ answer_joint network k
    answer_at k lt = joint_is network joints (2 * k + 1) is (omega (arith, lt)) ∙ ring_joint_odd network k

    stands : (r : ℕ) → r < length joints → IsStanding r (joint_at joints r)
    stands r lt = let count = rings_count in by_ring (λ r. IsStanding r (joint_at joints r)) (length network.links) r (omega (arith, lt, count))
        (λ k low. subst (IsStanding (2 * k)) (sym (request_at k low)) (request_stands k low))
        (λ k low. subst (IsStanding (2 * k + 1)) (sym (answer_at k low)) (answer_stands k low))

    pub all_met : HaveAllMet joints (length joints) nodes
    all_met r lt = (stands r lt).met

    joined : IsJoined joints nodes
    joined = record {
      whole = λ k d lt. let many = made.count in subst IsWholeMember (get_or_default nodes k no_node d lt) (made.each k (omega (arith, lt, many))).whole;
      placed = λ r lt. (stands r lt).placed;
      sent_by = λ r lt. ap (λ (p : RingPlan). p.ring) (stands r lt).sends;
      received_by = λ r lt. ap (λ (p : RingPlan). p.ring) (stands r lt).receives;
    }

    -- a port, or a ring's end, is of the ring that stands there
    sent_here : (r m o : ℕ) → r < length joints → (joint_at joints r).from ≡ m → (joint_at joints r).out ≡ o → IsSentBy joints (port_at (node_at nodes m) o).plan.ring m o
    sent_here r m o lt from out =
        let same : (port_at (node_at nodes m) o).plan.ring ≡ r = ap (λ i. (port_at (node_at nodes i) o).plan.ring) (sym from) ∙ ap (λ i. (port_at (node_at nodes (joint_at joints r).from) i).plan.ring) (sym out) ∙ ap (λ (p : RingPlan). p.ring) (stands r lt).sends in
        subst (λ r. IsSentBy joints r m o) (sym same) (record { ring = lt; from = from; out = out })

    received_here : (r m i : ℕ) → r < length joints → (joint_at joints r).to ≡ m → (joint_at joints r).into ≡ i → IsReceivedBy joints (ring_at (node_at nodes m) i).plan.ring m i
    received_here r m i lt to into =
        let same : (ring_at (node_at nodes m) i).plan.ring ≡ r = ap (λ k. (ring_at (node_at nodes k) i).plan.ring) (sym to) ∙ ap (λ k. (ring_at (node_at nodes (joint_at joints r).to) k).plan.ring) (sym into) ∙ ap (λ (p : RingPlan). p.ring) (stands r lt).receives in
        subst (λ r. IsReceivedBy joints r m i) (sym same) (record { ring = lt; to = to; into = into })

    even_low : (k : ℕ) → k < length network.links → 2 * k < length joints
    even_low k lt = let count = rings_count in omega (arith, lt, count)

    odd_low : (k : ℕ) → k < length network.links → 2 * k + 1 < length joints
    odd_low k lt = let count = rings_count in omega (arith, lt, count)

    ports_covered : (m o : ℕ) → m < node_count network → o < length (ports_of (node_at nodes m)) → IsSentBy joints (port_at (node_at nodes m) o).plan.ring m o
    ports_covered m o low lt = by (cases_lt o (length (pile_at outs m)))
      where
        by : (o < length (pile_at outs m)) ⊎ (length (pile_at outs m) ≤ o) → IsSentBy joints (port_at (node_at nodes m) o).plan.ring m o
        by (inl first) =
            let p = out_at tx rx network (ends_are_nodes network good) outs ins dealt m o low first in
            let k = p.0 in
            let at = request_at k p.1.below in
            sent_here (2 * k) m o (even_low k p.1.below) (ap (λ (j : Joint). j.from) at ∙ p.1.node) (ap (λ (j : Joint). j.out) at ∙ p.1.place)
        by (inr behind) =
            let i = o - length (pile_at outs m) in
            let inside : i < length (pile_at ins m) = omega (arith, lt, behind, ports_long m low) in
            let p = in_at tx rx network (ends_are_nodes network good) outs ins dealt m i low inside in
            let k = p.0 in
            let at = answer_at k p.1.below in
            let place = p.1.place in
            let sum : length (links_at (node_before network) (length network.links) m) + place_at_node (node_after network) k ≡ o = omega (arith, place, behind, outs_long m low) in
            sent_here (2 * k + 1) m o (odd_low k p.1.below) (ap (λ (j : Joint). j.from) at ∙ p.1.node)
            (ap (λ (j : Joint). j.out) at ∙ ap (λ n. length (links_at (node_before network) (length network.links) n) + place_at_node (node_after network) k) p.1.node ∙ sum)

    rings_covered : (m i : ℕ) → m < node_count network → i < length (rings_of (node_at nodes m)) → IsReceivedBy joints (ring_at (node_at nodes m) i).plan.ring m i
    rings_covered m i low lt = by (cases_lt i (length (pile_at ins m)))
      where
        by : (i < length (pile_at ins m)) ⊎ (length (pile_at ins m) ≤ i) → IsReceivedBy joints (ring_at (node_at nodes m) i).plan.ring m i
        by (inl first) =
            let p = in_at tx rx network (ends_are_nodes network good) outs ins dealt m i low first in
            let k = p.0 in
            let at = request_at k p.1.below in
            received_here (2 * k) m i (even_low k p.1.below) (ap (λ (j : Joint). j.to) at ∙ p.1.node) (ap (λ (j : Joint). j.into) at ∙ p.1.place)
        by (inr behind) =
            let o = i - length (pile_at ins m) in
            let inside : o < length (pile_at outs m) = omega (arith, lt, behind, rings_long m low) in
            let p = out_at tx rx network (ends_are_nodes network good) outs ins dealt m o low inside in
            let k = p.0 in
            let at = answer_at k p.1.below in
            let place = p.1.place in
            let sum : length (links_at (node_after network) (length network.links) m) + place_at_node (node_before network) k ≡ i = omega (arith, place, behind, ins_long m low) in
            received_here (2 * k + 1) m i (odd_low k p.1.below) (ap (λ (j : Joint). j.to) at ∙ p.1.node)
            (ap (λ (j : Joint). j.into) at ∙ ap (λ n. length (links_at (node_after network) (length network.links) n) + place_at_node (node_before network) k) p.1.node ∙ sum)

    -- So they stand for the network.
    pub stand_for : StandsFor network joints nodes
    stand_for = record {
      joined = joined;
      covered = record {
        ports = λ m o low lt. let many = made.count in ports_covered m o (omega (arith, low, many)) lt;
        rings = λ m i low lt. let many = made.count in rings_covered m i (omega (arith, low, many)) lt;
      };
      rings = rings_count;
      nodes_count = made.count;
      sends_by = λ r lt. (stands r lt).sends;
      receives_by = λ r lt. (stands r lt).receives;
      hosts = λ n lt. (made.each n (omega (arith, lt))).kind.host lt;
      routers = λ r lt. (made.each (router_number network r) (omega (arith, lt))).kind.router r lt refl;
      devices = λ d lt. (made.each (device_number network d) (omega (arith, lt))).kind.device d lt refl;
    }

  pub none_served : (d : ℕ) → d < length network.devices → device_entries network nodes d ≡ []
  none_served d lt = (made.each (device_number network d) (omega (arith, lt))).unserved
