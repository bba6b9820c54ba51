-- A round in which no node moved is a standstill.
use Rattle.std.proofs.Common.{◌≡◌, ◌≢◌, inl, inr, ℕ, ◌+◌, ◌-◌, ◌<◌, Bool, true, false, List, length, refl, sym, ap, ◌∙◌, subst, arith}
use Rattle.std.specs.Prelude.{nat_lt, slice_index_or, if◌then◌else◌}
use Rattle.std.proofs.lemmas.Bool.{cases_lt}
use Rattle.std.proofs.lemmas.List.Elements.{All-get_or}
use Rattle.sb_drive.specs.Rounds.{EndsWith}
use Rattle.sb_link.specs.declared.answers.Turn.{Turn}
use Rattle.sb_link.specs.declared.answers.Turn.TheVariants.{Done, Moved}
use Rattle.sb_packet.specs.Networks.{Network}
use Rattle.sb_link.specs.RingPlans.{RingPlan}
use Rattle.sb_packet.specs.declared.entry.Entry.{Entry}
use Rattle.sb_flow.specs.Accepted.{IsAccepted}
use Rattle.sb_laws.specs.Standstills.{IsIdleReceiver, IsIdleSender, IsStandstill, IsTrueRing, IsWholeStandstill, MissesAnswer, RoundEnd, Stages}
use Rattle.sb_laws.specs.NetworkLayouts.{IsRouted, network_layout, network_stages, ring_count}
use Rattle.sb_laws.specs.Runs.{IsMomentOf}
use Rattle.sb_laws.proofs.AcceptedNetworks.{accepted_is_routed}
use Rattle.sb_laws.proofs.RisingStages.{stages_rise, ways_within}
use Rattle.sb_laws.proofs.SidePromises.{true_ring}
use Rattle.sb_laws.proofs.WaysOfRouted.{ways_of_routed}
use Rattle.sb_member.specs.Joints.{HaveAllMet, joint_at, no_node, node_at, sender_of, receiver_of}
use Rattle.sb_member.specs.Members.{IsMemberTurn, IsRestedMember, IsWholeMember}
use Rattle.sb_member.specs.declared.joint.Joint.{Joint}
use Rattle.sb_member.specs.declared.member.Member.{Member}
use Rattle.sb_member.specs.declared.member.Member.TheVariants.{Host, Router, Device}
use Rattle.sb_net.specs.Running.{IsNetRound}
use Rattle.sb_net.specs.RingEnds.{net_moment, net_round_end, node_waits}
use Rattle.sb_net.specs.Standing.{IsDeviceNode, IsRouterNode, StandsFor, device_number, router_number}
use Rattle.sb_net.proofs.StandingEnds.{fits, is_below}
use Rattle.sb_net.proofs.StandstillDevices.{idle_device}
use Rattle.sb_net.proofs.StandstillEnds.{met_still}
use Rattle.sb_net.proofs.StandstillHosts.{idle_host}
use Rattle.sb_net.proofs.StandstillRings.{has_room}
use Rattle.sb_net.proofs.StandstillRouters.{idle_router}
use Rattle.sb_net.proofs.StandstillShown.{IsIdleNode, IsShown, is_shown, shows_receiver, shows_sender}
use Rattle.sb_net.proofs.StandstillWaits.{waiting_node}

module _ {F T U : Type 0} (network : Network) (joints : List Joint) (before after : List (Member F T U)) (round : ℕ) (last : List Turn) (accepted : IsAccepted network)
    (stands : StandsFor network joints after) (met : HaveAllMet joints (length joints) before) (went : IsNetRound round before after last false) where
  abbrev e : RoundEnd
  e = net_round_end joints after

  abbrev stages : Stages
  stages = network_stages network

  routed : IsRouted network
  routed = accepted_is_routed network accepted

  whole_node : (k : ℕ) → k < length after → IsWholeMember (node_at after k)
  whole_node k inside = All-get_or IsWholeMember after k no_node inside stands.joined.whole

  -- each node is the host, the router or the device of its number, and none of them moved
  idle_node : (k : ℕ) → k < length after → IsIdleNode stages e (node_at after k)
  idle_node k inside = elim (cases_lt k hosts) [
    | inl host ↦ idle_host network routed k round host answer still e ends.start (node_at after k) (stands.hosts k host) whole ends.turn shown
    | inr behind ↦ elim (cases_lt (k - hosts) routers) [
      | inl router ↦
          let here : router_number network (k - hosts) ≡ k = omega (arith, behind) in
          idle_router network routed (k - hosts) round answer still e ends.start (node_at after k)
          (subst (λ n. IsRouterNode network (k - hosts) (node_at after n)) here (stands.routers (k - hosts) router)) whole ends.turn shown
      | inr further ↦
          let here : device_number network (k - (hosts + routers)) ≡ k = omega (arith, behind, further) in
          let device : k - (hosts + routers) < length network.devices = (let count = stands.nodes_count in omega (arith, behind, further, inside, count)) in
          idle_device network routed (k - (hosts + routers)) round device answer still e ends.start (node_at after k)
          (subst (λ n. IsDeviceNode network (k - (hosts + routers)) (node_at after n)) here (stands.devices (k - (hosts + routers)) device)) whole ends.turn shown
    ]
  ]
    where
      hosts : ℕ
      hosts = length network.hosts

      routers : ℕ
      routers = length network.routers

      was_inside : k < length before
      was_inside = let same = went.same in omega (arith, inside, same)

      answer : Turn
      answer = slice_index_or last k Done

      still : answer ≢ Moved
      still = went.none_moved refl k was_inside

      ends : EndsWith (λ x number answer y. IsMemberTurn number x answer y) round (λ x y. IsRestedMember x y) (node_at before k) answer (node_at after k)
      ends = went.rested_turns refl k no_node was_inside

      whole : IsWholeMember (node_at after k)
      whole = whole_node k inside

      shown : IsShown e (node_at after k)
      shown = is_shown joints after stands.covered k inside

  -- what the ends of each ring know is true
  ring_is_true : (r : ℕ) → r < length joints → IsTrueRing e r
  ring_is_true r below =
      let j = joint_at joints r in
      let p = stands.joined.placed r below in
      true_ring e r (sender_of after j) (receiver_of after j) (shows_sender joints after r below) (shows_receiver joints after r below)
      (fits (node_at after j.from) j.out (whole_node j.from p.from) p.out).in_turn
      (subst (λ (plan : RingPlan). 0 < plan.capacity) (sym (stands.sends_by r below)) (has_room network accepted r (subst (λ n. r < n) stands.rings below)))
      (met_still joints before after went.same (went.rested refl) stands.joined met r below)

  -- a ring of the network stands at a joint
  joint_there : (r : ℕ) → r < ring_count network → r < length joints
  joint_there r below = subst (λ n. r < n) (sym stands.rings) below

  pub standstill : IsStandstill stages e
  standstill = record {
    rising = λ r below. stages_rise network routed r;
    wires = λ r below. record {
      in_not_empty = λ wire. absurd (let never : false ≡ true = wire in cc);
      in_not_full = λ wire. absurd (let never : false ≡ true = wire in cc);
      out_not_full = λ wire. absurd (let never : false ≡ true = wire in cc);
    };
    rings = λ r below in_here out_here. ring_is_true r (joint_there r below);
    senders = λ r below in_here.
        let lt = joint_there r below in let p = stands.joined.placed r lt in let j = joint_at joints r in
        subst (IsIdleSender stages e) (stands.joined.sent_by r lt) ((idle_node j.from p.from).senders j.out p.out);
    receivers = λ r below out_here.
        let lt = joint_there r below in let p = stands.joined.placed r lt in let j = joint_at joints r in
        subst (IsIdleReceiver stages e) (stands.joined.received_by r lt) ((idle_node j.to p.to).receivers j.into p.into);
  }

  -- a node of the network, as it stands after the round
  node_shown : (k : ℕ) → k < length after → IsShown e (node_at after k)
  node_shown k inside = is_shown joints after stands.covered k inside

  -- a host waits only while it misses an answer
  waits_miss : (r : ℕ) → r < ring_count network → e.waits r ≡ true → MissesAnswer network (network_layout network) e.at r
  waits_miss r below waits =
      let lt = joint_there r below in
      let p = stands.joined.placed r lt in
      let j = joint_at joints r in
      let here : node_waits (node_at after j.from) ≡ true = sym (ap (λ b. if b then node_waits (node_at after j.from) else false) (is_below r (length joints) lt)) ∙ waits in
      subst (MissesAnswer network (network_layout network) e.at) (stands.joined.sent_by r lt)
      (waiting_node network routed e joints after stands j.from p.from (whole_node j.from p.from) (node_shown j.from p.from) here j.out p.out)

  pub whole_standstill : (journal : List Entry) → IsMomentOf network (network_layout network) journal (net_moment joints after) → IsWholeStandstill network (network_layout network) journal stages e
  whole_standstill journal moment = record {
    still = standstill;
    moment = moment;
    inside = λ r below. (refl, refl);
    within = ways_within network (ways_of_routed network routed);
    windows = waits_miss;
  }
