-- A run that is over stays so where the ends of rings meet: meetings change nothing of a node but what its ends know.
use Rattle.std.proofs.Common.{◌≡◌, ℕ, suc, ◌+◌, ◌<◌, Bool, true, List, [], ◌∷◌, length, set, sym, ap, ◌∙◌, subst, arith}
use Rattle.std.specs.Prelude.{slice_index_or}
use Rattle.std.specs.List.{list_all}
use Rattle.std.proofs.lemmas.List.{length-set, get_or-set_same, get_or-set_other}
use Rattle.sb_packet.specs.Networks.{NetHost, Network}
use Rattle.sb_flow.specs.Rings.{IsCarried}
use Rattle.sb_link.specs.Traffic.{item_accesses}
use Rattle.sb_packet.specs.declared.entry.Entry.{Entry}
use Rattle.sb_packet.specs.declared.item.Item.{Item}
use Rattle.sb_port.specs.Ports.{PortSide, PortState}
use Rattle.sb_node.specs.Kept.{IsPortMet, IsRingMet}
use Rattle.sb_node.specs.Sides.{RingSide, has_ended, received_words}
use Rattle.sb_host.specs.Outcomes.{outcomes_so_far}
use Rattle.sb_router.specs.Lanes.{no_port, no_ring}
use Rattle.sb_member.specs.Ends.{port_at, ports_of, ring_at, rings_of, member_with_port, member_with_ring}
use Rattle.sb_member.specs.Joints.{HasRingMet, IsJoined, IsRingPlaced, MeetAlong, joint_at, no_node, node_at}
use Rattle.sb_member.specs.declared.joint.Joint.{Joint}
use Rattle.sb_member.specs.declared.member.Member.{Member}
use Rattle.sb_member.specs.declared.member.Member.TheVariants.{Host, Router, Device}
use Rattle.sb_member.proofs.EndsChanged.{below_one, ports_with_port, ports_with_ring, rings_with_port, rings_with_ring}
use Rattle.sb_member.proofs.RingsJoined.{count, joined_on, same_or_not}
use Rattle.sb_net.specs.Over.{HasFinalMemory, IsOver, TellsOutcomes}
use Rattle.sb_net.specs.Standing.{StandsFor, device_number}
use Rattle.sb_net.proofs.EndingRings.{both, each_passes, halves, passes_each}

-- all pass a test still where another stands at a place that passes it too
set_passes : {A : Type 0} (test : A → Bool) (xs : List A) (none : A) (k : ℕ) (y : A) → list_all test xs ≡ true → test y ≡ true → k < length xs → list_all test (set xs k y) ≡ true
set_passes test xs none k y all here inside = each_passes test (set xs k y) none (λ i lt. same_or_not i k
    (λ e. ap (λ n. test (slice_index_or (set xs k y) n none)) e ∙ ap test (get_or-set_same xs k y none inside) ∙ here)
    (λ n. ap test (get_or-set_other xs k i y none n) ∙ passes_each test xs none all i (omega (arith, lt, length-set xs k y))))

module _ {F T U : Type 0} where
  -- What is true of a node stays true where its ends meet others.
  pub record Stays (P : Member F T U → Type 0) : Type 0 where
    pub at_port : (x : Member F T U) (o : ℕ) (port : PortSide) → o < length (ports_of x) → IsPortMet (port_at x o) port → P x → P (member_with_port x o port)
    pub at_ring : (x : Member F T U) (i : ℕ) (ring : RingSide) → i < length (rings_of x) → IsRingMet (ring_at x i) ring → P x → P (member_with_ring x i ring)

  -- one meeting
  one_meeting : (P : Member F T U → Type 0) → Stays P → (j : Joint) (before after : List (Member F T U)) → IsRingPlaced before j → HasRingMet j before after
      → (k : ℕ) → P (node_at before k) → P (node_at after k)
  one_meeting P stays j before after p h k was =
      let a = member_with_port (node_at before j.from) j.out h.port_then in
      let b = member_with_ring (node_at before j.to) j.into h.ring_then in
      subst (λ (list : List (Member F T U)). P (node_at list k)) (sym h.nodes) (same_or_not k j.to
      (λ e. let inside : j.to < length (set before j.from a) = let to = p.to in omega (arith, to, length-set before j.from a) in
      subst P (sym (ap (node_at (set (set before j.from a) j.to b)) e ∙ get_or-set_same (set before j.from a) j.to b no_node inside))
      (stays.at_ring (node_at before j.to) j.into h.ring_then p.into h.joined.received (subst (λ n. P (node_at before n)) e was)))
      (λ other. subst P (sym (get_or-set_other (set before j.from a) j.to k b no_node other)) (same_or_not k j.from
      (λ e. subst P (sym (ap (node_at (set before j.from a)) e ∙ get_or-set_same before j.from a no_node p.from))
      (stays.at_port (node_at before j.from) j.out h.port_then p.out h.joined.sent (subst (λ n. P (node_at before n)) e was)))
      (λ apart. subst P (sym (get_or-set_other before j.from k a no_node apart)) was))))

  -- the meetings of some of a network's rings: as many nodes, and what stays true of each
  module _ (P : Member F T U → Type 0) (stays : Stays P) (joints : List Joint) where
    pub meetings_on : (list : List Joint) (n : ℕ) → ((i : ℕ) → i < length list → (n + i < length joints) × (joint_at list i ≡ joint_at joints (n + i)))
        → (before after : List (Member F T U)) → MeetAlong list before after → IsJoined joints before
        → (length after ≡ length before) × ((k : ℕ) → P (node_at before k) → P (node_at after k))
    meetings_on [] n are before after met joined = (ap (λ (xs : List (Member F T U)). length xs) met, λ k was. subst (λ (xs : List (Member F T U)). P (node_at xs k)) (sym met) was)
    meetings_on (j ∷ list) n are before after met joined =
        let first = are 0 (omega arith) in
        let lt = first.0 in
        let one : HasRingMet (joint_at joints (n + 0)) before met.0 = subst (λ (i : Joint). HasRingMet i before met.0) first.1 met.1 in
        let p = joined.placed (n + 0) lt in
        let next = joined_on joints (n + 0) before met.0 lt joined one in
        let rest = meetings_on list (n + 1) (λ i below. let later = are (suc i) (omega (arith, below)) in
        let same : n + suc i ≡ n + 1 + i = omega arith in
        (subst (λ (r : ℕ). r < length joints) same later.0, later.1 ∙ ap (joint_at joints) same)) met.0 after met.2 next in
        (rest.0 ∙ count (joint_at joints (n + 0)) before met.0 p one, λ k was. rest.1 k (one_meeting P stays (joint_at joints (n + 0)) before met.0 p one k was))

    pub meetings : (before after : List (Member F T U)) → MeetAlong joints before after → IsJoined joints before → (length after ≡ length before) × ((k : ℕ) → P (node_at before k) → P (node_at after k))
    meetings = meetings_on joints 0 (λ i below. let same : i ≡ 0 + i = omega arith in (subst (λ (r : ℕ). r < length joints) same below, ap (joint_at joints) same))

  -- a node that is done stays done
  abbrev Done : Member F T U → Type 0
  Done x = (list_all (λ (p : PortSide). p.state.close_sent) (ports_of x) ≡ true) × (list_all has_ended (rings_of x) ≡ true)

  done_stays : Stays Done
  done_stays = record {
    at_port = λ x o port lt met was.
        let close_sent : port.state.close_sent ≡ true = ap (λ (s : PortState). s.close_sent) met.state ∙ passes_each (λ (p : PortSide). p.state.close_sent) (ports_of x) no_port was.0 o lt in (
          ap (list_all (λ (p : PortSide). p.state.close_sent)) (ports_with_port x o port lt) ∙ set_passes (λ (p : PortSide). p.state.close_sent) (ports_of x) no_port o port was.0 close_sent lt,
          ap (list_all has_ended) (rings_with_port x o port) ∙ was.1,
        );
    at_ring = λ x i ring lt met was.
        let gave : has_ended ring ≡ true = ap (λ (list : List Item). has_ended (record no_ring { received = list })) met.received ∙ passes_each has_ended (rings_of x) no_ring was.1 i lt in (
          ap (list_all (λ (p : PortSide). p.state.close_sent)) (ports_with_ring x i ring) ∙ was.0,
          ap (list_all has_ended) (rings_with_ring x i ring lt) ∙ set_passes has_ended (rings_of x) no_ring i ring was.1 gave lt,
        );
  }

  -- what came by a ring stays what it was
  carried_stays : (network : Network) (journal : List Entry) (r place : ℕ) → Stays (λ x. IsCarried network journal r (received_words (ring_at x place)))
  carried_stays network journal r place = record {
    at_port = λ x o port lt met was. subst (λ (xs : List RingSide). IsCarried network journal r (received_words (slice_index_or xs place no_ring))) (sym (rings_with_port x o port)) was;
    at_ring = λ x i ring lt met was. subst (λ (xs : List RingSide). IsCarried network journal r (received_words (slice_index_or xs place no_ring))) (sym (rings_with_ring x i ring lt)) (same_or_not place i
        (λ e. subst (λ (y : RingSide). IsCarried network journal r (received_words y)) (sym (ap (λ n. slice_index_or (set (rings_of x) i ring) n no_ring) e ∙ get_or-set_same (rings_of x) i ring no_ring lt))
        (subst (λ (list : List Item). IsCarried network journal r (item_accesses list)) (ap (λ n. (ring_at x n).received) e ∙ sym met.received) was))
        (λ n. subst (λ (y : RingSide). IsCarried network journal r (received_words y)) (sym (get_or-set_other (rings_of x) i place ring no_ring n)) was));
  }

  -- a host tells what it told
  outcomes_stay : (network : Network) (journal : List Entry) (host : NetHost) → Stays (TellsOutcomes network journal host)
  outcomes_stay network journal host = record { at_port = with_port; at_ring = with_ring }
    where
      with_port : (x : Member F T U) (o : ℕ) (port : PortSide) → o < length (ports_of x) → IsPortMet (port_at x o) port → TellsOutcomes network journal host x → TellsOutcomes network journal host (member_with_port x o port)
      with_port (Host h) o port lt met was = was
      with_port (Router r) o port lt met was = absurd was
      with_port (Device d) o port lt met was = absurd was

      with_ring : (x : Member F T U) (i : ℕ) (ring : RingSide) → i < length (rings_of x) → IsRingMet (ring_at x i) ring → TellsOutcomes network journal host x → TellsOutcomes network journal host (member_with_ring x i ring)
      with_ring (Host h) i ring lt met was =
          let same : ring.received ≡ h.answers.received = met.received ∙ ap (λ n. (slice_index_or (h.answers ∷ []) n no_ring).received) (below_one i lt) in
          ap (λ (list : List Item). outcomes_so_far h.transactions.asked (item_accesses list) h.transactions.next) same ∙ was
      with_ring (Router r) i ring lt met was = absurd was
      with_ring (Device d) i ring lt met was = absurd was

  -- a device has the memory that it had
  memory_stays : (network : Network) (journal : List Entry) (place : ℕ) → Stays (HasFinalMemory network journal place)
  memory_stays network journal place = record { at_port = with_port; at_ring = with_ring }
    where
      with_port : (x : Member F T U) (o : ℕ) (port : PortSide) → o < length (ports_of x) → IsPortMet (port_at x o) port → HasFinalMemory network journal place x → HasFinalMemory network journal place (member_with_port x o port)
      with_port (Host h) o port lt met was = absurd was
      with_port (Router r) o port lt met was = absurd was
      with_port (Device d) o port lt met was = was

      with_ring : (x : Member F T U) (i : ℕ) (ring : RingSide) → i < length (rings_of x) → IsRingMet (ring_at x i) ring → HasFinalMemory network journal place x → HasFinalMemory network journal place (member_with_ring x i ring)
      with_ring (Host h) i ring lt met was = absurd was
      with_ring (Router r) i ring lt met was = absurd was
      with_ring (Device d) i ring lt met was = was

  pub over_stays : (network : Network) (journal : List Entry) (joints : List Joint) (before after : List (Member F T U))
      → IsOver network journal joints before → StandsFor network joints before → MeetAlong joints before after → IsOver network journal joints after
  over_stays network journal joints before after over stands met =
      let joined = stands.joined in
      record {
        lawful = over.lawful;
        done = λ k node.
            let long : length after ≡ length before = (meetings Done done_stays joints before after met joined).0 in
            let was = over.done k (omega (arith, node, long)) in
            let parts = halves (list_all (λ (p : PortSide). p.state.close_sent) (ports_of (node_at before k))) (list_all has_ended (rings_of (node_at before k))) was in
            let now = (meetings Done done_stays joints before after met joined).1 k parts in
            both (list_all (λ (p : PortSide). p.state.close_sent) (ports_of (node_at after k))) (list_all has_ended (rings_of (node_at after k))) now.0 now.1;
        carried = λ r here.
            let P = λ (x : Member F T U). IsCarried network journal r (received_words (ring_at x (joint_at joints r).into)) in
            (meetings P (carried_stays network journal r (joint_at joints r).into) joints before after met joined).1 (joint_at joints r).to (over.carried r here);
        outcomes = λ n host at. (meetings (TellsOutcomes network journal host) (outcomes_stay network journal host) joints before after met joined).1 n (over.outcomes n host at);
        memories = λ d below. (meetings (HasFinalMemory network journal d) (memory_stays network journal d) joints before after met joined).1 (device_number network d) (over.memories d below);
      }
