-- The ends of rings that met did nothing: what is spent is as before.
use Rattle.std.proofs.Common.{◌≡◌, ◌≤◌, ◌<◌, ℕ, suc, ◌+◌, ◌-◌, Bool, true, false, List, [], ◌∷◌, ◌++◌, length, map, set, refl, sym, ap, ◌∙◌, subst, arith}
use Rattle.std.specs.Prelude.{nat_lt, slice_index_or, if◌then◌else◌}
use Rattle.std.proofs.Math.ListN.{get_or-map}
use Rattle.std.proofs.Math.Seq.{map-set_same}
use Rattle.std.proofs.lemmas.Bool.Decides.{nat_tests}
use Rattle.std.proofs.lemmas.List.{get_or-append_right, get_or_append_left, length-map, length-set}
use Rattle.sb_packet.specs.declared.item.Item.{Item}
use Rattle.sb_port.specs.Ports.{PortSide}
use Rattle.sb_node.specs.Sides.{RingSide, port_moves}
use Rattle.sb_node.proofs.Answering.{same_moves}
use Rattle.sb_router.specs.Routers.{DirectionSide, RouterSide, router_ring, router_with_port, router_with_ring, with_port, with_ring}
use Rattle.sb_router.specs.Lanes.{InletState, inlet_at, no_inlet, no_port, no_ring}
use Rattle.sb_router.specs.Rested.{free_count, inlet_moves}
use Rattle.sb_router.proofs.Places.{same_at_each}
use Rattle.sb_member.specs.Ends.{member_with_port, member_with_ring, port_at, ports_of, ring_at, rings_of}
use Rattle.sb_member.specs.Joints.{HasRingMet, IsJoined, IsRingPlaced, MeetAlong, joint_at, no_node, node_at}
use Rattle.sb_member.specs.declared.joint.Joint.{Joint}
use Rattle.sb_member.specs.declared.member.Member.{Member}
use Rattle.sb_member.specs.declared.member.Member.TheVariants.{Host, Router, Device}
use Rattle.sb_member.proofs.EndsChanged.{below_one, ports_with_port, ports_with_ring}
use Rattle.sb_member.proofs.RingsJoined.{joined_on}
use Rattle.sb_net.specs.Spent.{node_receipts, spent, spent_at}
use Rattle.sb_net.proofs.GrownSums.{range_same}
use Rattle.sb_net.proofs.SpendingNodes.{node_sendings}
use Rattle.sb_net.proofs.SpendingRounds.{spent_is}

-- what a router counts at the rings of a direction
abbrev inlet_counts : DirectionSide → List ℕ
inlet_counts d = map inlet_moves d.lane.inlets

abbrev router_receipts : RouterSide → List ℕ
router_receipts r = inlet_counts r.requests ++ inlet_counts r.answers

abbrev ring_in : InletState → RingSide
ring_in x = x.ring

-- a ring that received the same counts the same
same_inlet : (x : InletState) (ring : RingSide) → ring.received ≡ x.ring.received → inlet_moves (record x { ring = ring }) ≡ inlet_moves x
same_inlet x ring same = ap (λ (list : List Item). length list + length list + free_count x.held) same

router_port_met : (r : RouterSide) (k : ℕ) (p : PortSide) → router_receipts (router_with_port r k p) ≡ router_receipts r
router_port_met r k p = by_test (nat_lt k (length r.requests.lane.outlets))
  where
    by_test : (b : Bool) → router_receipts (if b then record r { requests = with_port r.requests k p } else record r { answers = with_port r.answers (k - length r.requests.lane.outlets) p }) ≡ router_receipts r
    by_test true = refl
    by_test false = refl

router_ring_met : (r : RouterSide) (k : ℕ) (ring : RingSide) → ring.received ≡ (router_ring r k).received → router_receipts (router_with_ring r k ring) ≡ router_receipts r
router_ring_met r k ring same = by_test (nat_lt k n) refl
  where
    n : ℕ
    n = length r.requests.lane.inlets

    xs : List RingSide
    xs = map ring_in r.requests.lane.inlets

    ys : List RingSide
    ys = map ring_in r.answers.lane.inlets

    long : length xs ≡ n
    long = length-map r.requests.lane.inlets ring_in

    by_test : (b : Bool) → nat_lt k n ≡ b → router_receipts (if b then record r { requests = with_ring r.requests k ring } else record r { answers = with_ring r.answers (k - n) ring }) ≡ router_receipts r
    by_test true e =
        let below : k < n = grind (arith, nat_tests) in
        let at : router_ring r k ≡ (inlet_at r.requests.lane k).ring = get_or_append_left xs ys no_ring k (omega (arith, below, long)) ∙ get_or-map ring_in r.requests.lane.inlets k no_inlet in
        ap (λ (list : List ℕ). list ++ inlet_counts r.answers) (map-set_same inlet_moves r.requests.lane.inlets k (record (inlet_at r.requests.lane k) { ring = ring }) no_inlet
        (same_inlet (inlet_at r.requests.lane k) ring (same ∙ ap (λ (x : RingSide). x.received) at)))
    by_test false e =
        let behind : n ≤ k = grind (arith, nat_tests) in
        let at : router_ring r k ≡ (inlet_at r.answers.lane (k - n)).ring = get_or-append_right xs ys n k no_ring long behind ∙ get_or-map ring_in r.answers.lane.inlets (k - n) no_inlet in
        ap (λ (list : List ℕ). inlet_counts r.requests ++ list) (map-set_same inlet_moves r.answers.lane.inlets (k - n) (record (inlet_at r.answers.lane (k - n)) { ring = ring }) no_inlet
        (same_inlet (inlet_at r.answers.lane (k - n)) ring (same ∙ ap (λ (x : RingSide). x.received) at)))

module _ {F T U : Type 0} where
  -- a node counts the same once one of its ends has met the other one
  sendings_with_port : (m : Member F T U) (k : ℕ) (p : PortSide) → k < length (ports_of m) → p.state ≡ (port_at m k).state → node_sendings (member_with_port m k p) ≡ node_sendings m
  sendings_with_port m k p below same = ap (map port_moves) (ports_with_port m k p below) ∙ map-set_same port_moves (ports_of m) k p no_port (same_moves (port_at m k) p same)

  sendings_with_ring : (m : Member F T U) (k : ℕ) (ring : RingSide) → node_sendings (member_with_ring m k ring) ≡ node_sendings m
  sendings_with_ring m k ring = ap (map port_moves) (ports_with_ring m k ring)

  receipts_with_port : (m : Member F T U) (k : ℕ) (p : PortSide) → node_receipts (member_with_port m k p) ≡ node_receipts m
  receipts_with_port (Host h) k p = refl
  receipts_with_port (Router r) k p = router_port_met r k p
  receipts_with_port (Device d) k p = refl

  receipts_with_ring : (m : Member F T U) (k : ℕ) (ring : RingSide) → k < length (rings_of m) → ring.received ≡ (ring_at m k).received → node_receipts (member_with_ring m k ring) ≡ node_receipts m
  receipts_with_ring (Host h) k ring below same = ap (λ (list : List Item). length list ∷ []) (same ∙ ap (λ i. (slice_index_or (h.answers ∷ []) i no_ring).received) (below_one k below))
  receipts_with_ring (Router r) k ring below same = router_ring_met r k ring same
  receipts_with_ring (Device d) k ring below same = ap (λ (list : List Item). length list ∷ []) (same ∙ ap (λ i. (slice_index_or (d.requests ∷ []) i no_ring).received) (below_one k below))

module _ {F T U : Type 0} (j : Joint) (before after : List (Member F T U)) (p : IsRingPlaced before j) (h : HasRingMet j before after) {Y : Type 0} (f : Member F T U → Y)
    (port_met : f (member_with_port (node_at before j.from) j.out h.port_then) ≡ f (node_at before j.from))
    (ring_met : f (member_with_ring (node_at before j.to) j.into h.ring_then) ≡ f (node_at before j.to)) where
  -- what is seen of each node is as before, where it is so of the two that met
  seen_same : (k : ℕ) → f (node_at after k) ≡ f (node_at before k)
  seen_same k = ap (λ xs. f (node_at xs k)) h.nodes ∙ same_at_each between j.to receiver no_node inside f second k ∙ first k
    where
      sender : Member F T U
      sender = member_with_port (node_at before j.from) j.out h.port_then

      receiver : Member F T U
      receiver = member_with_ring (node_at before j.to) j.into h.ring_then

      between : List (Member F T U)
      between = set before j.from sender

      inside : j.to < length between
      inside = let to = p.to in omega (arith, to, length-set before j.from sender)

      first : (i : ℕ) → f (node_at between i) ≡ f (node_at before i)
      first = same_at_each before j.from sender no_node p.from f port_met

      second : f receiver ≡ f (node_at between j.to)
      second = ring_met ∙ sym (first j.to)

module _ {F T U : Type 0} (joints : List Joint) where
  one_meeting : (r : ℕ) (before after : List (Member F T U)) → r < length joints → IsJoined joints before → HasRingMet (joint_at joints r) before after → spent joints after ≡ spent joints before
  one_meeting r before after below n h = range_same (spent_at joints after) (spent_at joints before) (length joints) (λ q inside.
      let i = joint_at joints q in
      spent_is joints after q inside
      ∙ ap (λ (xs : List ℕ). slice_index_or xs i.out 0 + slice_index_or (node_receipts (node_at after i.to)) i.into 0) (sendings i.from)
      ∙ ap (λ (xs : List ℕ). slice_index_or (node_sendings (node_at before i.from)) i.out 0 + slice_index_or xs i.into 0) (receipts i.to)
      ∙ sym (spent_is joints before q inside))
    where
      j : Joint
      j = joint_at joints r

      p : IsRingPlaced before j
      p = n.placed r below

      a : Member F T U
      a = node_at before j.from

      b : Member F T U
      b = node_at before j.to

      sendings : (k : ℕ) → node_sendings (node_at after k) ≡ node_sendings (node_at before k)
      sendings = seen_same j before after p h node_sendings (sendings_with_port a j.out h.port_then p.out h.joined.sent.state) (sendings_with_ring b j.into h.ring_then)

      receipts : (k : ℕ) → node_receipts (node_at after k) ≡ node_receipts (node_at before k)
      receipts = seen_same j before after p h node_receipts (receipts_with_port a j.out h.port_then) (receipts_with_ring b j.into h.ring_then p.into h.joined.received.received)

  -- meetings along the joints from one of them on
  meetings_from : (js : List Joint) (n : ℕ) (before after : List (Member F T U)) → n + length js ≡ length joints → ((i : ℕ) → i < length js → joint_at js i ≡ joint_at joints (n + i))
      → IsJoined joints before → MeetAlong js before after → spent joints after ≡ spent joints before
  meetings_from [] n before after count same joined met = ap (spent joints) met
  meetings_from (j ∷ js) n before after count same joined (between, one, rest) =
      let at : j ≡ joint_at joints n = same 0 (omega arith) ∙ ap (joint_at joints) (omega arith) in
      let below : n < length joints = omega (arith, count) in
      let here : HasRingMet (joint_at joints n) before between = subst (λ i. HasRingMet i before between) at one in
      meetings_from js (n + 1) between after (omega (arith, count))
      (λ i inside. same (suc i) (omega (arith, inside)) ∙ ap (joint_at joints) (omega arith))
      (joined_on joints n before between below joined here) rest
      ∙ one_meeting n before between below joined here

  pub meetings_do_nothing : (before after : List (Member F T U)) → IsJoined joints before → MeetAlong joints before after → spent joints after ≡ spent joints before
  meetings_do_nothing before after joined met = meetings_from joints 0 before after (omega arith) (λ i inside. ap (joint_at joints) (omega arith)) joined met
