-- A network in which one ring was handed over.
use Rattle.std.proofs.Common.{◌≡◌, ◌≢◌, ⊎_elim, ℕ, zero, suc, ◌+◌, ◌<◌, Bool, true, false, List, length, set, refl, sym, ap, ◌∙◌, subst, arith}
use Rattle.std.specs.Prelude.{All, slice_index_or, eqb}
use Rattle.std.proofs.lemmas.List.{length-set, get_or-set_same, get_or-set_other}
use Rattle.std.proofs.lemmas.List.Elements.{All-get_or, All-set}
use Rattle.std.proofs.lemmas.Bool.Decides.{eqb_tells}
use Rattle.sb_link.specs.RingPlans.{RingPlan}
use Rattle.sb_link.specs.Ends.{HaveMet}
use Rattle.sb_port.specs.Ports.{PortSide}
use Rattle.sb_node.specs.Sides.{RingSide}
use Rattle.sb_router.specs.Lanes.{no_port, no_ring}
use Rattle.sb_member.specs.Members.{IsWholeMember}
use Rattle.sb_member.specs.Ends.{port_at, ports_of, ring_at, rings_of, member_with_port, member_with_ring}
use Rattle.sb_member.specs.Joints.{HasRingMet, HaveAllMet, IsJoined, IsRingPlaced, KnowEachOther, joint_at, no_node, node_at, receiver_of, sender_of}
use Rattle.sb_member.specs.declared.joint.Joint.{Joint}
use Rattle.sb_member.specs.declared.member.Member.{Member}
use Rattle.sb_member.proofs.EndsChanged.{ports_with_port, ports_with_ring, rings_with_port, rings_with_ring, whole_with_port, whole_with_ring}

-- two numbers are the same, or not
pub same_or_not : {P : Type 0} (a b : ℕ) → (a ≡ b → P) → (a ≢ b → P) → P
same_or_not a b f g = ⊎_elim (λ (e : (eqb a b ≡ true) × (a ≡ b)). f e.1) (λ (e : (eqb a b ≡ false) × (a ≢ b)). g e.1) (eqb_tells a b)

-- what is no more than a number and isn't it is less
pub below_not : (a b : ℕ) → a < b + 1 → a ≢ b → a < b
below_not zero zero lt n = absurd (n refl)
below_not zero (suc b) lt n = omega arith
below_not (suc a) zero lt n = absurd (omega (arith, lt))
below_not (suc a) (suc b) lt n = let less = below_not a b (omega (arith, lt)) (λ e. n (ap suc e)) in omega (arith, less)

module _ {F T U : Type 0} (j : Joint) (before after : List (Member F T U)) (p : IsRingPlaced before j) (h : HasRingMet j before after) where
  abbrev a : Member F T U
  a = node_at before j.from

  abbrev b : Member F T U
  b = node_at before j.to

  abbrev a_then : Member F T U
  a_then = member_with_port a j.out h.port_then

  abbrev b_then : Member F T U
  b_then = member_with_ring b j.into h.ring_then

  pub count : length after ≡ length before
  count = ap (λ (xs : List (Member F T U)). length xs) h.nodes ∙ length-set (set before j.from a_then) j.to b_then ∙ length-set before j.from a_then

  node_from : node_at after j.from ≡ a_then
  node_from = ap (λ xs. node_at xs j.from) h.nodes ∙ get_or-set_other (set before j.from a_then) j.to j.from b_then no_node p.apart ∙ get_or-set_same before j.from a_then no_node p.from

  node_to : node_at after j.to ≡ b_then
  node_to = ap (λ xs. node_at xs j.to) h.nodes ∙ get_or-set_same (set before j.from a_then) j.to b_then no_node (let to = p.to in omega (arith, to, length-set before j.from a_then))

  node_other : (k : ℕ) → k ≢ j.from → k ≢ j.to → node_at after k ≡ node_at before k
  node_other k n m = ap (λ xs. node_at xs k) h.nodes ∙ get_or-set_other (set before j.from a_then) j.to k b_then no_node m ∙ get_or-set_other before j.from k a_then no_node n

  ports_from : ports_of (node_at after j.from) ≡ set (ports_of a) j.out h.port_then
  ports_from = ap ports_of node_from ∙ ports_with_port a j.out h.port_then p.out

  rings_to : rings_of (node_at after j.to) ≡ set (rings_of b) j.into h.ring_then
  rings_to = ap rings_of node_to ∙ rings_with_ring b j.into h.ring_then p.into

  ports_elsewhere : (k : ℕ) → k ≢ j.from → ports_of (node_at after k) ≡ ports_of (node_at before k)
  ports_elsewhere k n = same_or_not k j.to
      (λ e. ap (λ i. ports_of (node_at after i)) e ∙ ap ports_of node_to ∙ ports_with_ring b j.into h.ring_then ∙ sym (ap (λ i. ports_of (node_at before i)) e))
      (λ m. ap ports_of (node_other k n m))

  rings_elsewhere : (k : ℕ) → k ≢ j.to → rings_of (node_at after k) ≡ rings_of (node_at before k)
  rings_elsewhere k n = same_or_not k j.from
      (λ e. ap (λ i. rings_of (node_at after i)) e ∙ ap rings_of node_from ∙ rings_with_port a j.out h.port_then ∙ sym (ap (λ i. rings_of (node_at before i)) e))
      (λ m. ap rings_of (node_other k m n))

  ports_count : (k : ℕ) → length (ports_of (node_at after k)) ≡ length (ports_of (node_at before k))
  ports_count k = same_or_not k j.from
      (λ e. ap (λ i. length (ports_of (node_at after i))) e ∙ ap (λ (xs : List PortSide). length xs) ports_from ∙ length-set (ports_of a) j.out h.port_then ∙ sym (ap (λ i. length (ports_of (node_at before i))) e))
      (λ n. ap (λ (xs : List PortSide). length xs) (ports_elsewhere k n))

  rings_count : (k : ℕ) → length (rings_of (node_at after k)) ≡ length (rings_of (node_at before k))
  rings_count k = same_or_not k j.to
      (λ e. ap (λ i. length (rings_of (node_at after i))) e ∙ ap (λ (xs : List RingSide). length xs) rings_to ∙ length-set (rings_of b) j.into h.ring_then ∙ sym (ap (λ i. length (rings_of (node_at before i))) e))
      (λ n. ap (λ (xs : List RingSide). length xs) (rings_elsewhere k n))

  pub sender_here : sender_of after j ≡ h.port_then
  sender_here = ap (λ xs. slice_index_or xs j.out no_port) ports_from ∙ get_or-set_same (ports_of a) j.out h.port_then no_port p.out

  pub receiver_here : receiver_of after j ≡ h.ring_then
  receiver_here = ap (λ xs. slice_index_or xs j.into no_ring) rings_to ∙ get_or-set_same (rings_of b) j.into h.ring_then no_ring p.into

  pub sender_there : (i : Joint) → (i.from ≡ j.from → i.out ≢ j.out) → sender_of after i ≡ sender_of before i
  sender_there i apart = same_or_not i.from j.from
      (λ e. ap (λ k. port_at (node_at after k) i.out) e ∙ ap (λ xs. slice_index_or xs i.out no_port) ports_from ∙ get_or-set_other (ports_of a) j.out i.out h.port_then no_port (apart e)
      ∙ sym (ap (λ k. port_at (node_at before k) i.out) e))
      (λ n. ap (λ xs. slice_index_or xs i.out no_port) (ports_elsewhere i.from n))

  pub receiver_there : (i : Joint) → (i.to ≡ j.to → i.into ≢ j.into) → receiver_of after i ≡ receiver_of before i
  receiver_there i apart = same_or_not i.to j.to
      (λ e. ap (λ k. ring_at (node_at after k) i.into) e ∙ ap (λ xs. slice_index_or xs i.into no_ring) rings_to ∙ get_or-set_other (rings_of b) j.into i.into h.ring_then no_ring (apart e)
      ∙ sym (ap (λ k. ring_at (node_at before k) i.into) e))
      (λ n. ap (λ xs. slice_index_or xs i.into no_ring) (rings_elsewhere i.to n))

  -- it stands where it stood
  pub placed_on : (i : Joint) → IsRingPlaced before i → (sender_of after i).mark ≡ (receiver_of after i).mark → IsRingPlaced after i
  placed_on i q marks = record {
    from = let lt = q.from in omega (arith, lt, count);
    to = let lt = q.to in omega (arith, lt, count);
    apart = q.apart;
    out = let lt = q.out in omega (arith, lt, ports_count i.from);
    into = let lt = q.into in omega (arith, lt, rings_count i.to);
    marks = marks;
  }

  pub all_whole : All IsWholeMember before → All IsWholeMember after
  all_whole w = subst (All IsWholeMember) (sym h.nodes) (All-set IsWholeMember (set before j.from a_then) j.to b_then
      (whole_with_ring b j.into h.ring_then p.into (All-get_or IsWholeMember before j.to no_node p.to w) h.joined.received)
      (All-set IsWholeMember before j.from a_then (whole_with_port a j.out h.port_then p.out (All-get_or IsWholeMember before j.from no_node p.from w) h.joined.sent) w))

module _ {F T U : Type 0} (joints : List Joint) (r : ℕ) (before after : List (Member F T U)) (lt : r < length joints) (n : IsJoined joints before) (h : HasRingMet (joint_at joints r) before after) where
  abbrev j : Joint
  j = joint_at joints r

  abbrev p : IsRingPlaced before j
  p = n.placed r lt

  -- another ring has other places
  other_port : (q : ℕ) → q < length joints → q ≢ r → (joint_at joints q).from ≡ j.from → (joint_at joints q).out ≢ j.out
  other_port q below differs from out =
      differs (sym (n.sent_by q below) ∙ ap (λ k. (port_at (node_at before k) (joint_at joints q).out).plan.ring) from ∙ ap (λ k. (port_at (node_at before j.from) k).plan.ring) out ∙ n.sent_by r lt)

  other_ring : (q : ℕ) → q < length joints → q ≢ r → (joint_at joints q).to ≡ j.to → (joint_at joints q).into ≢ j.into
  other_ring q below differs to into =
      differs (sym (n.received_by q below) ∙ ap (λ k. (ring_at (node_at before k) (joint_at joints q).into).plan.ring) to ∙ ap (λ k. (ring_at (node_at before j.to) k).plan.ring) into ∙ n.received_by r lt)

  sender_stays : (q : ℕ) → q < length joints → q ≢ r → sender_of after (joint_at joints q) ≡ sender_of before (joint_at joints q)
  sender_stays q below differs = sender_there j before after p h (joint_at joints q) (other_port q below differs)

  receiver_stays : (q : ℕ) → q < length joints → q ≢ r → receiver_of after (joint_at joints q) ≡ receiver_of before (joint_at joints q)
  receiver_stays q below differs = receiver_there j before after p h (joint_at joints q) (other_ring q below differs)

  marks_then : (q : ℕ) → q < length joints → (sender_of after (joint_at joints q)).mark ≡ (receiver_of after (joint_at joints q)).mark
  marks_then q below = same_or_not q r
      (λ e. ap (λ k. (sender_of after (joint_at joints k)).mark) e ∙ ap (λ (x : PortSide). x.mark) (sender_here j before after p h) ∙ h.joined.marks
      ∙ sym (ap (λ (x : RingSide). x.mark) (receiver_here j before after p h)) ∙ sym (ap (λ k. (receiver_of after (joint_at joints k)).mark) e))
      (λ differs. ap (λ (x : PortSide). x.mark) (sender_stays q below differs) ∙ (n.placed q below).marks ∙ sym (ap (λ (x : RingSide). x.mark) (receiver_stays q below differs)))

  pub joined_on : IsJoined joints after
  joined_on = record {
    whole = all_whole j before after p h n.whole;
    placed = λ q below. placed_on j before after p h (joint_at joints q) (n.placed q below) (marks_then q below);
    sent_by = λ q below. same_or_not q r
        (λ e. ap (λ k. (sender_of after (joint_at joints k)).plan.ring) e ∙ ap (λ (x : PortSide). x.plan.ring) (sender_here j before after p h) ∙ ap (λ (x : RingPlan). x.ring) h.joined.sent.plan ∙ n.sent_by r lt ∙ sym e)
        (λ differs. ap (λ (x : PortSide). x.plan.ring) (sender_stays q below differs) ∙ n.sent_by q below);
    received_by = λ q below. same_or_not q r
        (λ e. ap (λ k. (receiver_of after (joint_at joints k)).plan.ring) e ∙ ap (λ (x : RingSide). x.plan.ring) (receiver_here j before after p h) ∙ ap (λ (x : RingPlan). x.ring) h.joined.received.plan ∙ n.received_by r lt ∙ sym e)
        (λ differs. ap (λ (x : RingSide). x.plan.ring) (receiver_stays q below differs) ∙ n.received_by q below);
  }

  pub met_on : HaveAllMet joints r before → HaveAllMet joints (r + 1) after
  met_on met q below = same_or_not q r
      (λ e. subst (λ k. KnowEachOther after (joint_at joints k)) (sym e)
      (subst (λ (x : PortSide). HaveMet x.state.sent x.taken (receiver_of after j).received (receiver_of after j).known) (sym (sender_here j before after p h))
      (subst (λ (x : RingSide). HaveMet h.port_then.state.sent h.port_then.taken x.received x.known) (sym (receiver_here j before after p h)) h.joined.met)))
      (λ differs. let inside : q < r = below_not q r below differs in
      let within : q < length joints = omega (arith, inside, lt) in
      subst (λ (x : PortSide). HaveMet x.state.sent x.taken (receiver_of after (joint_at joints q)).received (receiver_of after (joint_at joints q)).known) (sym (sender_stays q within differs))
      (subst (λ (x : RingSide). HaveMet (sender_of before (joint_at joints q)).state.sent (sender_of before (joint_at joints q)).taken x.received x.known) (sym (receiver_stays q within differs)) (met q inside)))
