-- The ends of nodes where nothing moved: the ends of rings that had met know all of each other still.
use Rattle.std.proofs.Common.{◌≡◌, inl, inr, ℕ, zero, suc, ◌<◌, ◌-◌, ◌++◌, List, [], ◌∷◌, length, map, get_or, refl, sym, ap, ◌∙◌, subst, arith}
use Rattle.std.specs.Prelude.{slice_index_or}
use Rattle.std.proofs.lemmas.Bool.{cases_lt}
use Rattle.std.proofs.lemmas.List.{get_or-append_right, get_or_append_left, length-map}
use Rattle.std.proofs.Math.ListN.{get_or-map}
use Rattle.sb_drive.specs.Rounds.{EachRests}
use Rattle.sb_link.specs.Prefixes.{IsPrefix}
use Rattle.sb_node.specs.Rested.{IsRestedPort, IsRestedRing, rested_port_same, rested_ring_same}
use Rattle.sb_node.specs.Sides.{RingSide}
use Rattle.sb_router.specs.Lanes.{InletState, no_inlet, no_port, no_ring}
use Rattle.sb_router.specs.Routers.{IsRestedRouter, RouterSide, router_ports, router_rings}
use Rattle.sb_member.specs.Ends.{port_at, ring_at}
use Rattle.sb_member.specs.Joints.{HaveAllMet, IsJoined, joint_at, no_node, node_at, receiver_of, sender_of}
use Rattle.sb_member.specs.Members.{IsRestedMember}
use Rattle.sb_member.specs.declared.joint.Joint.{Joint}
use Rattle.sb_member.specs.declared.member.Member.{Member}
use Rattle.sb_member.specs.declared.member.Member.TheVariants.{Host, Router, Device}

module _ {X : Type 0} (P : X → X → Type 0) (d : X) where
  -- what holds of two things holds at each place of the lists of them alone
  at_one : (x y : X) → P d d → P x y → (k : ℕ) → P (slice_index_or (x ∷ []) k d) (slice_index_or (y ∷ []) k d)
  at_one x y outside inside zero = inside
  at_one x y outside inside (suc k) = outside

  -- what holds at each place of two lists holds at each place of both in a row
  at_both : (xs ys us vs : List X) → length us ≡ length xs → ((k : ℕ) → P (get_or xs k d) (get_or us k d)) → ((k : ℕ) → P (get_or ys k d) (get_or vs k d)) →
      (k : ℕ) → P (get_or (xs ++ ys) k d) (get_or (us ++ vs) k d)
  at_both xs ys us vs long first second k = elim (cases_lt k (length xs)) [
    | inl lt ↦
        let other : k < length us = omega (arith, lt, long) in
        subst (λ (x : X). P x (get_or (us ++ vs) k d)) (sym (get_or_append_left xs ys d k lt)) (subst (P (get_or xs k d)) (sym (get_or_append_left us vs d k other)) (first k))
    | inr le ↦
        subst (λ (x : X). P x (get_or (us ++ vs) k d)) (sym (get_or-append_right xs ys (length xs) k d refl le))
        (subst (P (get_or ys (k - length xs) d)) (sym (get_or-append_right us vs (length xs) k d long le)) (second (k - length xs)))
  ]

abbrev ring_in : InletState → RingSide
ring_in x = x.ring

module _ (r s : RouterSide) (rested : IsRestedRouter r s) where
  router_ports_rested : (k : ℕ) → IsRestedPort (get_or (router_ports r) k no_port) (get_or (router_ports s) k no_port)
  router_ports_rested = at_both IsRestedPort no_port r.requests.lane.outlets r.answers.lane.outlets s.requests.lane.outlets s.answers.lane.outlets
      rested.requests.lane.outlet_count rested.requests.lane.outlets rested.answers.lane.outlets

  -- a ring is that of the inlet at its place
  ring_there : (xs us : List InletState) (k : ℕ) → IsRestedRing (get_or xs k no_inlet).ring (get_or us k no_inlet).ring → IsRestedRing (get_or (map ring_in xs) k no_ring) (get_or (map ring_in us) k no_ring)
  ring_there xs us k is = subst (λ (x : RingSide). IsRestedRing x (get_or (map ring_in us) k no_ring)) (sym (get_or-map ring_in xs k no_inlet)) (subst (IsRestedRing (get_or xs k no_inlet).ring) (sym (get_or-map ring_in us k no_inlet)) is)

  router_rings_rested : (k : ℕ) → IsRestedRing (get_or (router_rings r) k no_ring) (get_or (router_rings s) k no_ring)
  router_rings_rested = at_both IsRestedRing no_ring (map ring_in r.requests.lane.inlets) (map ring_in r.answers.lane.inlets) (map ring_in s.requests.lane.inlets) (map ring_in s.answers.lane.inlets)
      (length-map s.requests.lane.inlets ring_in ∙ rested.requests.lane.inlet_count ∙ sym (length-map r.requests.lane.inlets ring_in))
      (λ k. ring_there r.requests.lane.inlets s.requests.lane.inlets k (rested.requests.lane.inlets k).ring)
      (λ k. ring_there r.answers.lane.inlets s.answers.lane.inlets k (rested.answers.lane.inlets k).ring)

module _ {F T U : Type 0} where
  -- each end of a node where nothing moved rested
  pub ports_rested : (x y : Member F T U) (k : ℕ) → IsRestedMember x y → IsRestedPort (port_at x k) (port_at y k)
  ports_rested (Host x) (Host y) k h = at_one IsRestedPort no_port x.requests y.requests (rested_port_same no_port) h.requests k
  ports_rested (Router x) (Router y) k h = router_ports_rested x y h k
  ports_rested (Device x) (Device y) k h = at_one IsRestedPort no_port x.answers y.answers (rested_port_same no_port) h.answers k
  ports_rested (Host x) (Router y) k h = absurd h
  ports_rested (Host x) (Device y) k h = absurd h
  ports_rested (Router x) (Host y) k h = absurd h
  ports_rested (Router x) (Device y) k h = absurd h
  ports_rested (Device x) (Host y) k h = absurd h
  ports_rested (Device x) (Router y) k h = absurd h

  pub rings_rested : (x y : Member F T U) (k : ℕ) → IsRestedMember x y → IsRestedRing (ring_at x k) (ring_at y k)
  rings_rested (Host x) (Host y) k h = at_one IsRestedRing no_ring x.answers y.answers (rested_ring_same no_ring) h.answers k
  rings_rested (Router x) (Router y) k h = router_rings_rested x y h k
  rings_rested (Device x) (Device y) k h = at_one IsRestedRing no_ring x.requests y.requests (rested_ring_same no_ring) h.requests k
  rings_rested (Host x) (Router y) k h = absurd h
  rings_rested (Host x) (Device y) k h = absurd h
  rings_rested (Router x) (Host y) k h = absurd h
  rings_rested (Router x) (Device y) k h = absurd h
  rings_rested (Device x) (Host y) k h = absurd h
  rings_rested (Device x) (Router y) k h = absurd h

  -- nothing went over any ring, and no end knows less than before
  pub met_still : (joints : List Joint) (before after : List (Member F T U)) → length after ≡ length before → EachRests (λ x y. IsRestedMember x y) before after → IsJoined joints after
      → HaveAllMet joints (length joints) before → HaveAllMet joints (length joints) after
  met_still joints before after same rested joined met r below =
      let j = joint_at joints r in
      let p = joined.placed r below in
      let from = p.from in
      let to = p.to in
      let port = ports_rested (node_at before j.from) (node_at after j.from) j.out (rested j.from no_node (omega (arith, from, same))) in
      let ring = rings_rested (node_at before j.to) (node_at after j.to) j.into (rested j.to no_node (omega (arith, to, same))) in
      let m = met r below in
      record {
        in_order = subst (IsPrefix (receiver_of after j).received) (sym port.sent) (subst (λ list. IsPrefix list (sender_of before j).state.sent) (sym ring.received) m.in_order);
        told_producer = let told = m.told_producer in let more = port.learnt in let long = ap length ring.received in omega (arith, told, more, long);
        told_consumer = let told = m.told_consumer in let more = ring.learnt in let long = ap length port.sent in omega (arith, told, more, long);
      }
