-- At each moment the lists of a router's rings are those of the network's moment.
use Rattle.std.proofs.Common.{◌≡◌, ℕ, ◌+◌, ◌<◌, List, [], length, map, sym, ap, ◌∙◌, subst, arith}
use Rattle.std.specs.Prelude.{slice_index_or, if◌then◌else◌}
use Rattle.std.proofs.lemmas.List.{get_or-append-add, length-append, length-map}
use Rattle.std.proofs.Math.ListN.{get_or-append}
use Rattle.std.proofs.lemmas.List.Elements.{All-from_get_or, All-get_or}
use Rattle.sb_packet.specs.Networks.{Network}
use Rattle.sb_port.specs.Ports.{PortSide}
use Rattle.sb_node.specs.Sides.{RingSide}
use Rattle.sb_router.specs.Lanes.{InletState, LaneState, held_words, inlet_at, no_inlet, no_port, no_ring, outlet_at}
use Rattle.sb_router.specs.Routers.{IsWholeRouter, RouterSide}
use Rattle.sb_laws.specs.Moments.{Moment}
use Rattle.sb_laws.specs.NetworkLayouts.{network_answers, network_requests}
use Rattle.sb_laws.specs.NodeSides.{HasPort, HasRing}
use Rattle.sb_laws.specs.RouterSides.{HasInlet, HasLane, IsRouterAt, answer_ins, answer_outs, request_ins, request_outs}
use Rattle.sb_member.specs.Ends.{port_at, ports_of, ring_at, rings_of}
use Rattle.sb_member.specs.Joints.{IsJoined, joint_at, no_node, node_at}
use Rattle.sb_member.specs.Members.{IsWholeMember}
use Rattle.sb_member.specs.declared.joint.Joint.{Joint}
use Rattle.sb_member.specs.declared.member.Member.{Member}
use Rattle.sb_member.specs.declared.member.Member.TheVariants.{Router}
use Rattle.sb_net.specs.RingEnds.{net_moment, node_holds}
use Rattle.sb_net.specs.Standing.{IsCovered, IsRouterBuilt}
use Rattle.sb_net.proofs.RingMoments.{has_port, has_ring}
use Rattle.sb_net.proofs.StandingEnds.{is_below}
use Rattle.sb_net.proofs.TwoLists.{in_first, in_second}

abbrev ring_in : InletState → RingSide
ring_in x = x.ring

module _ {F T U : Type 0} (joints : List Joint) (nodes : List (Member F T U)) (n : IsJoined joints nodes) (c : IsCovered joints nodes) (k : ℕ) (r : RouterSide) (inside : k < length nodes) (is : node_at nodes k ≡ Router r) where
  abbrev m : Moment
  m = net_moment joints nodes

  abbrev q : LaneState
  q = r.requests.lane

  abbrev a : LaneState
  a = r.answers.lane

  abbrev here : Member F T U
  here = Router r

  whole : IsWholeRouter r
  whole = subst IsWholeMember is (All-get_or IsWholeMember nodes k no_node inside n.whole)

  -- the words that are held of the ring at a place
  held_at_place : (i : ℕ) → i < length (rings_of here) → m.held (ring_at here i).plan.ring ≡ slice_index_or (node_holds here) i []
  held_at_place i lt =
      let at = c.rings k i inside (subst (λ node. i < length (rings_of node)) (sym is) lt) in
      let ring = (ring_at (node_at nodes k) i).plan.ring in
      let j = joint_at joints ring in
      ap (λ node. m.held (ring_at node i).plan.ring) (sym is)
      ∙ ap (λ b. if b then slice_index_or (node_holds (node_at nodes j.to)) j.into [] else []) (is_below ring (length joints) at.ring)
      ∙ ap (λ node. slice_index_or (node_holds (node_at nodes node)) j.into []) at.to ∙ ap (λ place. slice_index_or (node_holds (node_at nodes k)) place []) at.into
      ∙ ap (λ node. slice_index_or (node_holds node) i []) is

  ring_place : (i : ℕ) (x : InletState) → i < length (rings_of here) → ring_at here i ≡ x.ring → slice_index_or (node_holds here) i [] ≡ held_words x.held → HasInlet m x
  ring_place i x lt at held =
      let got : HasRing m (ring_at here i).plan.ring (ring_at here i) = subst (λ node. HasRing m (ring_at node i).plan.ring (ring_at node i)) is (has_ring joints nodes c k i inside (subst (λ node. i < length (rings_of node)) (sym is) lt)) in
      record {
        ring = subst (λ (ring : RingSide). HasRing m ring.plan.ring ring) at got;
        held = ap (λ (ring : RingSide). m.held ring.plan.ring) (sym at) ∙ held_at_place i lt ∙ held;
      }

  port_place : (o : ℕ) (y : PortSide) → o < length (ports_of here) → port_at here o ≡ y → HasPort m y.plan.ring y
  port_place o y lt at =
      let got : HasPort m (port_at here o).plan.ring (port_at here o) = subst (λ node. HasPort m (port_at node o).plan.ring (port_at node o)) is (has_port joints nodes c k o inside (subst (λ node. o < length (ports_of node)) (sym is) lt)) in
      subst (λ (port : PortSide). HasPort m port.plan.ring port) at got

  rings_count : length (rings_of here) ≡ length q.inlets + length a.inlets
  rings_count = length-append (map ring_in q.inlets) (map ring_in a.inlets) ∙ ap (λ n. n + length (map ring_in a.inlets)) (length-map q.inlets ring_in) ∙ ap (λ n. length q.inlets + n) (length-map a.inlets ring_in)

  ports_count : length (ports_of here) ≡ length q.outlets + length a.outlets
  ports_count = length-append q.outlets a.outlets

  requests_have : HasLane m q
  requests_have = record {
    inlets = All-from_get_or (HasInlet m) q.inlets no_inlet (λ i lt. ring_place i (inlet_at q i) (omega (arith, lt, rings_count)) (in_first ring_in ring_in q.inlets a.inlets i no_inlet no_ring lt)
        (in_first (λ (x : InletState). held_words x.held) (λ (x : InletState). held_words x.held) q.inlets a.inlets i no_inlet [] lt));
    outlets = All-from_get_or (λ y. HasPort m y.plan.ring y) q.outlets no_port (λ o lt. port_place o (outlet_at q o) (omega (arith, lt, ports_count)) (get_or-append q.outlets a.outlets no_port o lt));
  }

  answers_have : HasLane m a
  answers_have = record {
    inlets = All-from_get_or (HasInlet m) a.inlets no_inlet (λ i lt. ring_place (length q.inlets + i) (inlet_at a i) (omega (arith, lt, rings_count)) (in_second ring_in ring_in q.inlets a.inlets i no_inlet no_ring lt)
        (in_second (λ (x : InletState). held_words x.held) (λ (x : InletState). held_words x.held) q.inlets a.inlets i no_inlet [] lt));
    outlets = All-from_get_or (λ y. HasPort m y.plan.ring y) a.outlets no_port (λ o lt. port_place (length q.outlets + o) (outlet_at a o) (omega (arith, lt, ports_count)) (get_or-append-add q.outlets a.outlets o no_port));
  }

  -- both directions stand in their network
  pub requests_stand : (network : Network) (place : ℕ) → IsRouterBuilt network place r → IsRouterAt network (network_requests network) m (request_ins network place) (request_outs network place) r.requests
  requests_stand network place built = record { built = built.requests; has = requests_have; whole = whole.requests; forwards = built.forwards_requests }

  pub answers_stand : (network : Network) (place : ℕ) → IsRouterBuilt network place r → IsRouterAt network (network_answers network) m (answer_ins network place) (answer_outs network place) r.answers
  answers_stand network place built = record { built = built.answers; has = answers_have; whole = whole.answers; forwards = built.forwards_answers }
