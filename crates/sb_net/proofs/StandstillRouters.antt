-- A router that didn't move is idle at its rings, as a node of its network.
use Rattle.std.proofs.Common.{◌≡◌, ◌≢◌, ℕ, ◌+◌, ◌<◌, [], length, map, sym, ap, ◌∙◌, subst, arith}
use Rattle.std.specs.Prelude.{None, Option, slice_index_or}
use Rattle.std.proofs.lemmas.List.{length-map, length-append, get_or-append-add}
use Rattle.std.proofs.Math.ListN.{get_or-append}
use Rattle.std.proofs.lemmas.List.Elements.{All-append, All-from_get_or, All-get_or, All-map}
use Rattle.sb_link.specs.declared.answers.Turn.{Turn}
use Rattle.sb_link.specs.declared.answers.Turn.TheVariants.{Moved}
use Rattle.sb_packet.specs.Networks.{Network}
use Rattle.sb_port.specs.Ports.{PortSide}
use Rattle.sb_node.specs.Sides.{RingSide}
use Rattle.sb_router.specs.Lanes.{InletState, LaneState, Route, held_words, inlet_at, no_inlet, no_port, no_ring}
use Rattle.sb_router.specs.Ways.{route_of}
use Rattle.sb_router.specs.Routers.{DirectionSide, RouterSide, router_ports, router_rings}
use Rattle.sb_laws.specs.NetworkLayouts.{IsRouted, answer_stage, network_stages}
use Rattle.sb_laws.specs.NodeSides.{ShowsPort, ShowsRing}
use Rattle.sb_laws.specs.RouterSides.{IsIdleAtRings, ShowsInlet, ShowsLane, ring_next}
use Rattle.sb_laws.specs.Standstills.{IsIdleReceiver, IsIdleSender, RoundEnd, Stages}
use Rattle.sb_laws.proofs.RouterSides.{unmoved_answers, unmoved_requests}
use Rattle.sb_member.specs.Ends.{ring_at, rings_of}
use Rattle.sb_member.specs.Members.{IsMemberTurn, IsWholeMember}
use Rattle.sb_member.specs.declared.member.Member.{Member}
use Rattle.sb_member.specs.declared.member.Member.TheVariants.{Host, Router, Device}
use Rattle.sb_net.specs.RingEnds.{node_holds, node_next}
use Rattle.sb_net.specs.Standing.{IsRouterNode}
use Rattle.sb_net.proofs.StandstillRings.{answers_at_stage, requests_at_stage}
use Rattle.sb_net.proofs.StandstillShown.{IsIdleNode, IsShown}
use Rattle.sb_net.proofs.TwoLists.{in_first, in_second}

abbrev ring_in : InletState → RingSide
ring_in x = x.ring

-- the ring to which goes what is held of a ring
abbrev next_of : DirectionSide → InletState → Option ℕ
next_of d x = ring_next (route_of d.rows) d.lane x

-- a router has the rings of both directions
rings_count : (r : RouterSide) → length (router_rings r) ≡ length r.requests.lane.inlets + length r.answers.lane.inlets
rings_count r = let there = r.requests.lane.inlets in let back = r.answers.lane.inlets in
    omega (arith, length-append (map ring_in there) (map ring_in back), length-map there ring_in, length-map back ring_in)

module _ {F T U : Type 0} (e : RoundEnd) (r : RouterSide) where
  abbrev node : Member F T U
  node = Router r

  ring_place : IsShown e node → (k : ℕ) (route : Route) (s : LaneState) (x : InletState) → k < length (rings_of node) → ring_at node k ≡ x.ring →
      slice_index_or (node_holds node) k [] ≡ held_words x.held → slice_index_or (node_next node) k None ≡ ring_next route s x → ShowsInlet e route s x
  ring_place shown k route s x below at held next =
      let got = subst (λ (ring : RingSide). ShowsRing e ring.plan.ring ring) at (shown.rings k below) in
      record {
        lists = record { ring = got.lists; held = ap (λ (ring : RingSide). e.at.held ring.plan.ring) (sym at) ∙ shown.held k below ∙ held };
        ring = got;
        holds = ap (λ (ring : RingSide). e.holds ring.plan.ring) (sym at) ∙ shown.next k below ∙ next;
      }

  -- what there is after a round is what both directions have
  requests_shown : IsShown e node → ShowsLane e (route_of r.requests.rows) r.requests.lane
  requests_shown shown = record {
    inlets = All-from_get_or (ShowsInlet e (route_of r.requests.rows) r.requests.lane) r.requests.lane.inlets no_inlet (λ i below. ring_place shown i (route_of r.requests.rows) r.requests.lane (inlet_at r.requests.lane i) (omega (arith, below, rings_count r))
        (in_first ring_in ring_in r.requests.lane.inlets r.answers.lane.inlets i no_inlet no_ring below)
        (in_first (λ x. held_words x.held) (λ x. held_words x.held) r.requests.lane.inlets r.answers.lane.inlets i no_inlet [] below)
        (in_first (next_of r.requests) (next_of r.answers) r.requests.lane.inlets r.answers.lane.inlets i no_inlet None below));
    outlets = All-from_get_or (λ y. ShowsPort e y.plan.ring y) r.requests.lane.outlets no_port (λ o below. subst (λ (y : PortSide). ShowsPort e y.plan.ring y) (get_or-append r.requests.lane.outlets r.answers.lane.outlets no_port o below)
        (shown.ports o (omega (arith, below, length-append r.requests.lane.outlets r.answers.lane.outlets))));
  }

  answers_shown : IsShown e node → ShowsLane e (route_of r.answers.rows) r.answers.lane
  answers_shown shown = record {
    inlets = All-from_get_or (ShowsInlet e (route_of r.answers.rows) r.answers.lane) r.answers.lane.inlets no_inlet (λ i below. ring_place shown (length r.requests.lane.inlets + i) (route_of r.answers.rows) r.answers.lane (inlet_at r.answers.lane i) (omega (arith, below, rings_count r))
        (in_second ring_in ring_in r.requests.lane.inlets r.answers.lane.inlets i no_inlet no_ring below)
        (in_second (λ x. held_words x.held) (λ x. held_words x.held) r.requests.lane.inlets r.answers.lane.inlets i no_inlet [] below)
        (in_second (next_of r.requests) (next_of r.answers) r.requests.lane.inlets r.answers.lane.inlets i no_inlet None below));
    outlets = All-from_get_or (λ y. ShowsPort e y.plan.ring y) r.answers.lane.outlets no_port (λ o below. subst (λ (y : PortSide). ShowsPort e y.plan.ring y) (get_or-append-add r.requests.lane.outlets r.answers.lane.outlets o no_port)
        (shown.ports (length r.requests.lane.outlets + o) (omega (arith, below, length-append r.requests.lane.outlets r.answers.lane.outlets))));
  }

  -- a router whose directions are idle is an idle node
  both_idle : (stages : Stages) → IsIdleAtRings stages e r.requests.lane → IsIdleAtRings stages e r.answers.lane → IsIdleNode stages e node
  both_idle stages there back = record {
    senders = λ o below. All-get_or (λ y. IsIdleSender stages e y.plan.ring) (router_ports r) o no_port below
        (All-append (λ y. IsIdleSender stages e y.plan.ring) r.requests.lane.outlets r.answers.lane.outlets there.senders back.senders);
    receivers = λ i below. All-get_or (λ x. IsIdleReceiver stages e x.plan.ring) (router_rings r) i no_ring below
        (All-append (λ x. IsIdleReceiver stages e x.plan.ring) (map ring_in r.requests.lane.inlets) (map ring_in r.answers.lane.inlets)
        (All-map (λ x. IsIdleReceiver stages e x.plan.ring) ring_in r.requests.lane.inlets there.receivers) (All-map (λ x. IsIdleReceiver stages e x.plan.ring) ring_in r.answers.lane.inlets back.receivers));
  }

module _ {F T U : Type 0} (network : Network) (routed : IsRouted network) (place number : ℕ) (answer : Turn) (still : answer ≢ Moved) (e : RoundEnd) where
  pub idle_router : (start m : Member F T U) → IsRouterNode network place m → IsWholeMember m → IsMemberTurn number start answer m → IsShown e m → IsIdleNode (network_stages network) e m
  idle_router (Router x) (Router r) built whole turn shown = both_idle e r (network_stages network)
      (unmoved_requests (network_stages network) e (1 + place) x r answer whole turn still (requests_shown e r shown) (requests_at_stage network routed place r.requests built.requests))
      (unmoved_answers (network_stages network) e (answer_stage network place) x r answer whole turn still (answers_shown e r shown) (answers_at_stage network routed place r.answers built.answers))
  idle_router (Host x) (Router r) built whole turn shown = absurd turn
  idle_router (Device x) (Router r) built whole turn shown = absurd turn
  idle_router start (Host h) built whole turn shown = absurd built
  idle_router start (Device d) built whole turn shown = absurd built
