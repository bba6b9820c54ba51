-- The rings of a direction that is built for a network belong together.
use Rattle.std.proofs.Common.{◌≡◌, ◌≤◌, ◌<◌, ℕ, Bool, true, false, List, [], length, All, refl, sym, ap, ◌∙◌, arith, subst, inl, inr}
use Rattle.std.specs.Prelude.{◌⊎◌, not, filter, AllPairs, Option, Some, None, get_or, slice_index_or}
use Rattle.std.specs.Option.{option_and_then, option_map_or}
use Rattle.std.proofs.lemmas.Bool.{cases_lt}
use Rattle.std.proofs.lemmas.List.{get_or-map, length-map}
use Rattle.std.proofs.lemmas.List.Elements.{All-weaker}
use Rattle.sb_packet.specs.Accesses.{Access, accesses_of}
use Rattle.sb_packet.specs.Messages.{message_of}
use Rattle.sb_packet.specs.Networks.{Network}
use Rattle.sb_link.specs.RingPlans.{NetFlow, RingPlan, goes_through, message_flow}
use Rattle.sb_flow.specs.Rings.{is_upward, ring_flows, ring_plan}
use Rattle.sb_link.specs.Traffic.{IsPlanned}
use Rattle.sb_packet.specs.declared.packet.Packet.{Packet}
use Rattle.sb_packet.proofs.Lists.{filter_all, filter_none}
use Rattle.sb_router.specs.Forwarding.{IsLaid}
use Rattle.sb_port.specs.Ports.{PortSide}
use Rattle.sb_router.specs.Lanes.{InletState, LaneState, Route, inlet_at, no_inlet, no_port, next_place, outlet_at}
use Rattle.sb_router.specs.Ways.{route_of}
use Rattle.sb_router.specs.Routers.{DirectionSide}
use Rattle.sb_laws.specs.Flows.{Course, flows_over, goes_over, is_among_flows, is_of, is_of_ring, is_same_flow}
use Rattle.sb_laws.specs.NetworkLayouts.{IsRouted}
use Rattle.sb_laws.specs.RouterSides.{IsBuiltFor, course_words}
use Rattle.sb_laws.proofs.CarriedRings.{All-unmap}
use Rattle.sb_laws.proofs.FlowMembers.{among_all, among_passing, at_flow, not_true, one_flow, same_flow}
use Rattle.sb_laws.proofs.MessageFlows.{flow_low, flow_words, of_some}

-- what is known of a ring of a course: its direction, and that its flows are those that go over it by its plan
pub record IsRingOf (network : Network) (c : Course) (up : Bool) (ring : ℕ) : Type 0 where
  pub direction : is_upward ring ≡ up
  pub flows : (f : NetFlow) → goes_through (ring_flows network ring) f ≡ true → is_among_flows f (flows_over c ring) ≡ true

module _ (network : Network) (routed : IsRouted network) (c : Course) (up : Bool) (ins outs : List ℕ) (d : DirectionSide) (built : IsBuiltFor network ins outs d)
    (rings_in : All (IsRingOf network c up) ins) (rings_out : All (IsRingOf network c up) outs)
    (once : All (λ f. AllPairs (λ j k. goes_over c j f ≡ true → goes_over c k f ≡ false) ins) c.flows) where
  abbrev s : LaneState
  s = d.lane

  abbrev route : Route
  route = route_of d.rows

  in_number : (i : ℕ) → i < length s.inlets → get_or ins i 0 ≡ (inlet_at s i).ring.plan.ring
  in_number i lt = ap (λ (l : List ℕ). get_or l i 0) (sym built.comes_by) ∙ get_or-map (λ (x : InletState). x.ring.plan.ring) s.inlets i no_inlet 0 lt

  out_number : (o : ℕ) → o < length s.outlets → slice_index_or outs o 0 ≡ (outlet_at s o).plan.ring
  out_number o lt = ap (λ (l : List ℕ). slice_index_or l o 0) (sym built.sends_by) ∙ get_or-map (λ (y : PortSide). y.plan.ring) s.outlets o no_port 0 lt

  in_count : length ins ≡ length s.inlets
  in_count = ap length (sym built.comes_by) ∙ length-map s.inlets (λ (x : InletState). x.ring.plan.ring)

  ring_in : (i : ℕ) → i < length s.inlets → IsRingOf network c up (inlet_at s i).ring.plan.ring
  ring_in i lt = All-unmap (IsRingOf network c up) (λ (x : InletState). x.ring.plan.ring) s.inlets (subst (All (IsRingOf network c up)) (sym built.comes_by) rings_in) i no_inlet lt

  ring_out : (o : ℕ) → o < length s.outlets → IsRingOf network c up (outlet_at s o).plan.ring
  ring_out o lt = All-unmap (IsRingOf network c up) (λ (y : PortSide). y.plan.ring) s.outlets (subst (All (IsRingOf network c up)) (sym built.sends_by) rings_out) o no_port lt

  in_plan : (i : ℕ) → i < length s.inlets → (inlet_at s i).ring.plan ≡ ring_plan network (inlet_at s i).ring.plan.ring
  in_plan i lt = built.in_plans i no_inlet lt

  out_plan : (o : ℕ) → o < length s.outlets → (outlet_at s o).plan ≡ ring_plan network (outlet_at s o).plan.ring
  out_plan o lt = built.out_plans o no_port lt

  -- a flow that comes by a ring, or goes on to one, is of the ring's
  comes_over : (i : ℕ) (f : NetFlow) → i < length s.inlets → goes_through (inlet_at s i).ring.plan.flows f ≡ true → is_among_flows f (flows_over c (inlet_at s i).ring.plan.ring) ≡ true
  comes_over i f lt e = (ring_in i lt).flows f (sym (ap (λ (plan : RingPlan). goes_through plan.flows f) (in_plan i lt)) ∙ e)

  goes_on : (o : ℕ) (f : NetFlow) → f.host < 32 → f.device < 32 → route f ≡ Some o → is_among_flows f (flows_over c (outlet_at s o).plan.ring) ≡ true
  goes_on o f host device e =
      let lt = built.table.within f o e in
      (ring_out o lt).flows f (sym (ap (λ (plan : RingPlan). goes_through plan.flows f) (out_plan o lt)) ∙ built.table.leads f o host device e)

  -- the words of a packet are of its flow
  packet_words : (i : ℕ) (p : Packet) (g : NetFlow) → i < length s.inlets → message_flow (inlet_at s i).ring.plan.flows (message_of p) ≡ Some g → All (λ a. is_of network g a ≡ true) (accesses_of p)
  packet_words i p g lt e = flow_words network routed (inlet_at s i).ring.plan.ring (message_of p) g (sym (ap (λ (plan : RingPlan). message_flow plan.flows (message_of p)) (in_plan i lt)) ∙ e)

  packet_low : (i : ℕ) (p : Packet) (g : NetFlow) → i < length s.inlets → message_flow (inlet_at s i).ring.plan.flows (message_of p) ≡ Some g → (g.host < 32) × (g.device < 32)
  packet_low i p g lt e =
      let low = flow_low network (inlet_at s i).ring.plan.ring (message_of p) g (sym (ap (λ (plan : RingPlan). message_flow plan.flows (message_of p)) (in_plan i lt)) ∙ e) in
      let fits = p.cmd.host_fits in
      let host = low.0 in
      let device = low.1 in
      let few = routed.few in
      (omega (arith, host, fits), omega (arith, device, few))

  together : (list : List Access) (g : NetFlow) → (g.host < 32) × (g.device < 32) → All (λ a. is_of network g a ≡ true) list → (o : ℕ) → route g ≡ Some o → filter (is_of_ring network c (slice_index_or outs o 0)) list ≡ list
  together list g low of_g o e = filter_all (is_of_ring network c (slice_index_or outs o 0)) list
      (All-weaker (λ a. is_of network g a ≡ true) (λ a. is_of_ring network c (slice_index_or outs o 0) a ≡ true)
      (λ a t. ap (λ (n : ℕ). is_of_ring network c n a) (out_number o (built.table.within g o e)) ∙ of_some network g a (flows_over c (outlet_at s o).plan.ring) t (goes_on o g low.0 low.1 e)) list of_g)

  no_other : (list : List Access) (g : NetFlow) → All (λ a. is_of network g a ≡ true) list → (f : NetFlow) → (f ≡ g) ⊎ (filter (is_of network f) list ≡ [])
  no_other list g of_g f = by_test (is_same_flow f g) refl
    where
      by_test : (b : Bool) → is_same_flow f g ≡ b → (f ≡ g) ⊎ (filter (is_of network f) list ≡ [])
      by_test true same = inl (sym (same_flow f g same))
      by_test false other = inr (filter_none (is_of network f) list (All-weaker (λ a. is_of network g a ≡ true) (λ a. is_of network f a ≡ false)
          (λ a t. not_true (is_of network f a) (λ u. let yes = one_flow network f g a u t in cc)) list of_g))

  -- a flow comes by one ring
  never_twice : (f : NetFlow) (i j : ℕ) → i < j → j < length s.inlets → goes_through (inlet_at s i).ring.plan.flows f ≡ true → goes_through (inlet_at s j).ring.plan.flows f ≡ true → ⊥
  never_twice f i j below lt a b =
      let first = comes_over i f (omega arith) a in
      let second = comes_over j f lt b in
      let flow = among_all (goes_over c (inlet_at s i).ring.plan.ring) f c.flows first in
      let pairs = at_flow (λ g. AllPairs (λ j k. goes_over c j g ≡ true → goes_over c k g ≡ false) ins) f c.flows once flow in
      let here = among_passing (goes_over c (inlet_at s i).ring.plan.ring) f c.flows first in
      let there = among_passing (goes_over c (inlet_at s j).ring.plan.ring) f c.flows second in
      let none = pairs i j 0 below (omega (arith, lt, in_count)) (ap (λ (n : ℕ). goes_over c n f) (in_number i (omega arith)) ∙ here) in
      let never : true ≡ false = sym there ∙ ap (λ (n : ℕ). goes_over c n f) (sym (in_number j lt)) ∙ none in
      cc

  apart : (f : NetFlow) (i j : ℕ) → i < length s.inlets → j < length s.inlets → goes_through (inlet_at s i).ring.plan.flows f ≡ true → goes_through (inlet_at s j).ring.plan.flows f ≡ true → i ≡ j
  apart f i j lt lt' a b = by_order (cases_lt i j) (cases_lt j i)
    where
      by_order : (i < j) ⊎ (j ≤ i) → (j < i) ⊎ (i ≤ j) → i ≡ j
      by_order (inl below) other = absurd (never_twice f i j below lt' a b)
      by_order (inr above) (inl below) = absurd (never_twice f j i below lt b a)
      by_order (inr above) (inr beneath) = omega arith

  leads_on : (i o : ℕ) (p : Packet) → i < length s.inlets → IsPlanned (inlet_at s i).ring.plan (message_of p) → next_place route (inlet_at s i).ring.plan p ≡ Some o → IsPlanned (outlet_at s o).plan (message_of p)
  leads_on i o p lt planned next = by_flow (message_flow (inlet_at s i).ring.plan.flows (message_of p)) refl next
    where
      by_flow : (found : Option NetFlow) → message_flow (inlet_at s i).ring.plan.flows (message_of p) ≡ found → option_and_then route found ≡ Some o → IsPlanned (outlet_at s o).plan (message_of p)
      by_flow None is e = absurd (cc)
      by_flow (Some g) is e =
          let within = built.table.within g o e in
          let low = packet_low i p g lt is in
          let up_in : (inlet_at s i).ring.plan.up ≡ up = ap (λ (plan : RingPlan). plan.up) (in_plan i lt) ∙ (ring_in i lt).direction in
          let up_out : (outlet_at s o).plan.up ≡ up = ap (λ (plan : RingPlan). plan.up) (out_plan o within) ∙ (ring_out o within).direction in
          let flow : message_flow (outlet_at s o).plan.flows (message_of p) ≡ Some g =
          ap (λ (plan : RingPlan). message_flow plan.flows (message_of p)) (out_plan o within) ∙ sym (ap (λ (plan : RingPlan). message_flow plan.flows (message_of p)) (in_plan i lt)) ∙ is in
          record {
            direction = planned.direction ∙ ap not (up_in ∙ sym up_out);
            allowed = ap (λ (f : Option NetFlow). option_map_or (goes_through (outlet_at s o).plan.flows) f false) flow ∙ built.table.leads g o low.0 low.1 e;
          }

  pub built_is_laid : IsLaid (course_words network c outs) route s
  built_is_laid = record {
    one_flow = λ i p g lt e. record { no_other = no_other (accesses_of p) g (packet_words i p g lt e); together = together (accesses_of p) g (packet_low i p g lt e) (packet_words i p g lt e) };
    apart = apart;
    leads_on = leads_on;
  }
