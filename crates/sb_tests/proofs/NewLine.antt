-- The nodes as they are made stand at their rings.
use Rattle.std.proofs.Common.{◌≡◌, lit<, ℕ, zero, suc, ◌<◌, List, [], ◌∷◌, ◌++◌, sym, ap, ◌∙◌, arith, length, map, subst}
use Rattle.std.specs.Prelude.{slice_index_or}
use Rattle.std.proofs.lemmas.List.Elements.{All-from_recursion}
use Rattle.sb_link.specs.declared.ends.RxEnd as rx
use Rattle.sb_link.specs.declared.ends.TxEnd as tx
use Rattle.sb_link.specs.RingPlans.{RingPlan}
use Rattle.sb_flow.specs.Rings.{ring_plan}
use Rattle.sb_port.specs.Ports.{PortSide, fresh_port}
use Rattle.sb_node.specs.Sides.{RingSide, ring_side}
use Rattle.sb_device.specs.Sides.{DeviceSide}
use Rattle.sb_device.specs.Devices.{IsWholeDevice}
use Rattle.sb_host.specs.Hosts.{HostSide, IsWholeHost}
use Rattle.sb_router.specs.Lanes.{InletState, fresh_inlet, no_port, no_ring}
use Rattle.sb_router.specs.Routers.{IsWholeRouter, RouterSide, router_ports, router_rings}
use Rattle.sb_member.specs.Members.{IsWholeMember}
use Rattle.sb_member.specs.Joints.{IsJoined, IsRingPlaced, joint_at, receiver_of, sender_of}
use Rattle.sb_member.specs.declared.member.Member.{Member}
use Rattle.sb_member.specs.declared.member.Member.TheVariants.{Host, Router, Device}
use Rattle.sb_tests.specs.Lines.{sample_joints}
use Rattle.sb_tests.specs.Samples.{sample}

-- the two ends of ring n, as they stand in their nodes
pub record AreEnds (n : ℕ) (port : PortSide) (ring : RingSide) : Type 0 where
  pub sent_by : port.plan.ring ≡ n
  pub received_by : ring.plan.ring ≡ n
  pub marks : port.mark ≡ ring.mark

-- two fresh ends that were made together, by the sample's plan of a ring
pub fresh_ends : {T U : Type 0} (sending : tx.Ghosts T) (receiving : rx.Ghosts U) (n : ℕ) (to : T) (from : U) → (ring_plan sample n).ring ≡ n
    → sending.planned to ≡ ring_plan sample n → receiving.planned from ≡ ring_plan sample n → sending.mark to ≡ receiving.mark from
    → AreEnds n (fresh_port sending to) (fresh_inlet receiving from).ring
fresh_ends sending receiving n to from number down up marks = record {
  sent_by = ap (λ (plan : RingPlan). plan.ring) down ∙ number;
  received_by = ap (λ (plan : RingPlan). plan.ring) up ∙ number;
  marks = marks;
}

-- the same of ends of which the receiving one is seen by itself
pub seen_ends : {T U : Type 0} (sending : tx.Ghosts T) (receiving : rx.Ghosts U) (n : ℕ) (to : T) (from : U) → (ring_plan sample n).ring ≡ n
    → sending.planned to ≡ ring_plan sample n → receiving.planned from ≡ ring_plan sample n → sending.mark to ≡ receiving.mark from
    → AreEnds n (fresh_port sending to) (ring_side receiving from)
seen_ends sending receiving n to from number down up marks = record {
  sent_by = ap (λ (plan : RingPlan). plan.ring) down ∙ number;
  received_by = ap (λ (plan : RingPlan). plan.ring) up ∙ number;
  marks = marks;
}

-- a router's ends, requests first
pub two_rings : (r : RouterSide) (a b : InletState) → r.requests.lane.inlets ≡ a ∷ [] → r.answers.lane.inlets ≡ b ∷ [] → router_rings r ≡ a.ring ∷ b.ring ∷ []
two_rings r a b requests answers =
    ap (λ (list : List InletState). map (λ x. x.ring) list ++ map (λ x. x.ring) r.answers.lane.inlets) requests ∙ ap (λ (list : List InletState). a.ring ∷ map (λ x. x.ring) list) answers

pub two_ports : (r : RouterSide) (a b : PortSide) → r.requests.lane.outlets ≡ a ∷ [] → r.answers.lane.outlets ≡ b ∷ [] → router_ports r ≡ a ∷ b ∷ []
two_ports r a b requests answers = ap (λ (list : List PortSide). list ++ r.answers.lane.outlets) requests ∙ ap (λ (list : List PortSide). a ∷ list) answers

-- what stands at a router's places
module _ (r : RouterSide) (near_hear far_learn : RingSide) (far_ask near_answer : PortSide) (rings : router_rings r ≡ near_hear ∷ far_learn ∷ []) (ports : router_ports r ≡ far_ask ∷ near_answer ∷ []) where
  ring_there : (k : ℕ) → slice_index_or (router_rings r) k no_ring ≡ slice_index_or (near_hear ∷ far_learn ∷ []) k no_ring
  ring_there k = ap (λ (list : List RingSide). slice_index_or list k no_ring) rings

  port_there : (k : ℕ) → slice_index_or (router_ports r) k no_port ≡ slice_index_or (far_ask ∷ near_answer ∷ []) k no_port
  port_there k = ap (λ (list : List PortSide). slice_index_or list k no_port) ports

  ring_within : (k : ℕ) → k < 2 → k < length (router_rings r)
  ring_within k lt = subst (λ (list : List RingSide). k < length list) (sym rings) lt

  port_within : (k : ℕ) → k < 2 → k < length (router_ports r)
  port_within k lt = subst (λ (list : List PortSide). k < length list) (sym ports) lt

  module _ (F T U : Type 0) (h : HostSide) (d : DeviceSide) (asks : AreEnds 0 h.requests near_hear) (learns : AreEnds 1 near_answer h.answers) (hears : AreEnds 2 far_ask d.requests) (answers : AreEnds 3 d.answers far_learn) where
    abbrev line : List (Member F T U)
    line = Host h ∷ Router r ∷ Device d ∷ []

    placed : (n : ℕ) → n < 4 → IsRingPlaced line (joint_at sample_joints n)
    placed zero lt = record { from = lit< tt; to = lit< tt; apart = λ e. cc; out = lit< tt; into = ring_within 0 (lit< tt); marks = asks.marks ∙ sym (ap (λ (x : RingSide). x.mark) (ring_there 0)) }
    placed (suc zero) lt = record { from = lit< tt; to = lit< tt; apart = λ e. cc; out = port_within 1 (lit< tt); into = lit< tt; marks = ap (λ (x : PortSide). x.mark) (port_there 1) ∙ learns.marks }
    placed (suc (suc zero)) lt = record { from = lit< tt; to = lit< tt; apart = λ e. cc; out = port_within 0 (lit< tt); into = lit< tt; marks = ap (λ (x : PortSide). x.mark) (port_there 0) ∙ hears.marks }
    placed (suc (suc (suc zero))) lt = record { from = lit< tt; to = lit< tt; apart = λ e. cc; out = lit< tt; into = ring_within 1 (lit< tt); marks = answers.marks ∙ sym (ap (λ (x : RingSide). x.mark) (ring_there 1)) }
    placed (suc (suc (suc (suc n)))) lt = absurd (omega (arith, lt))

    sent_by : (n : ℕ) → n < 4 → (sender_of line (joint_at sample_joints n)).plan.ring ≡ n
    sent_by zero lt = asks.sent_by
    sent_by (suc zero) lt = ap (λ (x : PortSide). x.plan.ring) (port_there 1) ∙ learns.sent_by
    sent_by (suc (suc zero)) lt = ap (λ (x : PortSide). x.plan.ring) (port_there 0) ∙ hears.sent_by
    sent_by (suc (suc (suc zero))) lt = answers.sent_by
    sent_by (suc (suc (suc (suc n)))) lt = absurd (omega (arith, lt))

    received_by : (n : ℕ) → n < 4 → (receiver_of line (joint_at sample_joints n)).plan.ring ≡ n
    received_by zero lt = ap (λ (x : RingSide). x.plan.ring) (ring_there 0) ∙ asks.received_by
    received_by (suc zero) lt = learns.received_by
    received_by (suc (suc zero)) lt = hears.received_by
    received_by (suc (suc (suc zero))) lt = ap (λ (x : RingSide). x.plan.ring) (ring_there 1) ∙ answers.received_by
    received_by (suc (suc (suc (suc n)))) lt = absurd (omega (arith, lt))

    pub new_line : IsWholeHost h → IsWholeRouter r → IsWholeDevice d → IsJoined sample_joints line
    new_line host router device = record {
      whole = All-from_recursion IsWholeMember line (host, (router, (device, tt)));
      placed = placed;
      sent_by = sent_by;
      received_by = received_by;
    }
