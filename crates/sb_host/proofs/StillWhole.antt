-- A host whose ends have met the other ones is whole still.
use Rattle.std.proofs.Common.{List, sym, subst}
use Rattle.sb_link.specs.RingPlans.{RingPlan}
use Rattle.sb_packet.specs.declared.item.Item.{Item}
use Rattle.sb_port.specs.Ports.{PortSide, PortState, IsFit}
use Rattle.sb_node.specs.Sides.{RingSide}
use Rattle.sb_node.specs.Kept.{IsPortMet, IsRingMet}
use Rattle.sb_host.specs.Hosts.{HostSide, IsHostInOrder, IsWholeHost}

-- nothing was received
pub whole_at_ring : (h : HostSide) (ring : RingSide) → IsWholeHost h → IsRingMet h.answers ring → IsWholeHost (record h { answers = ring })
whole_at_ring h ring w met =
    let o = w.in_order in record {
      fit = w.fit;
      in_order = subst (λ (list : List Item). IsHostInOrder h.transactions h.requests (record ring { received = list })) (sym met.received)
          (record { issuable = o.issuable; made = o.made; come = o.come; offered = o.offered; closes = o.closes; table = o.table; ends = o.ends; window = o.window });
    }

-- the port has its plan and its state
pub whole_at_port : (h : HostSide) (port : PortSide) → IsWholeHost h → IsPortMet h.requests port → IsWholeHost (record h { requests = port })
whole_at_port h port w met =
    let o = w.in_order in record {
      fit = subst (λ (p : RingPlan). IsFit p port.state) (sym met.plan) (subst (λ (s : PortState). IsFit h.requests.plan s) (sym met.state) w.fit);
      in_order = subst (λ (p : RingPlan). IsHostInOrder h.transactions (record port { plan = p }) h.answers) (sym met.plan)
          (subst (λ (s : PortState). IsHostInOrder h.transactions (record port { plan = h.requests.plan; state = s }) h.answers) (sym met.state)
          (record { issuable = o.issuable; made = o.made; come = o.come; offered = o.offered; closes = o.closes; table = o.table; ends = o.ends; window = o.window }));
    }
