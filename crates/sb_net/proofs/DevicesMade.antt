-- A device at its leg is the device of its place.
use Rattle.std.proofs.Common.{◌≡◌, ℕ, ◌<◌, true, List, [], ◌∷◌, ◌++◌, length, sym, ap, ◌∙◌, subst, arith}
use Rattle.std.specs.Prelude.{All, get_or}
use Rattle.std.proofs.lemmas.Option.{slice_get-get_or}
use Rattle.sb_link.specs.declared.ends.RxEnd as rx
use Rattle.sb_link.specs.declared.ends.TxEnd as tx
use Rattle.sb_packet.specs.Networks.{NetDevice, Network, opening_memory}
use Rattle.sb_link.specs.RingPlans.{RingFlows, RingPlan}
use Rattle.sb_flow.specs.Rings.{flow_table, link_ways, network_ranges, ring_plan}
use Rattle.sb_flow.specs.Ways.{NetWay}
use Rattle.sb_port.specs.Ports.{PortSide, fresh_port}
use Rattle.sb_port.specs.declared.leg.InLeg.{InLeg}
use Rattle.sb_node.specs.Sides.{RingSide, ring_side}
use Rattle.sb_device.specs.Devices.{IsWholeDevice}
use Rattle.sb_device.specs.Plans.{IsPlannedFor}
use Rattle.sb_device.specs.Served.{HasServed}
use Rattle.sb_device.specs.Sides.{DeviceSide}
use Rattle.sb_flow.specs.Accepted.{IsAccepted}
use Rattle.sb_laws.specs.Flows.{flows_over}
use Rattle.sb_laws.specs.NetworkLayouts.{HasWays, answer_ring, link_into, network_requests, request_ring}
use Rattle.sb_laws.proofs.AcceptedNetworks.{accepted_is_routed}
use Rattle.sb_laws.proofs.CarriedRings.{answer_ways, flows_there, not_up, request_ways, up}
use Rattle.sb_laws.proofs.FlowMembers.{at_flow}
use Rattle.sb_laws.proofs.MessageFlows.{flow_through}
use Rattle.sb_laws.proofs.NetworkLaidOut.{laid_out}
use Rattle.sb_laws.proofs.WaysOfRouted.{ways_of_routed}
use Rattle.sb_member.specs.declared.member.Member.TheVariants.{Device}
use Rattle.sb_net.specs.Legs.{AreLegsAt, IsInLeg, IsMadeAt, links_in}
use Rattle.sb_net.specs.Standing.{IsDeviceBuilt, device_number}
use Rattle.sb_net.proofs.DeviceMemories.{opening_range}
use Rattle.sb_net.proofs.HostsMade.{only_thing, some_thing}
use Rattle.sb_net.proofs.NodeLinks.{device_link}

any_device : NetDevice
any_device = record { name = []; base = 0; pages = 0; readonly = true; image = [] }

-- the rings of a device's link are planned for it
pub planned_for_device : (network : Network) → IsAccepted network → (d : ℕ) → d < length network.devices → (hears tells : RingPlan)
    → hears ≡ ring_plan network (request_ring (link_into network d)) → tells ≡ ring_plan network (answer_ring (link_into network d)) → IsPlannedFor d (opening_memory network d) hears tells
planned_for_device network good d lt hears tells hears_is tells_is =
    subst (λ p. IsPlannedFor d (opening_memory network d) p tells) (sym hears_is) (subst (λ p. IsPlannedFor d (opening_memory network d) (ring_plan network (request_ring k)) p) (sym tells_is) (record {
      down = not_up network ways k;
      up = up network ways k;
      flows = ap flows_by (answer_ways network ways k there) ∙ sym (ap flows_by (request_ways network ways k there));
      own = λ f goes. at_flow (λ f. f.device ≡ d) f (flows_over (network_requests network) (request_ring k)) ((laid_out network ways).into_flows d lt)
          (flow_through network (request_ring k) (link_ways network k) (flows_over (network_requests network) (request_ring k)) f (request_ways network ways k there) (flows_there network ways k) goes);
      range = let dev = get_or network.devices d any_device in opening_range network (request_ring k) d dev good lt (slice_get-get_or network.devices d any_device lt);
    }))
  where
    k : ℕ
    k = link_into network d

    ways : HasWays network
    ways = ways_of_routed network (accepted_is_routed network good)

    there : k < length network.links
    there = (device_link network good d lt).there

    flows_by : List NetWay → RingFlows
    flows_by list = record { devices = length network.devices; ranges = network_ranges network; through = flow_table list }

module _ {F T U : Type 0} (tx : tx.Ghosts T) (rx : rx.Ghosts U) (network : Network) (good : IsAccepted network) (n : ℕ) (lt : n < length network.devices) (ins : List (InLeg F T U)) (legs : AreLegsAt tx rx network (device_number network n) [] ins) where
  pub device_links : links_in ins ≡ link_into network n ∷ []
  device_links = legs.ins_here ∙ (device_link network good n lt).own

  pub device_some : 0 < length ins
  device_some = some_thing (λ (leg : InLeg F T U). leg.link) ins (link_into network n) device_links

  module _ (rest : List (InLeg F T U)) (leg : InLeg F T U) (popped : ins ≡ rest ++ leg ∷ []) where
    device_ins : ins ≡ leg ∷ []
    device_ins = (only_thing (λ (leg : InLeg F T U). leg.link) ins rest leg (link_into network n) device_links popped).0

    device_linked : leg.link ≡ link_into network n
    device_linked = (only_thing (λ (leg : InLeg F T U). leg.link) ins rest leg (link_into network n) device_links popped).1

    pub device_leg : IsInLeg tx rx network leg
    device_leg = subst (λ xs. All (IsInLeg tx rx network) xs) device_ins legs.ins_fresh 0 leg (omega arith)

    device_hears : rx.planned leg.requests ≡ ring_plan network (request_ring (link_into network n))
    device_hears = device_leg.hears ∙ ap (λ k. ring_plan network (request_ring k)) device_linked

    device_tells : tx.planned leg.answers ≡ ring_plan network (answer_ring (link_into network n))
    device_tells = device_leg.tells ∙ ap (λ k. ring_plan network (answer_ring k)) device_linked

    pub device_planned : IsPlannedFor n (opening_memory network n) (rx.planned leg.requests) (tx.planned leg.answers)
    device_planned = planned_for_device network good n lt (rx.planned leg.requests) (tx.planned leg.answers) device_hears device_tells

    pub device_made : (d : DeviceSide) → IsWholeDevice d → HasServed (opening_memory network n) d → d.number ≡ n → d.journal.entries ≡ []
        → d.requests ≡ ring_side rx leg.requests → d.answers ≡ fresh_port tx leg.answers → IsMadeAt tx rx network (device_number network n) [] ins (Device d)
    device_made d whole serves number journal requests answers = subst (λ xs. IsMadeAt tx rx network (device_number network n) [] xs (Device d)) (sym device_ins) (record {
      whole = whole;
      ports = ap (λ p. p ∷ []) answers;
      rings = ap (λ p. p ∷ []) requests;
      kind = record {
        host = λ low. absurd (omega (arith, low));
        router = λ r low e. absurd (omega (arith, low, e));
        device = λ k low e. let same : n ≡ k = omega (arith, e) in subst (λ k. IsDeviceBuilt network k d) same (record {
          number = number;
          into = ap (λ (r : RingSide). r.plan.ring) requests ∙ ap (λ (p : RingPlan). p.ring) device_hears;
          back = ap (λ (r : PortSide). r.plan.ring) answers ∙ ap (λ (p : RingPlan). p.ring) device_tells;
          serves = serves;
        });
      };
      unserved = journal;
    })
