-- Devices at the rings of their network's links keep the promise for all flows.
use Rattle.std.proofs.Common.{◌<◌, ℕ, List, length, sym, ap, ◌∙◌, arith, subst}
use Rattle.std.specs.Prelude.{All, get_or}
use Rattle.sb_packet.specs.Networks.{Network}
use Rattle.sb_link.specs.RingPlans.{RingPlan}
use Rattle.sb_packet.specs.declared.entry.Entry.{Entry}
use Rattle.sb_device.specs.Sides.{DeviceSide}
use Rattle.sb_laws.specs.Flows.{budget_over}
use Rattle.sb_laws.specs.NodeSides.{HasPort, IsDeviceAt}
use Rattle.sb_laws.specs.Moments.{Moment}
use Rattle.sb_laws.specs.NetworkLayouts.{HasWays, IsRouted, answer_ring, link_into, network_answers, network_flows, network_layout, ring_count}
use Rattle.sb_laws.specs.Runs.{IsDevice}
use Rattle.sb_laws.proofs.CarriedRings.{answer_budget}
use Rattle.sb_laws.proofs.DeviceSides.{device_promise}
use Rattle.sb_laws.proofs.LinksToDevices.{link_into_leads}
use Rattle.sb_laws.proofs.NetworkLaidOut.{begins_back, flow_devices}
use Rattle.sb_laws.proofs.WaysOfRouted.{ways_of_routed}

module _ (network : Network) (ways : HasWays network) where
  pub device_promises : (journal : List Entry) (m : Moment) (devices : ℕ → DeviceSide) → ((d : ℕ) → d < length network.devices → IsDeviceAt network journal m d (devices d)) → All (IsDevice network (network_layout network) journal m) (network_flows network)
  device_promises journal m devices stand k none below =
      let f = get_or (network_flows network) k none in
      let there : f.device < length network.devices = flow_devices network ways k none below in
      let s = stand f.device there in
      let first = begins_back network ways k none below in
      let link = (link_into_leads network ways f.device there).there in
      let within : answer_ring (link_into network f.device) < ring_count network = omega (arith, link) in
      device_promise network (network_layout network) journal m f (devices f.device) s.into
      (subst (λ (r : ℕ). HasPort m r (devices f.device).answers) (sym first) s.back)
      (ap (λ (p : RingPlan). p.budget) s.plan ∙ sym (answer_budget network ways (link_into network f.device) within) ∙ ap (budget_over (network_answers network)) (sym first))
      s.journalled s.serves

-- in a routed network
pub all_devices_promise : (network : Network) → IsRouted network → (journal : List Entry) (m : Moment) (devices : ℕ → DeviceSide) →
    ((d : ℕ) → d < length network.devices → IsDeviceAt network journal m d (devices d)) → All (IsDevice network (network_layout network) journal m) (network_flows network)
all_devices_promise network routed journal m devices stand = device_promises network (ways_of_routed network routed) journal m devices stand
