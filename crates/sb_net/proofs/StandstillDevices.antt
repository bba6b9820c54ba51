-- A device that didn't move is idle at its rings, as a node of its network.
use Rattle.std.proofs.Common.{◌≡◌, ◌≢◌, ℕ, ◌<◌, false, [], ◌∷◌, length, refl, sym, ap, ◌∙◌, subst, arith}
use Rattle.std.specs.Prelude.{None, slice_index_or}
use Rattle.sb_link.specs.declared.answers.Turn.{Turn}
use Rattle.sb_link.specs.declared.answers.Turn.TheVariants.{Moved}
use Rattle.sb_packet.specs.Networks.{Network}
use Rattle.sb_node.specs.Idle.{IsIdleAt}
use Rattle.sb_node.specs.Steps.{IsBlockedPort}
use Rattle.sb_device.specs.Devices.{IsWholeDevice}
use Rattle.sb_device.specs.Sides.{DeviceSide}
use Rattle.sb_router.specs.Lanes.{no_port, no_ring}
use Rattle.sb_laws.specs.NetworkLayouts.{IsRouted, link_into, network_stages}
use Rattle.sb_laws.specs.NodeSides.{ShowsPort, ShowsRing}
use Rattle.sb_laws.specs.Standstills.{IsIdleReceiver, IsIdleSender, RoundEnd, Stages}
use Rattle.sb_laws.proofs.DeviceSides.{idle_receiver, idle_sender}
use Rattle.sb_laws.proofs.LinksToDevices.{IsLinkInto, link_into_leads}
use Rattle.sb_laws.proofs.WaysOfRouted.{ways_of_routed}
use Rattle.sb_member.specs.Members.{IsMemberTurn, IsWholeMember}
use Rattle.sb_member.specs.declared.member.Member.{Member}
use Rattle.sb_member.specs.declared.member.Member.TheVariants.{Host, Router, Device}
use Rattle.sb_member.proofs.EndsChanged.{below_one}
use Rattle.sb_net.specs.Standing.{IsDeviceBuilt, IsDeviceNode}
use Rattle.sb_net.proofs.StandstillRings.{answer_there, answers_leave_no_host, device_stage, request_there}
use Rattle.sb_net.proofs.StandstillShown.{IsIdleNode, IsShown}

module _ (network : Network) (routed : IsRouted network) (place : ℕ) (here : place < length network.devices) (d : DeviceSide) (built : IsDeviceBuilt network place d) where
  abbrev stages : Stages
  stages = network_stages network

  -- the link to the device
  abbrev link : ℕ
  link = link_into network place

  leads : IsLinkInto network place
  leads = link_into_leads network (ways_of_routed network routed) place here

  -- its two rings are there, and meet at one stage
  back_there : d.answers.plan.ring < stages.rings
  back_there = subst (λ r. r < stages.rings) (sym built.back) (answer_there network link leads.there)

  into_there : d.requests.plan.ring < stages.rings
  into_there = subst (λ r. r < stages.rings) (sym built.into) (request_there network link leads.there)

  one_stage : stages.from d.answers.plan.ring ≡ stages.to d.requests.plan.ring
  one_stage = ap stages.from built.back ∙ device_stage network routed place link leads.leads ∙ sym (ap stages.to built.into)

  no_host : stages.leaves_host d.answers.plan.ring ≡ false
  no_host = ap stages.leaves_host built.back ∙ answers_leave_no_host network routed link

  module _ (e : RoundEnd) (got : ShowsRing e d.requests.plan.ring d.requests) (shows : ShowsPort e d.answers.plan.ring d.answers) (idle : IsIdleAt (λ ring. IsBlockedPort d.answers) (d.answers ∷ []) (d.requests ∷ [])) where
    sends : IsWholeDevice d → IsIdleSender stages e d.answers.plan.ring
    sends whole = idle_sender stages e d.requests.plan.ring d.answers.plan.ring d.requests d.answers got shows into_there refl one_stage no_host whole.fit whole.in_order.closes idle

    receives : e.holds d.requests.plan.ring ≡ None → e.at.held d.requests.plan.ring ≡ [] → IsIdleReceiver stages e d.requests.plan.ring
    receives holds held = idle_receiver stages e d.requests.plan.ring d.answers.plan.ring d.requests d.answers got shows back_there one_stage holds held idle

module _ {F T U : Type 0} (network : Network) (routed : IsRouted network) (place number : ℕ) (here : place < length network.devices) (answer : Turn) (still : answer ≢ Moved) (e : RoundEnd) where
  pub idle_device : (start m : Member F T U) → IsDeviceNode network place m → IsWholeMember m → IsMemberTurn number start answer m → IsShown e m → IsIdleNode (network_stages network) e m
  idle_device (Device x) (Device d) built whole turn shown = record {
    senders = λ o below. subst (λ n. IsIdleSender (network_stages network) e (slice_index_or (d.answers ∷ []) n no_port).plan.ring) (sym (below_one o below))
        (sends network routed place here d built e (shown.rings 0 (omega arith)) (shown.ports 0 (omega arith)) (turn.idle still) whole);
    receivers = λ i below. subst (λ n. IsIdleReceiver (network_stages network) e (slice_index_or (d.requests ∷ []) n no_ring).plan.ring) (sym (below_one i below))
        (receives network routed place here d built e (shown.rings 0 (omega arith)) (shown.ports 0 (omega arith)) (turn.idle still) (shown.next 0 (omega arith)) (shown.held 0 (omega arith)));
  }
  idle_device (Host x) (Device d) built whole turn shown = absurd turn
  idle_device (Router x) (Device d) built whole turn shown = absurd turn
  idle_device start (Host h) built whole turn shown = absurd built
  idle_device start (Router r) built whole turn shown = absurd built
