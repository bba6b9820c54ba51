-- A host that didn't move is idle at its rings, as a node of its network.
use Rattle.std.proofs.Common.{◌≡◌, ◌≢◌, ℕ, ◌<◌, true, [], ◌∷◌, length, sym, ap, ◌∙◌, subst, arith}
use Rattle.std.specs.Prelude.{slice_index_or}
use Rattle.sb_link.specs.declared.answers.Turn.{Turn}
use Rattle.sb_link.specs.declared.answers.Turn.TheVariants.{Moved}
use Rattle.sb_packet.specs.Networks.{Network}
use Rattle.sb_host.specs.Hosts.{HostSide}
use Rattle.sb_router.specs.Lanes.{no_port, no_ring}
use Rattle.sb_laws.specs.NodeSides.{IsHostBuiltFor}
use Rattle.sb_laws.specs.NetworkLayouts.{IsRouted, network_stages}
use Rattle.sb_laws.specs.Standstills.{IsIdleReceiver, IsIdleSender, RoundEnd}
use Rattle.sb_laws.proofs.HostSides.{unmoved_receives, unmoved_sends}
use Rattle.sb_member.specs.Members.{IsMemberTurn, IsWholeMember}
use Rattle.sb_member.specs.declared.member.Member.{Member}
use Rattle.sb_member.specs.declared.member.Member.TheVariants.{Host, Router, Device}
use Rattle.sb_member.proofs.EndsChanged.{below_one}
use Rattle.sb_net.specs.Standing.{IsHostNode}
use Rattle.sb_net.proofs.StandstillRings.{leaves_request}
use Rattle.sb_net.proofs.StandstillShown.{IsIdleNode, IsShown}

module _ (network : Network) (routed : IsRouted network) (place : ℕ) (here : place < length network.hosts) where
  -- a host sends by the ring of its link, which leaves no router
  host_leaves : (h : HostSide) → IsHostBuiltFor network place h → (network_stages network).leaves_host h.requests.plan.ring ≡ true
  host_leaves h built =
      let link = routed.first place here in
      ap (network_stages network).leaves_host (built.asks_by link.0 link.1.first) ∙ leaves_request network routed link.0 link.1.leaves

module _ {F T U : Type 0} (network : Network) (routed : IsRouted network) (place number : ℕ) (here : place < length network.hosts) (answer : Turn) (still : answer ≢ Moved) (e : RoundEnd) where
  pub idle_host : (start m : Member F T U) → IsHostNode network place m → IsWholeMember m → IsMemberTurn number start answer m → IsShown e m → IsIdleNode (network_stages network) e m
  idle_host (Host x) (Host h) built whole turn shown = record {
    senders = λ o below. subst (λ n. IsIdleSender (network_stages network) e (slice_index_or (h.requests ∷ []) n no_port).plan.ring) (sym (below_one o below))
        (unmoved_sends (network_stages network) e x h number answer whole turn still (shown.ports 0 (omega arith)) (shown.waits 0 (omega arith)) (host_leaves network routed place here h built));
    receivers = λ i below. subst (λ n. IsIdleReceiver (network_stages network) e (slice_index_or (h.answers ∷ []) n no_ring).plan.ring) (sym (below_one i below))
        (unmoved_receives (network_stages network) e x h number answer whole turn still (shown.rings 0 (omega arith)) (shown.next 0 (omega arith)) (shown.held 0 (omega arith)));
  }
  idle_host (Router x) (Host h) built whole turn shown = absurd turn
  idle_host (Device x) (Host h) built whole turn shown = absurd turn
  idle_host start (Router r) built whole turn shown = absurd built
  idle_host start (Device d) built whole turn shown = absurd built
