-- A host that waits for a slot misses an answer, as a node of its network; no other node waits.
use Rattle.std.proofs.Common.{◌≡◌, ◌≤◌, ◌<◌, ◌+◌, ◌-◌, ℕ, Bool, true, false, true≢false, inl, inr, List, [], ◌∷◌, length, arith, sym, ap, subst}
use Rattle.std.specs.Prelude.{Some, is_some, slice_get, slice_index_or}
use Rattle.std.proofs.lemmas.Bool.{cases_lt}
use Rattle.sb_packet.specs.Networks.{NetHost, Network}
use Rattle.sb_host.proofs.Missing.{waiting_misses}
use Rattle.sb_host.proofs.Offering.{offers_in_order}
use Rattle.sb_host.proofs.WindowKept.{item_at}
use Rattle.sb_router.specs.Lanes.{no_port}
use Rattle.sb_laws.specs.NetworkLayouts.{IsRouted, network_layout}
use Rattle.sb_laws.specs.Standstills.{MissesAnswer, RoundEnd}
use Rattle.sb_laws.proofs.HostsInNetworks.{belongs}
use Rattle.sb_laws.proofs.MissedAnswers.{waiting_misses_there}
use Rattle.sb_laws.proofs.NetworkLaidOut.{laid_out}
use Rattle.sb_laws.proofs.WaysOfRouted.{ways_of_routed}
use Rattle.sb_member.specs.Ends.{port_at, ports_of}
use Rattle.sb_member.specs.Joints.{node_at}
use Rattle.sb_member.specs.Members.{IsWholeMember}
use Rattle.sb_member.specs.declared.joint.Joint.{Joint}
use Rattle.sb_member.specs.declared.member.Member.{Member}
use Rattle.sb_member.specs.declared.member.Member.TheVariants.{Host, Router, Device}
use Rattle.sb_member.proofs.EndsChanged.{below_one}
use Rattle.sb_net.specs.RingEnds.{node_waits}
use Rattle.sb_net.specs.Standing.{IsDeviceNode, IsHostNode, IsRouterNode, StandsFor, device_number, router_number}
use Rattle.sb_net.proofs.StandstillShown.{IsShown}

module _ {F T U : Type 0} (network : Network) (routed : IsRouted network) (e : RoundEnd) where
  -- a host of the network that waits
  waiting_host : (place : ℕ) → place < length network.hosts → (m : Member F T U) → IsHostNode network place m → IsWholeMember m → IsShown e m → node_waits m ≡ true
      → (o : ℕ) → o < length (ports_of m) → MissesAnswer network (network_layout network) e.at (port_at m o).plan.ring
  waiting_host place here (Host h) built whole shown waits o below =
      let host = item_at network.hosts place here in
      subst (λ n. MissesAnswer network (network_layout network) e.at (slice_index_or (h.requests ∷ []) n no_port).plan.ring) (sym (below_one o below))
      (waiting_misses_there offers_in_order waiting_misses network (network_layout network) e.at host.0 h (laid_out network (ways_of_routed network routed)) routed.pages
      (belongs network routed place host.0 host.1 h built) whole (shown.ports 0 (omega arith)).lists (shown.rings 0 (omega arith)).lists waits)
  waiting_host place here (Router r) built whole shown waits o below = absurd built
  waiting_host place here (Device d) built whole shown waits o below = absurd built

  -- a router and a device don't
  router_never_waits : (place : ℕ) (m : Member F T U) → IsRouterNode network place m → node_waits m ≡ true → ⊥
  router_never_waits place (Host h) built waits = absurd built
  router_never_waits place (Router r) built waits = true≢false (sym waits)
  router_never_waits place (Device d) built waits = absurd built

  device_never_waits : (place : ℕ) (m : Member F T U) → IsDeviceNode network place m → node_waits m ≡ true → ⊥
  device_never_waits place (Host h) built waits = absurd built
  device_never_waits place (Router r) built waits = absurd built
  device_never_waits place (Device d) built waits = true≢false (sym waits)

  -- So a node that waits is a host that misses an answer.
  module _ (joints : List Joint) (nodes : List (Member F T U)) (stands : StandsFor network joints nodes) (k : ℕ) (inside : k < length nodes) where
    pub waiting_node : IsWholeMember (node_at nodes k) → IsShown e (node_at nodes k) → node_waits (node_at nodes k) ≡ true
        → (o : ℕ) → o < length (ports_of (node_at nodes k)) → MissesAnswer network (network_layout network) e.at (port_at (node_at nodes k) o).plan.ring
    waiting_node whole shown waits = elim (cases_lt k hosts) [
      | inl host ↦ waiting_host k host (node_at nodes k) (stands.hosts k host) whole shown waits
      | inr behind ↦ elim (cases_lt (k - hosts) routers) [
        | inl router ↦
            let here : router_number network (k - hosts) ≡ k = omega (arith, behind) in
            absurd (router_never_waits (k - hosts) (node_at nodes k) (subst (λ n. IsRouterNode network (k - hosts) (node_at nodes n)) here (stands.routers (k - hosts) router)) waits)
        | inr further ↦
            let here : device_number network (k - (hosts + routers)) ≡ k = omega (arith, behind, further) in
            let device : k - (hosts + routers) < length network.devices = (let count = stands.nodes_count in omega (arith, behind, further, inside, count)) in
            absurd (device_never_waits (k - (hosts + routers)) (node_at nodes k)
            (subst (λ n. IsDeviceNode network (k - (hosts + routers)) (node_at nodes n)) here (stands.devices (k - (hosts + routers)) device)) waits)
      ]
    ]
      where
        hosts : ℕ
        hosts = length network.hosts

        routers : ℕ
        routers = length network.routers
