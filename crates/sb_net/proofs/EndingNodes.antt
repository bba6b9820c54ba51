-- Hosts and devices of a network once each ring has given its Close.
use Rattle.std.proofs.Common.{◌≡◌, ℕ, ◌<◌, true, List, length, refl, sym, ap, ◌∙◌, subst, arith}
use Rattle.std.specs.Prelude.{◌==◌, Some, filter, flat_map, slice_get}
use Rattle.std.proofs.lemmas.Option.{slice_get_within}
use Rattle.sb_packet.specs.Accesses.{accesses_of}
use Rattle.sb_packet.specs.Memories.{memory_after}
use Rattle.sb_packet.specs.Networks.{NetHost, Network, opening_memory}
use Rattle.sb_link.specs.Traffic.{has_close, item_accesses}
use Rattle.sb_flow.specs.Rings.{IsCarried}
use Rattle.sb_packet.specs.declared.entry.Entry.{Entry}
use Rattle.sb_node.specs.Sides.{RingSide, received_words}
use Rattle.sb_flow.specs.Accepted.{IsAccepted}
use Rattle.sb_laws.specs.Standstills.{IsFinished, IsWholeStandstill}
use Rattle.sb_laws.specs.Layouts.{IsLayout}
use Rattle.sb_laws.specs.Moments.{Moment}
use Rattle.sb_laws.specs.NetworkLayouts.{HasWays, IsRouted, network_layout, network_stages}
use Rattle.sb_laws.specs.NodeSides.{HasRing}
use Rattle.sb_laws.specs.Runs.{HasAllEnded, HasEntries, IsMomentOf, IsWholeRun}
use Rattle.sb_laws.proofs.AcceptedNetworks.{accepted_is_routed}
use Rattle.sb_laws.proofs.CarriedRings as rings
use Rattle.sb_laws.proofs.Entries.{lawful_journal}
use Rattle.sb_laws.proofs.HostOutcomes.{outcomes_found}
use Rattle.sb_laws.proofs.HostsInNetworks.{belongs}
use Rattle.sb_laws.proofs.LastRounds.{all_ended, all_finished, standstill_run}
use Rattle.sb_laws.proofs.NetworkLaidOut.{laid_out}
use Rattle.sb_laws.proofs.WaysOfRouted.{ways_of_routed}
use Rattle.sb_member.specs.Ends.{port_at, ring_at, rings_of, ports_of}
use Rattle.sb_member.specs.Joints.{joint_at, node_at, receiver_of}
use Rattle.sb_member.specs.Members.{IsWholeMember}
use Rattle.sb_member.specs.declared.joint.Joint.{Joint}
use Rattle.sb_member.specs.declared.member.Member.{Member}
use Rattle.sb_member.specs.declared.member.Member.TheVariants.{Host, Router, Device}
use Rattle.sb_net.specs.Over.{HasFinalMemory, IsOver, TellsOutcomes}
use Rattle.sb_net.specs.Recorded.{IsRecorded, member_entries}
use Rattle.sb_net.specs.RingEnds.{net_moment, net_round_end, port_here, ring_here}
use Rattle.sb_net.specs.Standing.{IsDeviceNode, IsHostNode, StandsFor, device_number}
use Rattle.sb_net.proofs.EndingRings.{node_done, node_whole, port_told, ring_found}
use Rattle.sb_net.proofs.StandingEnds.{ring_stands}

module _ {F T U : Type 0} where
  -- a host has one port and one ring
  host_places : (network : Network) (n : ℕ) (x : Member F T U) → IsHostNode network n x → (0 < length (ports_of x)) × (0 < length (rings_of x))
  host_places network n (Host h) built = (omega arith, omega arith)
  host_places network n (Router r) built = absurd built
  host_places network n (Device d) built = absurd built

  -- a host at its end tells what the journal says
  host_tells : (network : Network) (journal : List Entry) (m : Moment) (n : ℕ) (host : NetHost) (x : Member F T U)
      → IsRouted network → IsLayout network (network_layout network) → IsMomentOf network (network_layout network) journal m → HasAllEnded (network_layout network) m
      → slice_get network.hosts n ≡ Some host → IsHostNode network n x → IsWholeMember x → (port_at x 0).state.close_requested ≡ true → HasRing m (ring_at x 0).plan.ring (ring_at x 0)
      → TellsOutcomes network journal host x
  host_tells network journal m n host (Host h) routed laid now ended at built whole told got =
      outcomes_found network (network_layout network) journal m host h laid routed.pages now ended (belongs network routed n host at h built) whole told got
  host_tells network journal m n host (Router r) routed laid now ended at built whole told got = absurd built
  host_tells network journal m n host (Device d) routed laid now ended at built whole told got = absurd built

  -- a device has stepped its memory by what the journal has of it
  device_holds : (network : Network) (journal : List Entry) (d : ℕ) (x : Member F T U) → filter (λ e. e.device == d) journal ≡ member_entries x → IsDeviceNode network d x → HasFinalMemory network journal d x
  device_holds network journal d (Host h) same built = absurd built
  device_holds network journal d (Router r) same built = absurd built
  device_holds network journal d (Device s) same built = built.serves.stepped ∙ ap (λ (list : List Entry). memory_after (opening_memory network d) (flat_map (λ e. accesses_of e.packet) list)) (sym same)

module _ {F T U : Type 0} (network : Network) (joints : List Joint) (journal : List Entry) (nodes : List (Member F T U)) (accepted : IsAccepted network) (stands : StandsFor network joints nodes)
    (recorded : IsRecorded network journal nodes) (entries : HasEntries network journal)
    (still : IsWholeStandstill network (network_layout network) journal (network_stages network) (net_round_end joints nodes)) where
  routed : IsRouted network
  routed = accepted_is_routed network accepted

  ways : HasWays network
  ways = ways_of_routed network routed

  laid : IsLayout network (network_layout network)
  laid = laid_out network ways

  finished : (r : ℕ) → r < length joints → IsFinished (network_stages network) (net_round_end joints nodes) r
  finished r here = all_finished network (network_layout network) journal (network_stages network) (net_round_end joints nodes) laid still r (subst (λ n. r < n) stands.rings here)

  closed : (r : ℕ) → r < length joints → has_close (port_here joints nodes r).state.sent ≡ true
  closed r here = (finished r here).closed refl

  given : (r : ℕ) → r < length joints → has_close (ring_here joints nodes r).received ≡ true
  given r here = (finished r here).ended refl

  ended : HasAllEnded (network_layout network) (net_moment joints nodes)
  ended = all_ended network (network_layout network) journal (network_stages network) (net_round_end joints nodes) laid still

  run : IsWholeRun network (network_layout network) journal (net_moment joints nodes)
  run = standstill_run network (network_layout network) journal (network_stages network) (net_round_end joints nodes) laid still

  ring_carried : (r : ℕ) → r < length joints → IsCarried network journal r (received_words (receiver_of nodes (joint_at joints r)))
  ring_carried r here = subst (λ (x : RingSide). IsCarried network journal r (item_accesses x.received)) (ring_stands joints nodes r here)
      (rings.carried network ways journal (net_moment joints nodes) run r (subst (λ n. r < n) stands.rings here))

  host_outcomes_told : (n : ℕ) (host : NetHost) → slice_get network.hosts n ≡ Some host → TellsOutcomes network journal host (node_at nodes n)
  host_outcomes_told n host at =
      let there : n < length network.hosts = slice_get_within network.hosts n host at in
      let node : n < length nodes = let count = stands.nodes_count in omega (arith, there, count) in
      let built = stands.hosts n there in
      let places = host_places network n (node_at nodes n) built in
      host_tells network journal (net_moment joints nodes) n host (node_at nodes n) routed laid still.moment ended at built
      (node_whole joints nodes stands.covered stands.joined closed given n node)
      (port_told joints nodes stands.covered stands.joined closed given n 0 node places.0)
      (record { received = ap (λ (x : RingSide). x.received) (ring_found joints nodes stands.covered n 0 node places.1) })

  pub ended_is_over : IsOver network journal joints nodes
  ended_is_over = record {
    lawful = lawful_journal network (network_layout network) journal (net_moment joints nodes) laid still.moment entries ended;
    done = node_done joints nodes stands.covered stands.joined closed given;
    carried = ring_carried;
    outcomes = host_outcomes_told;
    memories = λ d below. device_holds network journal d (node_at nodes (device_number network d)) (recorded.entries d below) (stands.devices d below);
  }
