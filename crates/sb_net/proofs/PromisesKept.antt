-- A network of nodes that stands is at a moment of a run.
use Rattle.std.proofs.Common.{◌≡◌, ◌≤◌, ◌<◌, ℕ, true, List, length, sym, ap, ◌∙◌, arith, subst}
use Rattle.std.specs.Prelude.{◌==◌, All, IsTrue, filter, flat_map, get_or}
use Rattle.std.proofs.lemmas.Bool.Decides.{nat_tests}
use Rattle.std.proofs.lemmas.List.Elements.{All-get_or}
use Rattle.sb_flow.specs.Accepted.{IsAccepted}
use Rattle.sb_packet.specs.Accesses.{accesses_of}
use Rattle.sb_packet.specs.Journals.{is_in_round_order, journal_accesses}
use Rattle.sb_packet.specs.Networks.{Network, width_to}
use Rattle.sb_flow.specs.Rings.{ring_plan}
use Rattle.sb_packet.specs.Spans.{span_of}
use Rattle.sb_link.specs.Traffic.{AreInTurn}
use Rattle.sb_packet.specs.declared.entry.Entry.{Entry}
use Rattle.sb_packet.proofs.Lists.{All-kept}
use Rattle.sb_port.specs.Ports.{PortSide}
use Rattle.sb_host.specs.Hosts.{HostSide}
use Rattle.sb_host.proofs.Offering.{closes_behind_all, offers_in_order}
use Rattle.sb_router.specs.Routers.{RouterSide}
use Rattle.sb_router.proofs.Forwards.{has_forwarded}
use Rattle.sb_device.specs.Devices.{IsWholeDevice}
use Rattle.sb_device.specs.Served.{entry_accesses}
use Rattle.sb_device.specs.Sides.{DeviceSide}
use Rattle.sb_laws.specs.NodeSides.{HasPort, HasRing, IsDeviceAt, IsHostAt}
use Rattle.sb_laws.specs.Moments.{Moment, arrived}
use Rattle.sb_laws.specs.NetworkLayouts.{IsRouted, answer_ring, link_into, network_answers, network_layout, network_requests, request_ring}
use Rattle.sb_laws.specs.RouterSides.{IsRouterAt, answer_ins, answer_outs, request_ins, request_outs}
use Rattle.sb_laws.specs.Runs.{HasEntries, IsMomentOf}
use Rattle.sb_laws.proofs.AcceptedNetworks.{accepted_is_routed, low_ids}
use Rattle.sb_laws.proofs.DeviceSides.{device_records}
use Rattle.sb_laws.proofs.DevicesInNetworks.{all_devices_promise}
use Rattle.sb_laws.proofs.HostsInNetworks.{all_promises}
use Rattle.sb_laws.proofs.RoutersAlongWays.{answers_along, requests_along}
use Rattle.sb_laws.proofs.WaysOfRouted.{ways_of_routed}
use Rattle.sb_member.specs.Ends.{port_at, ports_of, ring_at, rings_of}
use Rattle.sb_member.specs.Joints.{joint_at, no_node, node_at, receiver_of, sender_of}
use Rattle.sb_member.specs.Members.{IsWholeMember}
use Rattle.sb_member.specs.declared.joint.Joint.{Joint}
use Rattle.sb_member.specs.declared.member.Member.{Member}
use Rattle.sb_member.specs.declared.member.Member.TheVariants.{Device}
use Rattle.sb_net.specs.Recorded.{IsRecorded, member_entries}
use Rattle.sb_net.specs.RingEnds.{AreLinked, net_moment}
use Rattle.sb_net.specs.Standing.{IsDeviceBuilt, StandsFor, device_number, router_number}
use Rattle.sb_net.proofs.DeviceEntries.{narrow_at}
use Rattle.sb_net.proofs.NodeKinds.{device_of, host_of, is_device, is_host, is_router, router_of}
use Rattle.sb_net.proofs.RingMoments.{answers_carried, has_port, has_ring, link_promises, port_promises, received_in_turn, requests_carried}
use Rattle.sb_net.proofs.RouterMoments.{answers_stand, requests_stand}

module _ {F T U : Type 0} (network : Network) (joints : List Joint) (nodes : List (Member F T U)) (journal : List Entry)
    (accepted : IsAccepted network) (s : StandsFor network joints nodes) (linked : AreLinked joints nodes) (recorded : IsRecorded network journal nodes) where
  abbrev m : Moment
  m = net_moment joints nodes

  routed : IsRouted network
  routed = accepted_is_routed network accepted

  whole : (k : ℕ) → k < length nodes → IsWholeMember (node_at nodes k)
  whole k lt = All-get_or IsWholeMember nodes k no_node lt s.joined.whole

  -- the hosts, the routers and the devices by their places
  abbrev hosts : ℕ → HostSide
  hosts n = host_of (node_at nodes n)

  abbrev routers : ℕ → RouterSide
  routers r = router_of (node_at nodes (router_number network r))

  abbrev devices : ℕ → DeviceSide
  devices d = device_of (node_at nodes (device_number network d))

  host_stands : (n : ℕ) → n < length network.hosts → IsHostAt network m n (hosts n)
  host_stands n lt =
      let all = s.nodes_count in
      let inside : n < length nodes = omega (arith, lt, all) in
      let at = is_host network n (node_at nodes n) (s.hosts n lt) in
      record {
        built = at.1;
        whole = subst IsWholeMember at.0 (whole n inside);
        has = subst (λ (node : Member F T U). HasPort m (port_at node 0).plan.ring (port_at node 0)) at.0
            (has_port joints nodes s.covered n 0 inside (subst (λ (node : Member F T U). 0 < length (ports_of node)) (sym at.0) (omega arith)));
      }

  module _ (r : ℕ) (lt : r < length network.routers) where
    abbrev place : ℕ
    place = router_number network r

    router_inside : place < length nodes
    router_inside = let all = s.nodes_count in omega (arith, lt, all)

    router_requests : IsRouterAt network (network_requests network) m (request_ins network r) (request_outs network r) (routers r).requests
    router_requests = let at = is_router network r (node_at nodes place) (s.routers r lt) in requests_stand joints nodes s.joined s.covered place (routers r) router_inside at.0 network r at.1

    router_answers : IsRouterAt network (network_answers network) m (answer_ins network r) (answer_outs network r) (routers r).answers
    router_answers = let at = is_router network r (node_at nodes place) (s.routers r lt) in answers_stand joints nodes s.joined s.covered place (routers r) router_inside at.0 network r at.1

  module _ (d : ℕ) (lt : d < length network.devices) where
    abbrev number : ℕ
    number = device_number network d

    inside : number < length nodes
    inside = let all = s.nodes_count in omega (arith, lt, all)

    abbrev device : DeviceSide
    device = devices d

    is : node_at nodes number ≡ Device device
    is = (is_device network d (node_at nodes number) (s.devices d lt)).0

    built : IsDeviceBuilt network d device
    built = (is_device network d (node_at nodes number) (s.devices d lt)).1

    device_whole : IsWholeDevice device
    device_whole = subst IsWholeMember is (whole number inside)

    ring_there : HasRing m (request_ring (link_into network d)) device.requests
    ring_there = subst (λ (r : ℕ). HasRing m r device.requests) built.into
        (subst (λ (node : Member F T U). HasRing m (ring_at node 0).plan.ring (ring_at node 0)) is
        (has_ring joints nodes s.covered number 0 inside (subst (λ (node : Member F T U). 0 < length (rings_of node)) (sym is) (omega arith))))

    has_one_port : 0 < length (ports_of (node_at nodes number))
    has_one_port = subst (λ (node : Member F T U). 0 < length (ports_of node)) (sym is) (omega arith)

    port_there : HasPort m (answer_ring (link_into network d)) device.answers
    port_there = subst (λ (r : ℕ). HasPort m r device.answers) built.back
        (subst (λ (node : Member F T U). HasPort m (port_at node 0).plan.ring (port_at node 0)) is (has_port joints nodes s.covered number 0 inside has_one_port))

    -- the plan of a device's port is the network's
    port_plan : device.answers.plan ≡ ring_plan network (answer_ring (link_into network d))
    port_plan =
        let at = s.covered.ports number 0 inside has_one_port in
        let ring = (port_at (node_at nodes number) 0).plan.ring in
        let j = joint_at joints ring in
        let same : sender_of nodes j ≡ device.answers =
        ap (λ (k : ℕ). port_at (node_at nodes k) j.out) at.from ∙ ap (port_at (node_at nodes number)) at.out ∙ ap (λ (node : Member F T U). port_at node 0) is in
        let named : ring ≡ answer_ring (link_into network d) = ap (λ (node : Member F T U). (port_at node 0).plan.ring) is ∙ built.back in
        ap (λ (p : PortSide). p.plan) (sym same) ∙ s.sends_by ring at.ring ∙ ap (ring_plan network) named

    entries_are : filter (λ e. e.device == d) journal ≡ device.journal.entries
    entries_are = recorded.entries d lt ∙ ap member_entries is

    same_words : journal_accesses journal d ≡ entry_accesses device.journal.entries
    same_words = ap (flat_map (λ (e : Entry). accesses_of e.packet)) entries_are

    device_stands : IsDeviceAt network journal m d device
    device_stands = record { into = ring_there; back = port_there; plan = port_plan; journalled = same_words; serves = built.serves }

    device_recorded : journal_accesses journal d ≡ arrived m ((network_layout network).into d)
    device_recorded = device_records (network_layout network) journal device.journal.entries m d device.requests ring_there same_words device_whole.in_order.journalled

    -- what the device received is in turn
    requests_in_turn : AreInTurn (ring_plan network (request_ring (link_into network d))) device.requests.received
    requests_in_turn =
        let at = s.covered.rings number 0 inside (subst (λ (node : Member F T U). 0 < length (rings_of node)) (sym is) (omega arith)) in
        let ring = (ring_at (node_at nodes number) 0).plan.ring in
        let j = joint_at joints ring in
        let same : receiver_of nodes j ≡ device.requests =
        ap (λ (k : ℕ). ring_at (node_at nodes k) j.into) at.to ∙ ap (ring_at (node_at nodes number)) at.into ∙ ap (λ (node : Member F T U). ring_at node 0) is in
        let named : ring ≡ request_ring (link_into network d) = ap (λ (node : Member F T U). (ring_at node 0).plan.ring) is ∙ built.into in
        subst (λ (r : ℕ). AreInTurn (ring_plan network r) device.requests.received) named
        (subst (λ x. AreInTurn (ring_plan network ring) x.received) same (received_in_turn joints nodes network s linked ring at.ring))

    narrow_here : All (λ e. span_of e.packet.cmd ≤ width_to network d) (filter (λ e. e.device == d) journal)
    narrow_here = subst (All (λ (e : Entry). span_of e.packet.cmd ≤ width_to network d)) (sym entries_are)
        (narrow_at network (ways_of_routed network routed) d lt device.requests.received device.journal.entries requests_in_turn device_whole.in_order.journalled)

  -- all promises
  pub at_moment : IsMomentOf network (network_layout network) journal m
  at_moment = record {
    links = link_promises joints nodes s.joined linked;
    ports = port_promises joints nodes s.joined;
    carried = requests_carried joints nodes network s linked routed;
    carried_back = answers_carried joints nodes network s linked routed;
    recorded = device_recorded;
    hosts = all_promises network routed offers_in_order closes_behind_all m hosts host_stands;
    devices = all_devices_promise network routed journal m devices device_stands;
    routers = requests_along network m (λ r. (routers r).requests) routed (low_ids network accepted) (λ words d f i o h p. has_forwarded h.forwards f i o p) router_requests;
    routers_back = answers_along network m (λ r. (routers r).answers) routed (low_ids network accepted) (λ words d f i o h p. has_forwarded h.forwards f i o p) router_answers;
  }

  pub has_entries : IsTrue (is_in_round_order journal) → HasEntries network journal
  has_entries ordered = record {
    devices = recorded.devices;
    narrow = λ k x below.
        let e = get_or journal k x in
        let d = e.device in
        All-kept (λ (f : Entry). f.device == d) (λ f. span_of f.packet.cmd ≤ width_to network d) journal (narrow_here d (recorded.devices k x below)) k x below
        (let own : (d == d) ≡ true = grind (arith, nat_tests) in own);
    in_round_order = ordered;
  }
