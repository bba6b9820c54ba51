-- What was made is built for the bundle's network.
use Rattle.std.proofs.Common.{◌≡◌, ◌<◌, ◌+◌, ℕ, List, [], length, sym, ap, subst, ◌∙◌, arith}
use Rattle.std.specs.Prelude.{replicate}
use Rattle.std.proofs.lemmas.List.{ext_get_or, get_or-replicate, length-replicate}
use Rattle.std.proofs.lemmas.List.FromFn.{get_or-map-range_with_len, length-map-range_with_len}
use Rattle.sb_packet.specs.Networks.{Network}
use Rattle.sb_packet.specs.declared.entry.Entry.{Entry}
use Rattle.sb_flow.specs.NetworkOf.{network_of}
use Rattle.sb_flow.proofs.Bundles.{accepted, device_count, few_devices, host_count}
use Rattle.sb_flow.proofs.HostLimits.{few_hosts}
use Rattle.sb_member.specs.Groups.{dealt_nodes, grouped_nodes}
use Rattle.sb_member.specs.declared.member.Member.{Member}
use Rattle.sb_member.proofs.Dealt.{total_of}
use Rattle.sb_net.specs.Apart.{IsRoomFor}
use Rattle.sb_net.specs.Recorded.{device_entries, entry_counts}
use Rattle.sb_net.specs.Running.{IsBuilt}
use Rattle.sb_net.proofs.NodeNumbers.{few_routers, router_count}
use Rattle.sb_net.proofs.Told.{room_there}
use Rattle.sb_net.proofs.net.build.Goals as goal

-- where no device has served anything, each has no entry
none_counted : {F T U : Type 0} (network : Network) (nodes : List (Member F T U)) → ((d : ℕ) → d < length network.devices → device_entries network nodes d ≡ []) → replicate (length network.devices) 0 ≡ entry_counts network nodes
none_counted network nodes unserved =
    let n = length network.devices in
    let f : ℕ → ℕ = λ d. length (device_entries network nodes d) in
    ext_get_or 0 (replicate n 0) (entry_counts network nodes) (length-replicate {A = ℕ} n 0 ∙ sym (length-map-range_with_len f 0 n))
    (λ d below. let lt : d < n = omega (arith, below, length-replicate {A = ℕ} n 0) in
    get_or-replicate n d 0 0 lt ∙ sym (get_or-map-range_with_len f 0 n d d 0 lt (omega arith) ∙ ap (λ (list : List Entry). length list) (unserved d lt)))

pub returns-clause-built : goal.returns-clause-built
returns-clause-built g c =
    let b = c.args.bundle.now in
    let network = network_of b in
    let made = c.in_ok-nodes.ensures in
    let parts = c.in_ok-nodes.field-0 in
    let first : c.len-hosts.result + c.len.result ≡ length network.hosts + length network.routers = omega (arith, c.len-hosts.ensures, c.len.ensures, host_count b, router_count b) in
    let many : c.len-devices.result ≡ length network.devices = omega (arith, c.len-devices.ensures, device_count b) in
    let nodes_are : dealt_nodes (grouped_nodes c.in_ok-groups.groups.items) ≡ parts.nodes.items = c.in_ok-groups.ensures.nodes in
    subst (λ nodes. IsBuilt network (c.len-hosts.result + c.len.result) c.in_ok-collected.collected.items parts.joints.items nodes) (sym nodes_are) (record {
      accepted = accepted b;
      stands = made.stands;
      met = made.met;
      unserved = made.unserved;
      first_device = first;
      nothing_collected = c.in_ok-collected.ensures.zeros ∙ ap (λ n. replicate n 0) many ∙ none_counted network parts.nodes.items made.unserved;
    })

pub invariant_of-result : goal.invariant_of-result
invariant_of-result g c =
    let b = c.args.bundle.now in
    let network = network_of b in
    let made = c.in_ok-nodes.ensures in
    let parts = c.in_ok-nodes.field-0 in
    let room = c.in_ok-room.room in
    let room_is = c.in_ok-room.ensures in
    let groups = grouped_nodes c.in_ok-groups.groups.items in
    let nodes_are : dealt_nodes groups ≡ parts.nodes.items = c.in_ok-groups.ensures.nodes in
    let long = ap (λ list. length list) nodes_are in
    let total = total_of groups in
    let nodes_all = made.stands.nodes_count in
    let first : c.len-hosts.result + c.len.result ≡ length network.hosts + length network.routers = omega (arith, c.len-hosts.ensures, c.len.ensures, host_count b, router_count b) in
    let many : c.len-devices.result ≡ length network.devices = omega (arith, c.len-devices.ensures, device_count b) in
    let collected_long : length c.in_ok-collected.collected.items ≡ c.len-devices.result = ap (λ list. length list) c.in_ok-collected.ensures.zeros ∙ length-replicate {A = ℕ} c.len-devices.result 0 in
    let collected_len = c.in_ok-collected.collected.ok.0 in
    let ports : length room.ports.items ≡ length parts.joints.items = omega (arith, room_is.ports, c.len-2.ensures) in
    let ends : length room.ends.items ≡ length parts.joints.items = omega (arith, room_is.ends, c.len-2.ensures) in
    record {
      dealt = c.in_ok-groups.ensures.dealt;
      count_is = omega (arith, long, total, nodes_all, first, many, collected_long, collected_len);
      few = omega (arith, first, many, collected_long, collected_len, few_hosts b, few_routers b, few_devices b);
      room_is = subst (λ nodes. IsRoomFor nodes room) (sym nodes_are)
          (room_there network parts.joints.items parts.nodes.items made.stands room ports ends room_is.no_hosts room_is.no_devices
          (omega (arith, room_is.hosts, c.len-hosts.ensures, host_count b)) (omega (arith, room_is.devices, c.len-devices.ensures, device_count b)));
      ports = ports;
      ends = ends;
    }
