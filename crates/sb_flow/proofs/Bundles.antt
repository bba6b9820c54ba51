-- What each bundle keeps, in the words of its network.
use Rattle.std.proofs.Common.{◌≡◌, ◌≤◌, ◌<◌, ℕ, List, length, get_or, ap, sym, ◌∙◌, arith, map, Bool, []}
use Rattle.std.specs.Prelude.{All, sum_by, filter, if◌then◌else◌}
use Rattle.std.specs.Vec.{vec_len}
use Rattle.std.proofs.Math.ListN.{get_or-map as get_or-map-both}
use Rattle.std.proofs.lemmas.List.{get_or-map, length-map}
use Rattle.std.proofs.lemmas.List.Elements.{All-map, All-nil}
use Rattle.std.proofs.lemmas.List.Sums.{get_or-le-sum_by}
use Rattle.sb_packet.specs.Networks.{NetDevice, NetHost, Network, has_address}
use Rattle.sb_packet.specs.Scripts.{IsTransaction}
use Rattle.sb_flow.specs.Ways.{aims_at, is_aimed_at, way_links}
use Rattle.sb_flow.specs.Rings.{answered_at, is_answered, way_accesses, words_at}
use Rattle.std.specs.List.{list_any}
use Rattle.sb_flow.specs.Rows.{device_of, host_of, link_of}
use Rattle.sb_flow.specs.Accepted.{IsAccepted}
use Rattle.sb_flow.specs.NetworkOf.{network_of}
use Rattle.sb_flow.specs.Tables.{aimed_links, flow_table_of, leg_of, marks_of, way_of}
use Rattle.sb_flow.specs.declared.leg.Leg.{Leg}
use Rattle.sb_flow.specs.declared.bundle.Bundle.{Bundle}
use Rattle.sb_flow.specs.declared.host_plan.HostPlan.{HostPlan}
use Rattle.sb_flow.specs.declared.device_plan.DevicePlan.{DevicePlan}
use Rattle.sb_flow.proofs.Maps.{list_any_agree, read_there, sum_by_map}
use Rattle.sb_flow.proofs.LinkMarks.{marks_in, marks_in-legs}
use Rattle.sb_flow.proofs.Apart.{device_at-is}
use Rattle.sb_flow.proofs.FlowWords.{flow_answered, flow_words}

-- The network of a bundle is accepted.
pub accepted : (b : Bundle) → IsAccepted (network_of b)
accepted b = record {
  limits = b.limits;
  names = b.names;
  link_names = b.link_names;
  named = b.named;
  ids = b.ids;
  placed = b.placed;
  apart = b.apart;
  images = b.images;
  widths = b.widths;
  ends = b.ends;
  forward = b.forward;
  linked = b.linked;
  lines = All-map (λ h. All IsTransaction h.script) host_of b.hosts.items (λ k d h. (get_or b.hosts.items k d).lines);
  routes = b.routes;
  words = b.words;
}

-- a host of a bundle, and a device, where they were read
pub host_there : (b : Bundle) (h : ℕ) (plan d : HostPlan) → h < length b.hosts.items → plan ≡ get_or b.hosts.items h plan → host_of (get_or b.hosts.items h d) ≡ host_of plan
host_there b h plan d there at = ap host_of (read_there b.hosts.items h plan d there at)

pub device_there : (b : Bundle) (k : ℕ) (row : DevicePlan) (d : NetDevice) → k < length b.devices.items → row ≡ get_or b.devices.items k row → get_or (network_of b).devices k d ≡ device_of row
device_there b k row d there at = get_or-map device_of b.devices.items k row d there ∙ ap device_of (sym at)

-- no script has more words than all together
pub script_words : (b : Bundle) (h : ℕ) (plan : HostPlan) → h < length b.hosts.items → plan ≡ get_or b.hosts.items h plan → sum_by (λ t. t.count) plan.script ≤ 262144
script_words b h plan there at =
    omega (arith, b.words, sum_by_map (λ (n : NetHost). sum_by (λ t. t.count) n.script) host_of b.hosts.items, get_or-le-sum_by (λ (p : HostPlan). sum_by (λ t. t.count) p.script) b.hosts.items h plan there, ap (λ (p : HostPlan). sum_by (λ t. t.count) p.script) at)

-- a host aims at a device where some transaction's address is in the device's range
pub aims_there : (b : Bundle) (k : ℕ) (row : DevicePlan) (host : NetHost) → k < length b.devices.items → row ≡ get_or b.devices.items k row → aims_at (network_of b) host k ≡ list_any (λ t. has_address t.addr (device_of row)) host.script
aims_there b k row host there at = list_any_agree (is_aimed_at (network_of b) k) (λ t. has_address t.addr (device_of row)) host.script
    (λ t. device_at-is (network_of b) t.addr k (device_of row) b.apart (omega (arith, length-map b.devices.items device_of)) ∙ ap (has_address t.addr) (device_there b k row (device_of row) there at))

-- there are as many devices as the bundle has
pub devices_there : (b : Bundle) (k : ℕ) → k < length b.devices.items → k < length (network_of b).devices
devices_there b k there = omega (arith, length-map b.devices.items device_of)

-- the links of a flow, by the test that the code makes
pub aimed_there : (b : Bundle) (h k : ℕ) (plan d : HostPlan) (row : DevicePlan) (aims : Bool) → h < length b.hosts.items → k < length b.devices.items → plan ≡ get_or b.hosts.items h plan → row ≡ get_or b.devices.items k row → aims ≡ list_any (λ t. has_address t.addr (device_of row)) plan.script → aimed_links (network_of b) h (host_of (get_or b.hosts.items h d)) k ≡ (if aims then way_links (network_of b) h k else [])
aimed_there b h k plan d row aims host_in device_in host_at device_at tested =
    ap (λ (host : NetHost). aimed_links (network_of b) h host k) (host_there b h plan d host_in host_at)
    ∙ ap (λ (test : Bool). if test then way_links (network_of b) h k else []) (aims_there b k row (host_of plan) device_in device_at ∙ sym tested)

-- the words of a flow, and those that are answered, by the sums that the code makes
pub words_there : (b : Bundle) (h k : ℕ) (plan d : HostPlan) (row : DevicePlan) → h < length b.hosts.items → k < length b.devices.items → plan ≡ get_or b.hosts.items h plan → row ≡ get_or b.devices.items k row → length (way_accesses (network_of b) (way_of (network_of b) h (host_of (get_or b.hosts.items h d)) k)) ≡ sum_by (words_at (device_of row)) plan.script
words_there b h k plan d row host_in device_in host_at device_at =
    ap (λ (host : NetHost). length (way_accesses (network_of b) (way_of (network_of b) h host k))) (host_there b h plan d host_in host_at)
    ∙ flow_words (network_of b) (host_of plan) k (device_of row) b.placed b.apart (devices_there b k device_in) plan.lines
    ∙ ap (λ (device : NetDevice). sum_by (words_at device) plan.script) (device_there b k row (device_of row) device_in device_at)

pub answered_there : (b : Bundle) (h k : ℕ) (plan d : HostPlan) (row : DevicePlan) → h < length b.hosts.items → k < length b.devices.items → plan ≡ get_or b.hosts.items h plan → row ≡ get_or b.devices.items k row → length (filter (λ a. is_answered a.op) (way_accesses (network_of b) (way_of (network_of b) h (host_of (get_or b.hosts.items h d)) k))) ≡ sum_by (answered_at (device_of row)) plan.script
answered_there b h k plan d row host_in device_in host_at device_at =
    ap (λ (host : NetHost). length (filter (λ a. is_answered a.op) (way_accesses (network_of b) (way_of (network_of b) h host k)))) (host_there b h plan d host_in host_at)
    ∙ flow_answered (network_of b) (host_of plan) k (device_of row) b.placed b.apart (devices_there b k device_in) plan.lines
    ∙ ap (λ (device : NetDevice). sum_by (answered_at device) plan.script) (device_there b k row (device_of row) device_in device_at)

-- a table with the links, marks and words of a flow is the flow's
pub flow_table_from : (network : Network) (h k links : ℕ) (host : NetHost) (legs : List Leg) (on : List Bool) (words answered : ℕ) → links ≡ length network.links → legs ≡ map (leg_of network) (aimed_links network h host k) → on ≡ marks_in links legs → words ≡ length (way_accesses network (way_of network h host k)) → answered ≡ length (filter (λ a. is_answered a.op) (way_accesses network (way_of network h host k))) → record { legs = legs; on = on; words = words; answered = answered } ≡ flow_table_of network h host k
flow_table_from network h k links host legs on words answered many legs_are on_are words_are answered_are =
    let marked : on ≡ marks_of network (aimed_links network h host k) = on_are ∙ (rw (many, legs_are) (marks_in-legs network (aimed_links network h host k))) in
    ap (λ (legs : List Leg). record { legs = legs; on = on; words = words; answered = answered }) legs_are
    ∙ ap (λ (on : List Bool). record { legs = map (leg_of network) (aimed_links network h host k); on = on; words = words; answered = answered }) marked
    ∙ ap (λ (words : ℕ). record { legs = map (leg_of network) (aimed_links network h host k); on = marks_of network (aimed_links network h host k); words = words; answered = answered }) words_are
    ∙ ap (λ (answered : ℕ). record { legs = map (leg_of network) (aimed_links network h host k); on = marks_of network (aimed_links network h host k); words = length (way_accesses network (way_of network h host k)); answered = answered }) answered_are

-- a host that asks for nothing, where one is wanted for what is missing
pub idle_plan : HostPlan
idle_plan = record { name = []; id = 0; qos = 0; prot = 0; script = []; lines = All-nil IsTransaction }

-- the hosts and the devices of a bundle's network are as many as the bundle's
pub host_count : (b : Bundle) → length (network_of b).hosts ≡ vec_len b.hosts
host_count b = length-map b.hosts.items host_of ∙ sym b.hosts.ok.0

pub device_count : (b : Bundle) → length (network_of b).devices ≡ vec_len b.devices
device_count b = length-map b.devices.items device_of ∙ sym b.devices.ok.0

pub link_count : (b : Bundle) → length (network_of b).links ≡ vec_len b.links
link_count b = length-map b.links.items link_of ∙ sym b.links.ok.0

-- a host of the bundle is that of its network
pub host_of_network : (b : Bundle) (h : ℕ) (d : HostPlan) → get_or (network_of b).hosts h (host_of d) ≡ host_of (get_or b.hosts.items h d)
host_of_network b h d = get_or-map-both host_of b.hosts.items h d

-- the limits of a bundle's lists
pub few_devices : (b : Bundle) → length (network_of b).devices ≤ 32
few_devices b = grind (arith, b.limits)
