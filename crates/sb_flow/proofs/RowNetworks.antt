-- Rows that are seen as those of an accepted network make a bundle.
use Rattle.std.proofs.Common.{◌≡◌, ◌≤◌, refl, true, List, length, map, None, ap, sym, ◌∙◌, subst}
use Rattle.std.proofs.lemmas.List.{length-map}
use Rattle.sb_packet.specs.Networks.{Network}
use Rattle.sb_flow.specs.Accepted.{IsAccepted, is_limited, misplaced_device, names_what_is_there, overfull_device, overlapping_device, repeated_id, repeated_link_name, repeated_name, route_fault, word_count}
use Rattle.sb_flow.specs.Ends.{backward_link, odd_width, unfit_link, unlinked_place}
use Rattle.sb_flow.specs.Rows.{device_of, host_of, link_of, net_router_of, rows_network}
use Rattle.sb_flow.specs.declared.device_plan.DevicePlan.{DevicePlan}
use Rattle.sb_flow.specs.declared.host_plan.HostPlan.{HostPlan}
use Rattle.sb_flow.specs.declared.link_row.LinkRow.{LinkRow}
use Rattle.sb_flow.specs.declared.router_plan.RouterPlan.{RouterPlan}

-- what a bundle keeps of its network
abbrev pub Kept : Network → Type 0
Kept network = record {
  limits : is_limited network ≡ true;
  names : repeated_name network ≡ None;
  link_names : repeated_link_name network ≡ None;
  named : names_what_is_there network ≡ true;
  ids : repeated_id network ≡ None;
  placed : misplaced_device network ≡ None;
  apart : overlapping_device network ≡ None;
  images : overfull_device network ≡ None;
  widths : odd_width network ≡ None;
  ends : unfit_link network ≡ None;
  forward : backward_link network ≡ None;
  linked : unlinked_place network ≡ None;
  routes : route_fault network ≡ None;
  words : word_count network ≤ 262144;
}

module _ (network : Network) (hosts : List HostPlan) (routers : List RouterPlan) (devices : List DevicePlan) (links : List LinkRow)
    (hosts_are : map host_of hosts ≡ network.hosts) (routers_are : map (net_router_of (length network.devices)) routers ≡ network.routers)
    (devices_are : map device_of devices ≡ network.devices) (links_are : map link_of links ≡ network.links) where
  many : length devices ≡ length network.devices
  many = sym (length-map devices device_of) ∙ ap length devices_are

  -- the rows are the network
  pub rows_are : rows_network hosts routers devices links network.wire ≡ network
  rows_are = rw (many, hosts_are, routers_are, devices_are, links_are) refl

  pub rows_kept : IsAccepted network → Kept (rows_network hosts routers devices links network.wire)
  rows_kept accepted = let rows : IsAccepted (rows_network hosts routers devices links network.wire) = subst IsAccepted (sym rows_are) accepted in record {
    limits = rows.limits;
    names = rows.names;
    link_names = rows.link_names;
    named = rows.named;
    ids = rows.ids;
    placed = rows.placed;
    apart = rows.apart;
    images = rows.images;
    widths = rows.widths;
    ends = rows.ends;
    forward = rows.forward;
    linked = rows.linked;
    routes = rows.routes;
    words = rows.words;
  }
