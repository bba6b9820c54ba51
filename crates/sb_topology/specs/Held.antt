-- What the code holds while it loads a bundle, in the words of the definitions.
use Rattle.std.specs.Prelude.{length, map}
use Rattle.sb_packet.specs.Networks.{NetLink, Network}
use Rattle.sb_flow.specs.Accepted.{Clash, RouteAt}
use Rattle.sb_flow.specs.Rows.{device_of, link_of, place_of, net_router_of, rows_network}
use Rattle.sb_fields.specs.Written.{WrittenHost}
use Rattle.sb_topology.specs.Names.{GivenNames}
use Rattle.sb_topology.specs.Places.{silent_host}
use Rattle.sb_topology.specs.declared.host_draft.HostDraft.{HostDraft}
use Rattle.sb_topology.specs.declared.link_draft.LinkDraft.{LinkDraft}
use Rattle.sb_topology.specs.declared.name_lists.NameLists.{NameLists}
use Rattle.sb_topology.specs.declared.overlap.Overlap.{Overlap}
use Rattle.sb_topology.specs.declared.plan.Draft.{Draft}
use Rattle.sb_topology.specs.declared.plan.Plan.{Plan}
use Rattle.sb_topology.specs.declared.plan.Rows.{Rows}
use Rattle.sb_topology.specs.declared.stray.Stray.{Stray}

-- the names that a bundle gives
abbrev pub given_names : NameLists → GivenNames
given_names n = record {
  hosts = map (λ name. name.now) n.hosts.items;
  routers = map (λ name. name.now) n.routers.items;
  devices = map (λ name. name.now) n.devices.items;
  links = map (λ name. name.now) n.links.items;
}

-- a host before its script is read
abbrev pub draft_host : HostDraft → WrittenHost
draft_host h = record { name = h.name; id = h.id; qos = h.qos; prot = h.prot; script = map (λ line. line.now) h.lines.items }

-- a link before its width is tested
abbrev pub draft_link : LinkDraft → NetLink
draft_link l = record { name = l.name; from = place_of l.from; to = place_of l.to; width = l.width; capacity = l.capacity }

-- a network before the widths of its links are tested
abbrev pub draft_network : Draft → Network
draft_network d = record {
  hosts = map silent_host (map draft_host d.hosts.items);
  routers = map (net_router_of (length d.devices.items)) d.routers.items;
  devices = map device_of d.devices.items;
  links = map draft_link d.links.items;
  wire = d.wire;
}

-- a network before its scripts are read
abbrev pub plan_network : Plan → Network
plan_network p = record {
  hosts = map silent_host (map draft_host p.hosts.items);
  routers = map (net_router_of (length p.devices.items)) p.routers.items;
  devices = map device_of p.devices.items;
  links = map link_of p.links.items;
  wire = p.wire;
}

-- a network with all that it has
abbrev pub whole_network : Rows → Network
whole_network r = rows_network r.hosts.items r.routers.items r.devices.items r.links.items r.wire

-- two devices that overlap
abbrev pub clash_of : Overlap → Clash
clash_of o = record { at = o.device; earlier = o.other }

-- a route that leads astray or is missing
abbrev pub route_of_stray : Stray → RouteAt
route_of_stray s = record { router = s.router; device = s.device }
