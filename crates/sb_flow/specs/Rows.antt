-- What the rows of a bundle say, as a network.
use Rattle.std.specs.Prelude.{ℕ, List, length, map, take, Option}
use Rattle.sb_packet.specs.Networks.{NetHost, NetRouter, NetDevice, NetPlace, NetLink, Network, at_host, at_router, at_device}
use Rattle.sb_flow.specs.declared.place.Place.{Place}
use Rattle.sb_flow.specs.declared.place.Place.TheVariants.{Host, Router, Device}
use Rattle.sb_flow.specs.declared.host_plan.HostPlan.{HostPlan}
use Rattle.sb_flow.specs.declared.router_plan.RouterPlan.{RouterPlan}
use Rattle.sb_flow.specs.declared.device_plan.DevicePlan.{DevicePlan}
use Rattle.sb_flow.specs.declared.link_row.LinkRow.{LinkRow}

-- an end of a link
abbrev pub place_of : Place → NetPlace
place_of (Host h) = at_host h
place_of (Router r) = at_router r
place_of (Device d) = at_device d

-- a host
abbrev pub host_of : HostPlan → NetHost
host_of h = record { name = h.name; id = h.id; qos = h.qos; prot = h.prot; script = h.script }

-- a router, whose routes are those to so many devices
abbrev pub net_router_of : ℕ → RouterPlan → NetRouter
net_router_of devices r = record { name = r.name; side = r.side; routes = take devices r.routes }

-- a device
abbrev pub device_of : DevicePlan → NetDevice
device_of d = record { name = d.name; base = d.base; pages = d.pages; readonly = d.readonly; image = d.image }

-- a link
abbrev pub link_of : LinkRow → NetLink
link_of l = record { name = l.name; from = place_of l.from; to = place_of l.to; width = l.width; capacity = l.capacity }

-- the network of such rows
abbrev pub rows_network : List HostPlan → List RouterPlan → List DevicePlan → List LinkRow → Option ℕ → Network
rows_network hosts routers devices links wire = record {
  hosts = map host_of hosts;
  routers = map (net_router_of (length devices)) routers;
  devices = map device_of devices;
  links = map link_of links;
  wire = wire;
}
