-- The network that a bundle's text names, its scripts still unread.
use Rattle.std.specs.Prelude.{ℕ, List, [], bytes_eq, codes, map, Option, option_and_then, Result, Ok}
use Rattle.std.specs.List.{find}
use Rattle.sb_packet.specs.Networks.{NetDevice, NetHost, NetRouter, Network}
use Rattle.sb_text.specs.Sentences.{◌>>=◌}
use Rattle.sb_fields.specs.Written.{WrittenBundle, WrittenDevice, WrittenHost, WrittenRoute, WrittenRouter}
use Rattle.sb_fields.specs.declared.fault.LoadFault.{LoadFault}
use Rattle.sb_topology.specs.Names.{GivenNames, links_by, names_by, names_of, place_among, routers_by, wire_named}

-- a host whose script is still unread
abbrev pub silent_host : WrittenHost → NetHost
silent_host host = record { name = host.name; id = host.id; qos = host.qos; prot = host.prot; script = [] }

-- a device
abbrev pub placed_device : WrittenDevice → NetDevice
placed_device d = record { name = d.name; base = d.base; pages = d.pages; readonly = d.readonly; image = d.image }

-- the place of the link to which a route goes from the device of that name, where there is such a route
unfoldable pub route_to : GivenNames → List WrittenRoute → List ℕ → Option ℕ
route_to names routes device = option_and_then (λ route. place_among names.links route.link) (find (λ route. bytes_eq device route.device) routes)

-- a router, with a route or none for each device
abbrev pub placed_router : GivenNames → WrittenRouter → NetRouter
placed_router names router = record { name = router.name; side = router.side; routes = map (route_to names router.routes) names.devices }

-- The network, where all names are as they should be; else the first that isn't. Hosts, routers and devices have one space
-- of names, links have one of their own.
unfoldable pub named_network : WrittenBundle → Result Network LoadFault
named_network bundle = do
  hosts ← names_by (codes "hosts") 0 [] (names_of bundle).hosts
  routers ← routers_by (names_of bundle) 0 hosts bundle.routers
  devices ← names_by (codes "devices") 0 routers (names_of bundle).devices
  links ← links_by (names_of bundle) 0 [] bundle.links
  wire ← wire_named (names_of bundle) bundle.wire
  Ok (record {
    hosts = map silent_host bundle.hosts;
    routers = map (placed_router (names_of bundle)) bundle.routers;
    devices = map placed_device bundle.devices;
    links = links;
    wire = wire;
  })
