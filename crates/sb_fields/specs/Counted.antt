-- What the code holds of a bundle's text once its numbers are in their ranges.
use Rattle.std.specs.Prelude.{map, option_map}
use Rattle.sb_fields.specs.Held.{written_route}
use Rattle.sb_fields.specs.Written.{WrittenBundle, WrittenDevice, WrittenHost, WrittenLink, WrittenRouter}
use Rattle.sb_fields.specs.declared.counted.CountedHost.{CountedHost}
use Rattle.sb_fields.specs.declared.counted.CountedRouter.{CountedRouter}
use Rattle.sb_fields.specs.declared.counted.CountedDevice.{CountedDevice}
use Rattle.sb_fields.specs.declared.counted.CountedLink.{CountedLink}
use Rattle.sb_fields.specs.declared.counted.CountedBundle.{CountedBundle}

abbrev pub counted_host : CountedHost → WrittenHost
counted_host h = record { name = h.name.now; id = h.id; qos = h.qos; prot = h.prot; script = map (λ line. line.now) h.script.items }

abbrev pub counted_router : CountedRouter → WrittenRouter
counted_router r = record { name = r.name.now; side = r.side; routes = map written_route r.routes.items }

abbrev pub counted_device : CountedDevice → WrittenDevice
counted_device d = record { name = d.name.now; base = d.base; pages = d.pages; readonly = d.readonly; image = d.image.items }

abbrev pub counted_link : CountedLink → WrittenLink
counted_link l = record { name = l.name.now; from = l.from.now; to = l.to.now; width = l.width; capacity = l.capacity }

-- the version is 1
abbrev pub counted_bundle : CountedBundle → WrittenBundle
counted_bundle b = record {
  version = 1;
  hosts = map counted_host b.hosts.items;
  routers = map counted_router b.routers.items;
  devices = map counted_device b.devices.items;
  links = map counted_link b.links.items;
  wire = option_map (λ name. name.now) b.wire;
}
